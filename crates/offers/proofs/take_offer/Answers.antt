-- Both sides by whether the offer is dropped; what is not is one value, told by its contract.
use mathlib.Core.Path.{◌≡◌, refl, sym, ap, ◌∙◌}
use mathlib.Core.Bool.{Bool, true, false}
use native.Mathlib.Omega.{arith}
use lib.IntN.{ℤ}
use mir.Syntax.{w64}
use mir.Val.{SFits, to_z, of_z}
use mir.Facts.{to_z-of_z}
use Rattle.std.specs.Prelude.{Some}
use Rattle.budget.specs.Budgets.{fits}
use Rattle.numbers.specs.Limits.{value_bytes}
use Rattle.values.specs.declared.Wrote.{Wrote}
use Rattle.values.specs.Value.{next_seed, paid, wrote_of}
use Rattle.offers.specs.Rules.{rule_of}
use Rattle.offers.specs.Walks.{advance, emit, dropped}
use Rattle.offers.proofs.take_offer.Goals as goal
use Rattle.offers.proofs.take_offer.Goals.{After-one_value-r}

pub returns-then-is_dropped : goal.returns-then-is_dropped
unfolding advance emit
returns-then-is_dropped c =
    let q : dropped (rule_of c.args.w) c.args.k c.args.o ≡ true = sym c.is_dropped.ensures ∙ c.if-is_dropped.true in
    rw q (refl, refl)

module _ (c : After-one_value-r) where
  value-is : to_z w64 (of_z w64 c.args.o.value) ≡ c.args.o.value
  value-is = let near = c.requires.1.value in to_z-of_z (let f : SFits w64 c.args.o.value = omega arith in f)

  taken : dropped (rule_of c.args.w) c.args.k c.args.o ≡ false
  taken = sym c.is_dropped.ensures ∙ c.if-is_dropped.false

  fits_is : (t : Bool) → c.one_value-r.result.fits ≡ t → fits value_bytes c.args.k.budget ≡ t
  unfolding wrote_of
  fits_is t e = sym (ap (λ (r : Wrote). r.fits) c.one_value-r.ensures) ∙ e

pub returns-then-r : goal.returns-then-r
unfolding advance emit wrote_of rule_of
returns-then-r c =
    let a = (goal.at.returns-then-r c).After-one_value-r in (
      rw (taken a, c.one_value-r.ensures) (ap (λ (z : ℤ). record { last = Some z; budget = paid value_bytes (next_seed c.args.w) c.args.k.budget }) (value-is a)),
      rw (taken a, fits_is a true c.if-r.true, c.one_value-r.ensures),
    )

pub returns-else-r : goal.returns-else-r
unfolding advance emit wrote_of rule_of
returns-else-r c =
    let a = (goal.at.returns-else-r c).After-one_value-r in (
      rw (taken a, c.one_value-r.ensures) (ap (λ (z : ℤ). record { last = Some z; budget = paid value_bytes (next_seed c.args.w) c.args.k.budget }) (value-is a)),
      rw (taken a, fits_is a false c.if-r.false),
    )
