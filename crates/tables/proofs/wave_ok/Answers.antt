-- `tables::wave_ok`: a list that is no curve answers at once; past that the other tests are joined.
use mathlib.Core.Path.{refl, sym, ap, ◌∙◌}
use mathlib.Core.Bool.{Bool, not, ◌||◌}
use borrow.Author.Rules.{rules}
use mir.Syntax.{w32}
use lib.Dec.{leb, eqb}
use Rattle.laws.proofs.Tests.{both, is_at, and_no, and_yes}
use Rattle.numbers.specs.Ranges.{is_target}
use Rattle.counted.proofs.Counted.{numbers-count, curve-numbers}
use Rattle.tables.specs.Reservations.{ok_wave}
use Rattle.tables.proofs.wave_ok.Goals as goal

pub returns-then-not-curve_ok : goal.returns-then-not-curve_ok
unfolding ok_wave
returns-then-not-curve_ok c = and_no _ (sym c.curve_ok.ensures ∙ c.if-not-curve_ok.true)

pub lengths_ok-requires : goal.lengths_ok-requires
lengths_ok-requires c =
    let x = c.args.e in
    numbers-count x.values (curve-numbers x.values (sym c.curve_ok.ensures ∙ c.if-not-curve_ok.false))

pub returns : goal.returns
unfolding ok_wave
returns c =
    let x = c.args.e in
    and_yes (sym c.curve_ok.ensures ∙ c.if-not-curve_ok.false)
    (both {b = not (eqb x.mode 1) || c.lengths_ok.result}
    (both {b = leb x.mode 2} (is_at w32 {z = x.target} is_target (search rules) c.is_target.ensures) refl)
    (ap (λ (b : Bool). not (eqb x.mode 1) || b) c.lengths_ok.ensures))
