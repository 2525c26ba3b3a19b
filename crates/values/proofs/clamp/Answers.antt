-- The arms of the match are the cases of `scaled_for`; what each test says of the bits is said of the number.
use mathlib.Core.Path.{◌≡◌, refl, ◌∙◌}
use mathlib.Core.Bool.{false}
use Prim.Native.Nat.{◌<◌, ◌^◌}
use lib.IntN.{ℤ, pos, ◌+ℤ◌, ◌*ℤ◌}
use lib.Signed.{mag}
use mir.Syntax.{w32, w64}
use mir.Val.{SFits}
use mir.Facts.{to_z-of_z}
use native.Mathlib.Omega.{arith}
use borrow.Author.Rules.{rules, sfits_of}
use Rattle.laws.proofs.Signed.{lt-back-l, mag-add, mag-mul}
use Rattle.laws.proofs.Fitting.{fit}
use Rattle.laws.proofs.Bits.{bits-eq, bits-differ}
use Rattle.laws.specs.Integers.{eq_z}
use Rattle.values.specs.Clamp.{clamped, scaled_for, top_of}
use Rattle.values.proofs.Targets.{told-controller, told_below, told-above}
use Rattle.values.proofs.clamp.Goals as goal

small : {z : ℤ} → mag z < 2 ^ 31 → SFits w32 z
small h = record { sfits = h }

-- no bend either
module _ (c : goal.In_default) where
  not-small : eq_z c.args.target (pos 128) ≡ false
  not-small = bits-differ c.ranges.target (small {z = pos 128} (omega arith)) (search rules)

  not_wide : eq_z c.args.target (pos 129) ≡ false
  not_wide = bits-differ c.ranges.target (small {z = pos 129} (omega arith)) (search rules)

-- no bend either
module _ (c : goal.In_default-2) where
  not-small-at-2 : eq_z c.args.target (pos 128) ≡ false
  not-small-at-2 = bits-differ c.ranges.target (small {z = pos 128} (omega arith)) (search rules)

  not_wide-at-2 : eq_z c.args.target (pos 129) ≡ false
  not_wide-at-2 = bits-differ c.ranges.target (small {z = pos 129} (omega arith)) (search rules)

pub returns-in-128 : goal.returns-in-128
unfolding clamped scaled_for top_of
returns-in-128 c =
    let e : c.args.target ≡ pos 128 = bits-eq c.ranges.target (small {z = pos 128} (omega arith)) (search rules) in
    to_z-of_z {w = w64} (sfits_of c.value_range.type_inv) ∙ c.value_range.ensures
    ∙ rw (to_z-of_z c.ranges.v, to_z-of_z (fit w64 (c.args.v *ℤ pos 128) (omega (arith, mag-mul c.args.v 128))), e, told-above (pos 128) refl)

pub returns-in-129 : goal.returns-in-129
unfolding clamped scaled_for top_of
returns-in-129 c =
    let e : c.args.target ≡ pos 129 = bits-eq c.ranges.target (small {z = pos 129} (omega arith)) (search rules) in
    to_z-of_z {w = w64} (sfits_of c.value_range-in-129.type_inv) ∙ c.value_range-in-129.ensures
    ∙ rw (to_z-of_z c.ranges.v, to_z-of_z (fit w64 (c.args.v +ℤ pos 8192) (omega (arith, mag-add c.args.v (pos 8192)))), e, told-above (pos 129) refl)

pub returns-in-0-to-127 : goal.returns-in-0-to-127
unfolding clamped scaled_for top_of
returns-in-0-to-127 c =
    let f = c.ranges.target in
    let q = told-controller c.args.target (lt-back-l (pos 0) f (search rules)) (lt-back-l (pos 128) f (search rules)) in
    to_z-of_z {w = w64} (sfits_of c.value_range-in-0-to-127.type_inv) ∙ c.value_range-in-0-to-127.ensures ∙ rw (to_z-of_z c.ranges.v, q)

pub returns-in_default : goal.returns-in_default
unfolding clamped scaled_for top_of
returns-in_default c =
    rw (told_below c.args.target (lt-back-l (pos 0) c.ranges.target (search rules)), not-small c, not_wide c)

pub returns-in_default-2 : goal.returns-in_default-2
unfolding clamped scaled_for top_of
returns-in_default-2 c =
    rw (told-above c.args.target (lt-back-l (pos 128) c.ranges.target (search rules)), not-small-at-2 c, not_wide-at-2 c)
