-- `cycles::key_of`: the numbers of the controllers, the two bends, and the codes that are no target's below and above them.
use mathlib.Core.Path.{◌≡◌, refl}
use mathlib.Core.Bool.{true, false, true≢false}
use Prim.Native.Nat.{◌<◌}
use native.Mathlib.Omega.{arith}
use borrow.Author.Tests.{ltb-true, ltb-false, le-leb, lt-leb}
use borrow.Author.Rules.{rules}
use lib.Dec.{T}
use lib.IntN.{ℤ, pos, negsuc, nat_abs}
use lib.Signed.{lt_z, non_neg}
use mir.Facts.{to_z-of_z}
use Rattle.laws.specs.Integers.{inside}
use Rattle.numbers.specs.Ranges.{is_target}
use Rattle.cycles.specs.Due.{code_of, key}
use Rattle.cycles.proofs.key_of.Goals as goal

controller : (z : ℤ) → lt_z z (pos 0) ≡ false → lt_z z (pos 128) ≡ true → T (non_neg z) × (nat_abs z ≡ key z) × (nat_abs z < 128)
unfolding code_of is_target inside
controller (pos n) p q = let h = ltb-true n 128 q in (tt, rw (le-leb 0 n (omega arith), le-leb n 129 (omega arith)) (omega arith), h)
controller (negsuc n) p q = absurd (true≢false p)

bend : (z : ℤ) → lt_z z (pos 128) ≡ false → lt_z z (pos 130) ≡ true → 128 ≡ key z
unfolding code_of is_target inside
bend (pos n) p q =
    let h = ltb-false n 128 p in
    let l = ltb-true n 130 q in
    rw (le-leb 0 n (omega arith), le-leb n 129 (omega arith)) (omega arith)
bend (negsuc n) p q = absurd (true≢false p)

below : (z : ℤ) → lt_z z (pos 0) ≡ true → 0 ≡ key z
unfolding code_of is_target inside
below (pos n) p = let h = ltb-true n 0 p in absurd (omega arith)
below (negsuc n) p = refl

above : (z : ℤ) → lt_z z (pos 130) ≡ false → 0 ≡ key z
unfolding code_of is_target inside
above (pos n) p = let h = ltb-false n 130 p in rw (le-leb 0 n (omega arith), lt-leb n 129 (omega arith))
above (negsuc n) p = absurd (true≢false p)

pub returns-in-0-to-127 : goal.returns-in-0-to-127
returns-in-0-to-127 c = rw (to_z-of_z c.ranges.target) (controller c.args.target (search rules) (search rules)).1

pub returns-in-128 : goal.returns-in-128
returns-in-128 c = bend c.args.target (search rules) (search rules)

pub returns-in_default : goal.returns-in_default
returns-in_default c = below c.args.target (search rules)

pub returns-in_default-2 : goal.returns-in_default-2
returns-in_default-2 c = above c.args.target (search rules)
