-- The difference of a time and a stored time fits; it is below 0 where the one is less than the other.
use Rattle.std.proofs.Common.{◌≡◌, ℕ, ◌<◌, ◌^◌, cond, arith, Some, None, Result, Ok, Err, refl, nat_abs}
use Rattle.std.specs.Result.{OkIff, result_ok}
use Rattle.std.specs.Int.{FitsUnsignedBits}
use Rattle.std.proofs.lemmas.Int.{ints}
use lib.IntN.{ℤ, pos, negsuc, ◌-ℤ◌}
use lib.Signed.{mag, lt_z}
use mir.Syntax.{w64}
use mir.Val.{SFits}
use mir.Facts.{to_z-of_z}
use Rattle.laws.specs.Integers.{cut}
use Rattle.laws.proofs.Signed.{mag-sub, sub_back}
use Rattle.counted.proofs.Sizes.{time-mag, stored-mag}
use Rattle.reserved.proofs.steps_since.Goals as goal

below : (t s : ℤ) → lt_z t s ≡ lt_z (t -ℤ s) (pos 0)
below t s = grind (arith, ints)

known : {E : Type 0} (z : ℤ) (r : Result ℕ E) → mag z < 2 ^ 63 → OkIff r (FitsUnsignedBits 64 z) (nat_abs z) → result_ok r ≡ cond (lt_z z (pos 0)) None (Some (cut z))
known (pos n) (Ok x) h k = let e : x ≡ n = k.1 in grind arith
known (pos n) (Err e) h k = absurd (k (omega arith))
known (negsuc n) (Ok x) h k = absurd k.0
known (negsuc n) (Err e) h k = refl

pub overflow_sub-timepos : goal.overflow_sub-timepos
overflow_sub-timepos c =
    let f = c.ranges in
    let h = time-mag c.args.timepos c.requires.timepos_value in
    let k = stored-mag c.args.start c.requires.start_value in
    rw (to_z-of_z f.timepos, to_z-of_z f.start) (omega (arith, mag-sub c.args.timepos c.args.start))

pub returns : goal.returns
returns c =
    let f = c.ranges in
    let h = time-mag c.args.timepos c.requires.timepos_value in
    let k = stored-mag c.args.start c.requires.start_value in
    let fit : SFits w64 (c.args.timepos -ℤ c.args.start) = omega (arith, mag-sub c.args.timepos c.args.start) in
    let r = rw (sub_back f.timepos f.start fit) at c.try_from.ensures in
    rw (c.ok.ensures.value, below c.args.timepos c.args.start) (known (c.args.timepos -ℤ c.args.start) c.try_from.result fit.sfits r)
