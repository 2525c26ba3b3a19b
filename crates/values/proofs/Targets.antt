-- What the tests of a target's code say: `is_controller` for the ways in which a match asks it.
--     told-controller   from 0 to 127
--     told_below, told-above   not a controller
use mathlib.Core.Path.{◌≡◌, refl}
use mathlib.Core.Bool.{true, false, true≢false}
use native.Mathlib.Omega.{arith}
use borrow.Author.Tests.{ltb-true, ltb-false, le-leb, lt-leb}
use lib.IntN.{ℤ, pos, negsuc}
use lib.Signed.{lt_z}
use Rattle.laws.specs.Integers.{inside}
use Rattle.numbers.specs.Ranges.{is_controller}

pub told-controller : (z : ℤ) → lt_z z (pos 0) ≡ false → lt_z z (pos 128) ≡ true → is_controller z ≡ true
unfolding is_controller inside
told-controller (pos n) p q = let h = ltb-true n 128 q in rw (le-leb 0 n (omega arith), le-leb n 127 (omega arith))
told-controller (negsuc n) p q = absurd (true≢false p)

pub told_below : (z : ℤ) → lt_z z (pos 0) ≡ true → is_controller z ≡ false
unfolding is_controller inside
told_below (pos n) p = let h = ltb-true n 0 p in absurd (omega arith)
told_below (negsuc n) p = refl

pub told-above : (z : ℤ) → lt_z z (pos 128) ≡ false → is_controller z ≡ false
unfolding is_controller inside
told-above (pos n) p = let h = ltb-false n 128 p in rw (le-leb 0 n (omega arith), lt-leb n 127 (omega arith))
told-above (negsuc n) p = absurd (true≢false p)
