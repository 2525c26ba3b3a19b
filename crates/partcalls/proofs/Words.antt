-- A number of 32 signed bits is small.
use mathlib.Core.Path.{◌≡◌}
use mathlib.Core.Bool.{true}
use Prim.Native.Nat.{◌<◌, ◌^◌}
use native.Mathlib.Omega.{arith}
use lib.IntN.{ℤ, pos, negsuc}
use lib.Signed.{mag, le_z}
use Rattle.laws.specs.Integers.{inside}
use Rattle.laws.proofs.Ranges.{left, right}
use Rattle.laws.proofs.Signed.{within}
use Rattle.numbers.specs.Ranges.{is_word}

pub word_small : (z : ℤ) → is_word z ≡ true → mag z < 2 ^ 40
unfolding is_word inside
word_small z e =
    let l = left (le_z (negsuc 2147483647) z) (le_z z (pos 2147483647)) e in
    let r = right (le_z (negsuc 2147483647) z) (le_z z (pos 2147483647)) e in
    omega (arith, within 2147483647 z l r)
