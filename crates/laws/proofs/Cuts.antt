-- A signed number cut off below 0 (`cut`), and differences that are not below 0.
--     cut-none, cut-some   the cut of a number at most 0, or above it
--     sub-non_neg           what is not less, less the other, is not below 0
--     non_neg-cut           the cut of such a number is its size
use mathlib.Core.Path.{◌≡◌, refl}
use mathlib.Core.Bool.{true, false, true≢false}
use Prim.Native.Nat.{◌-◌, ◌^◌, ◌≤◌, ◌<◌}
use native.Mathlib.Omega.{arith}
use borrow.Author.Tests.{leb-true}
use lib.Dec.{T}
use lib.IntN.{ℤ, pos, negsuc, nat_abs, ◌-ℤ◌}
use lib.Signed.{mag, lt_z, le_z, non_neg}
use Rattle.laws.specs.Integers.{cut}
use Rattle.laws.proofs.Signed.{mag-sub}
use Rattle.laws.proofs.Bias.{lift, lift-sub, lt-false}

pub cut-none : (z : ℤ) → le_z z (pos 0) ≡ true → 0 ≡ cut z
cut-none (pos n) e = let h = leb-true n 0 e in omega arith
cut-none (negsuc n) e = refl

pub non_neg-cut : (z : ℤ) → T (non_neg z) → nat_abs z ≡ cut z
non_neg-cut (pos n) h = refl
non_neg-cut (negsuc n) h = absurd h

pub cut-some : (z : ℤ) → le_z z (pos 0) ≡ false → nat_abs z ≡ cut z
cut-some (pos n) e = refl
cut-some (negsuc n) e = absurd (true≢false e)

lift-non_neg : (z : ℤ) → mag z < 2 ^ 64 → 2 ^ 64 ≤ lift z → T (non_neg z)
lift-non_neg (pos n) h k = tt
lift-non_neg (negsuc n) h k = absurd (omega arith)

pub sub-non_neg : (a b : ℤ) → mag a < 2 ^ 62 → mag b < 2 ^ 62 → lt_z a b ≡ false → T (non_neg (a -ℤ b))
sub-non_neg a b h k e =
    let l = lt-false a b (omega arith) (omega arith) e in
    lift-non_neg (a -ℤ b) (omega (arith, mag-sub a b)) (omega (arith, lift-sub a b h k))
