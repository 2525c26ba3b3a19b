-- Random moves a number by at most half its width, whatever the seed; so a caller that bounds the number and
-- the width knows that the sum fits. The other laws say of each step of the sum what it is in the definition.
use mathlib.Core.Path.{◌≡◌, refl}
use mathlib.Core.Bool.{Bool, true, false, true≢false}
use Prim.Native.Nat.{ℕ, ◌+◌, ◌/◌, ◌%◌, ◌≤◌, ◌<◌, ◌^◌}
use native.Mathlib.Omega.{arith}
use native.Mathlib.Nat.{mod-lt}
use borrow.Author.Tests.{leb-false}
use lib.IntN.{ℤ, pos, negsuc, nat_abs, ◌+ℤ◌, ◌-ℤ◌}
use lib.Signed.{mag, le_z, quot_z, rem_z}
use mir.Syntax.{w64}
use mir.Val.{SFits}
use Rattle.laws.specs.Integers.{cut}
use Rattle.laws.proofs.Signed.{mag-move, nat_abs-sub}
use Rattle.numbers.specs.Random.{spread}

-- what the value gains where the width is above 0
abbrev pub gain : ℤ → ℕ → ℤ
gain n y = pos (y % cut n) -ℤ pos (cut n / 2)

pub gain-size : (n : ℤ) (y : ℕ) → le_z n (pos 0) ≡ false → nat_abs (gain n y) ≤ cut n / 2
gain-size (pos n) y up = nat_abs-sub (y % n) (n / 2) (n / 2) (omega (arith, mod-lt y (leb-false n 0 up))) (omega arith)
gain-size (negsuc n) y up = absurd (true≢false up)

pub spread-off : (v n : ℤ) (y : ℕ) → le_z n (pos 0) ≡ true → spread v n y ≡ v
unfolding spread
spread-off v n y e = rw e

pub spread-on : (v n : ℤ) (y : ℕ) → le_z n (pos 0) ≡ false → spread v n y ≡ v +ℤ gain n y
unfolding spread
spread-on v n y e = rw e

pub spread-mag : (v n : ℤ) (y : ℕ) → mag (spread v n y) ≤ mag v + cut n / 2
spread-mag v n y = go (le_z n (pos 0)) refl
  where
    go : (t : Bool) → le_z n (pos 0) ≡ t → mag (spread v n y) ≤ mag v + cut n / 2
    go true e = rw (spread-off v n y e) (omega arith)
    go false e = rw (spread-on v n y e) (mag-move v (gain n y) (cut n / 2) (gain-size n y e))

-- the code's remainder and half
pub rem_is : (n : ℤ) (y : ℕ) → le_z n (pos 0) ≡ false → rem_z (pos y) n ≡ pos (y % cut n)
rem_is (pos n) y up = refl
rem_is (negsuc n) y up = absurd (true≢false up)

pub half_is : (n : ℤ) → le_z n (pos 0) ≡ false → quot_z n (pos 2) ≡ pos (cut n / 2)
half_is (pos n) up = refl
half_is (negsuc n) up = absurd (true≢false up)

module _ (v n : ℤ) (y : ℕ) (hv : mag v < 2 ^ 40) (hn : mag n < 2 ^ 40) (up : le_z n (pos 0) ≡ false) where
  cut-is : (cut n < 2 ^ 40) × (0 < cut n)
  cut-is = go n hn up
    where
      go : (n : ℤ) → mag n < 2 ^ 40 → le_z n (pos 0) ≡ false → (cut n < 2 ^ 40) × (0 < cut n)
      go (pos n) h e = (h, leb-false n 0 e)
      go (negsuc n) h e = absurd (true≢false e)

  pub rem-fits : SFits w64 (pos (y % cut n))
  rem-fits = omega (arith, cut-is, mod-lt y cut-is.1)

  pub half-fits : SFits w64 (pos (cut n / 2))
  half-fits = omega (arith, cut-is)

  pub gain-fits : SFits w64 (gain n y)
  gain-fits = omega (arith, cut-is, gain-size n y up, mag-nat_abs (gain n y))
    where
      mag-nat_abs : (z : ℤ) → mag z ≤ nat_abs z
      mag-nat_abs (pos a) = omega arith
      mag-nat_abs (negsuc a) = omega arith

  pub sum_fits : SFits w64 (v +ℤ gain n y)
  sum_fits = omega (arith, cut-is, mag-move v (gain n y) (cut n / 2) (gain-size n y up))
