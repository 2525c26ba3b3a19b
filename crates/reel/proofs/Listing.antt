-- The numbers of a list, by their places.
use mathlib.Core.Path.{◌≡◌, refl, ap, ◌∙◌}
use Prim.Native.Nat.{ℕ, zero, suc, ◌+◌, ◌*◌, ◌<◌}
use native.Mathlib.Nat.{not-suc-le-zero}
use native.Mathlib.Omega.{arith}
use mathlib.Core.List.{List}
use lib.IntN.{ℤ}
use lib.ListN.{length, get_or}
use Rattle.text.specs.Little.{number_at}
use Rattle.reel.specs.Numbers.{numbers_at}

module _ (s : List ℕ) where
  pub length-numbers : (p n : ℕ) → length (numbers_at s p n) ≡ n
  unfolding numbers_at
  length-numbers p zero = refl
  length-numbers p (suc n) = ap suc (length-numbers (p + 4) n)

  pub numbers-at : (p n i : ℕ) (d : ℤ) → i < n → get_or (numbers_at s p n) i d ≡ number_at s (p + 4 * i)
  unfolding numbers_at
  numbers-at p zero i d h = absurd (not-suc-le-zero h)
  numbers-at p (suc n) zero d h = let e : p ≡ p + 4 * 0 = omega arith in ap (number_at s) e
  numbers-at p (suc n) (suc i) d h =
      let e : p + 4 + 4 * i ≡ p + 4 * suc i = omega arith in
      numbers-at (p + 4) n i d (omega arith) ∙ ap (number_at s) e
