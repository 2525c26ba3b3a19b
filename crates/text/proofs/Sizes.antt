-- The sign of a number, by whether it is below 0.
use mathlib.Core.Path.{◌≡◌, refl, subst}
use mathlib.Core.Bool.{true, false}
use mathlib.Core.List.{[], ◌∷◌}
use Prim.Native.Nat.{ℕ, ◌<◌}
use native.Mathlib.Omega.{arith}
use lib.Dec.{T}
use lib.IntN.{ℤ, pos, negsuc}
use lib.Signed.{lt_z}
use borrow.Author.Tests.{ltb-true}
use Rattle.text.specs.Decimals.{sign_of}

none_below : {k : ℕ} → k < 0 → ⊥
none_below h = omega arith

pub sign_below : (z : ℤ) → lt_z z (pos 0) ≡ true → 45 ∷ [] ≡ sign_of z
unfolding sign_of
sign_below (pos k) e = absurd (none_below {k = k} (ltb-true k 0 e))
sign_below (negsuc k) e = refl

pub sign_above : (z : ℤ) → lt_z z (pos 0) ≡ false → [] ≡ sign_of z
unfolding sign_of
sign_above (pos k) e = refl
sign_above (negsuc k) e = absurd (subst T e tt)
