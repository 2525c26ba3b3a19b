-- What the arms of a match on the kind say: a kind outside a range is none of those in it.
use mathlib.Core.Path.{◌≡◌, refl}
use mathlib.Core.Bool.{true, false, true≢false}
use Prim.Native.Nat.{ℕ, ◌≤◌, ◌<◌}
use native.Mathlib.Omega.{arith}
use borrow.Author.Tests.{ltb-true, ltb-false, ne_eqb}
use lib.IntN.{ℤ, pos, negsuc}
use lib.Signed.{lt_z}
use Rattle.laws.specs.Integers.{eq_z}

pub below-not : (n m : ℕ) (k : ℤ) → lt_z k (pos n) ≡ true → n ≤ m → eq_z k (pos m) ≡ false
below-not n m (pos k) e h = let l = ltb-true k n e in ne_eqb k m (λ q. omega arith)
below-not n m (negsuc k) e h = refl

pub above-not : (n m : ℕ) (k : ℤ) → lt_z k (pos n) ≡ false → m < n → eq_z k (pos m) ≡ false
above-not n m (pos k) e h = let l = ltb-false k n e in ne_eqb k m (λ q. omega arith)
above-not n m (negsuc k) e h = absurd (true≢false e)
