-- What a range test says of a number's size, and back.
--     sized-mag     a number within ±n: its magnitude is at most n
--     sized-small   a number of magnitude below n is within ±n
--     inside-mag    a number from 0 to n
use mathlib.Core.Path.{◌≡◌, refl, sym}
use mathlib.Core.Bool.{Bool, true, false, ◌&&◌, true≢false}
use Prim.Native.Nat.{ℕ, zero, suc, ◌≤◌, ◌<◌}
use native.Mathlib.Omega.{arith}
use borrow.Author.Tests.{leb-true, le-leb}
use lib.Dec.{leb}
use lib.IntN.{ℤ, pos, negsuc}
use lib.Signed.{mag}
use Rattle.laws.specs.Integers.{inside, sized}

-- both halves of a conjunction that holds
pub left : (a b : Bool) → (a && b) ≡ true → a ≡ true
left true b e = refl
left false b e = e

pub right : (a b : Bool) → (a && b) ≡ true → b ≡ true
right true b e = e
right false b e = cc

pub sized-mag : (n : ℕ) (z : ℤ) → sized n z ≡ true → mag z ≤ n
unfolding sized inside
sized-mag zero (pos k) e = leb-true k 0 (right (leb 0 k) (leb k 0) e)
sized-mag (suc n) (pos k) e = leb-true k (suc n) e
sized-mag zero (negsuc k) e = absurd (true≢false (sym e))
sized-mag (suc n) (negsuc k) e = let h = leb-true k n (left (leb k n) true e) in omega arith

pub sized-small : (n : ℕ) (z : ℤ) → mag z < n → sized n z ≡ true
unfolding sized inside
sized-small zero z h = absurd (omega arith)
sized-small (suc n) (pos k) h = le-leb k (suc n) (omega arith)
sized-small (suc n) (negsuc k) h = rw (le-leb k n (omega arith))

pub inside-mag : (n : ℕ) (z : ℤ) → inside (pos 0) (pos n) z ≡ true → mag z ≤ n
unfolding inside
inside-mag n (pos k) e = leb-true k n (right (leb 0 k) (leb k n) e)
inside-mag n (negsuc k) e = absurd (true≢false (sym e))
