-- The order of signed numbers, `le_z`, and a number between two ends.
--     neg-pos, neg-neg   below zero and above; two below zero
--     gap, grows         the difference of two in order is a count; adding a count leaves no less
--     total              one of two is not above the other
--     mag-inside         what lies between two is no larger than they are
use mathlib.Core.Path.{◌≡◌, refl, sym}
use mathlib.Core.Bool.{Bool, true, false, cond, true≢false}
use Prim.Native.Nat.{ℕ, zero, suc, ◌+◌, ◌-◌, ◌≤◌}
use native.Mathlib.Nat.{le_of_lt, not-suc-le-zero}
use native.Mathlib.Omega.{arith}
use borrow.Author.Tests.{le-leb, leb-true, leb-false, le-ltb}
use lib.Dec.{T, leb, ltb}
use lib.IntN.{ℤ, pos, negsuc, neg_ℤ, ◌+ℤ◌, ◌-ℤ◌}
use lib.Signed.{mag, le_z, non_neg}
use Rattle.laws.specs.Integers.{inside}
use Rattle.laws.proofs.Ranges.{left, right}

pub neg-pos : (x y : ℕ) → le_z (neg_ℤ (pos x)) (pos y) ≡ true
neg-pos zero y = le-leb 0 y (omega arith)
neg-pos (suc x) y = refl

pub neg-neg : (x y : ℕ) → y ≤ x → le_z (neg_ℤ (pos x)) (neg_ℤ (pos y)) ≡ true
neg-neg zero zero h = refl
neg-neg zero (suc y) h = absurd (not-suc-le-zero h)
neg-neg (suc x) zero h = refl
neg-neg (suc x) (suc y) h = le-leb y x (omega arith)

-- the difference of what is in order is a count
pub gap : (a b : ℤ) → le_z a b ≡ true → T (non_neg (b -ℤ a))
gap (pos zero) (pos b) e = tt
gap (pos (suc a)) (pos b) e = rw (le-ltb b (suc a) (leb-true (suc a) b e)) tt
gap (pos a) (negsuc b) e = absurd (true≢false (sym e))
gap (negsuc a) (pos b) e = tt
gap (negsuc a) (negsuc b) e = let h = leb-true b a e in rw (le-ltb (suc a) (suc b) (omega arith)) tt

grown : (n k : ℕ) (t : Bool) → ltb k (suc n) ≡ t → le_z (negsuc n) (cond t (negsuc (suc n - suc k)) (pos (k - suc n))) ≡ true
grown n k true e = le-leb (suc n - suc k) n (omega arith)
grown n k false e = refl

pub grows : (z : ℤ) (k : ℕ) → le_z z (z +ℤ pos k) ≡ true
grows (pos n) k = le-leb n (n + k) (omega arith)
grows (negsuc n) k = grown n k (ltb k (suc n)) refl

pub mag-inside : (a b z : ℤ) (n : ℕ) → inside a b z ≡ true → mag a ≤ n → mag b ≤ n → mag z ≤ n
unfolding inside
mag-inside a (pos b) (pos z) n e p q = let h = leb-true z b (right (le_z a (pos z)) (leb z b) e) in omega arith
mag-inside a (negsuc b) (pos z) n e p q = absurd (true≢false (sym (right (le_z a (pos z)) false e)))
mag-inside (pos a) b (negsuc z) n e p q = absurd (true≢false (sym e))
mag-inside (negsuc a) b (negsuc z) n e p q = let h = leb-true z a (left (leb z a) (le_z (negsuc z) b) e) in omega arith

pub total : (a b : ℤ) → le_z a b ≡ false → le_z b a ≡ true
total (pos a) (pos b) e = le-leb b a (le_of_lt (leb-false a b e))
total (pos a) (negsuc b) e = refl
total (negsuc a) (pos b) e = absurd (true≢false e)
total (negsuc a) (negsuc b) e = le-leb a b (le_of_lt (leb-false b a e))
