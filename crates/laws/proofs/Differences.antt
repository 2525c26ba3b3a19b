-- A difference of two integers, cut off below 0: how it moves with either of them. `omega` reads no ℤ, so an order of two
-- integers is first turned into a sum (`more`).
use mathlib.Core.Path.{◌≡◌, refl, sym, ap, ◌∙◌}
use mathlib.Core.Bool.{Bool, true, false, not, cond}
use Prim.Native.Nat.{ℕ, zero, suc, ◌+◌, ◌-◌, ◌≤◌, ◌<◌, zero-le}
use native.Mathlib.Omega.{arith}
use borrow.Author.Tests.{ltb-true, ltb-false}
use lib.Dec.{T, leb, ltb, leb→le, le→leb, nleb→lt}
use lib.IntN.{ℤ, pos, negsuc, neg_ℤ, sub_ℕ, ◌+ℤ◌, +ℤ_assoc, +ℤ_comm, suc_ℤ}
use lib.Signed.{le_z}
use Rattle.laws.specs.Integers.{cut}

-- ---- a difference of two natural numbers
sub_cases : (a b : ℕ) (t : Bool) → ltb a b ≡ t → cut (cond t (negsuc (b - suc a)) (pos (a - b))) ≡ a - b
sub_cases a b true e = omega (arith, ltb-true a b e)
sub_cases a b false e = refl

pub cut-subℕ : (a b : ℕ) → cut (sub_ℕ a b) ≡ a - b
cut-subℕ a b = sub_cases a b (ltb a b) refl

below-cases : (a b : ℕ) (t : Bool) → ltb a b ≡ t → b ≤ a → cond t (negsuc (b - suc a)) (pos (a - b)) ≡ pos (a - b)
below-cases a b true e h = absurd (omega (arith, ltb-true a b e))
below-cases a b false e h = refl

pub subℕ-ge : (a b : ℕ) → b ≤ a → sub_ℕ a b ≡ pos (a - b)
subℕ-ge a b h = below-cases a b (ltb a b) refl h

above_cases : (a b : ℕ) (t : Bool) → ltb a b ≡ t → a < b → cond t (negsuc (b - suc a)) (pos (a - b)) ≡ negsuc (b - suc a)
above_cases a b true e h = refl
above_cases a b false e h = absurd (omega (arith, ltb-false a b e))

pub subℕ-lt : (a b : ℕ) → a < b → sub_ℕ a b ≡ negsuc (b - suc a)
subℕ-lt a b h = above_cases a b (ltb a b) refl h

-- ---- cut off below 0
pub cut-less : (z : ℤ) (l : ℕ) → cut (z +ℤ neg_ℤ (pos l)) ≡ cut z - l
cut-less (pos a) zero = omega arith
cut-less (pos a) (suc l) = cut-subℕ a (suc l)
cut-less (negsuc a) zero = cut-subℕ 0 (suc a) ∙ omega arith
cut-less (negsuc a) (suc l) = omega arith

pub cut-more : (z : ℤ) (l : ℕ) → cut z ≤ cut (z +ℤ pos l)
cut-more (pos a) l = omega arith
cut-more (negsuc a) l = omega arith

-- ---- n ≤ u: u is n and so much more; u < n: n is at least the number after u
pub more : (n u : ℤ) → T (le_z n u) → (d : ℕ) × (u ≡ n +ℤ pos d)
more (pos a) (pos b) t = (b - a, ap pos (omega (arith, leb→le a b t)))
more (pos a) (negsuc b) t = absurd t
more (negsuc a) (pos b) t = (suc (a + b), sym (subℕ-ge (suc (a + b)) (suc a) (omega arith) ∙ ap pos (omega arith)))
more (negsuc a) (negsuc b) t = (a - b, sym (subℕ-lt (a - b) (suc a) (omega arith) ∙ ap negsuc (omega (arith, leb→le b a t))))

pub past : (n u : ℤ) → T (not (le_z n u)) → T (le_z (suc_ℤ u) n)
past (pos b) (pos a) t = le→leb (suc a) b (nleb→lt b a t)
past (negsuc b) (pos a) t = absurd t
past (pos b) (negsuc zero) t = le→leb 0 b zero-le
past (negsuc b) (negsuc zero) t = absurd (omega (arith, nleb→lt 0 b t))
past (pos b) (negsuc (suc a)) t = tt
past (negsuc b) (negsuc (suc a)) t = le→leb b a (omega (arith, nleb→lt (suc a) b t))

-- ---- a sum of three, its last two exchanged
pub swap : (a b c : ℤ) → a +ℤ b +ℤ c ≡ a +ℤ c +ℤ b
swap a b c = +ℤ_assoc a b c ∙ ap (λ (z : ℤ). a +ℤ z) (+ℤ_comm b c) ∙ sym (+ℤ_assoc a c b)
