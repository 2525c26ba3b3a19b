-- The size of a signed number, `nat_abs`, which omega reads as a number: of a sum, a difference, a product by a count, and what it takes to fit 64 bits.
-- And the product with a sum, which the library leaves out.
use mathlib.Core.Path.{◌≡◌, refl, sym, ap, ap₂, ◌∙◌}
use mathlib.Core.Logic.{⊎_elim}
use Prim.Native.Nat.{ℕ, zero, suc, ◌+◌, ◌*◌, ◌-◌, ◌^◌, ◌≤◌, ◌<◌}
use native.Mathlib.Nat.{le_refl, add-suc}
use native.Mathlib.Numerals.{unary_clauses}
use native.Mathlib.Omega.{arith}
use borrow.Author.Tests.{ltb-true}
use lib.Dec.{ltb}
use lib.IntN.{ℤ, pos, negsuc, neg_ℤ, nat_abs, sub_ℕ, ◌+ℤ◌, ◌-ℤ◌, ◌*ℤ◌, +ℤ_assoc, +ℤ_comm, *ℤ_comm, *ℤ-zero, suc_ℤ-*ℤ, +ℤ_idr}
use mir.Syntax.{w64}
use mir.Val.{SFits}
use Rattle.laws.proofs.Bools.{which}

pub abs-fits : (z : ℤ) → nat_abs z < 2 ^ 63 → SFits w64 z
abs-fits (pos n) h = omega arith
abs-fits (negsuc n) h = omega arith

pub abs_neg : (z : ℤ) → nat_abs (neg_ℤ z) ≡ nat_abs z
abs_neg (pos zero) = refl
abs_neg (pos (suc n)) = refl
abs_neg (negsuc n) = refl

abs-subℕ : (a b : ℕ) → nat_abs (sub_ℕ a b) ≤ a + b
abs-subℕ a b = ⊎_elim (λ t. let h = ltb-true a b t in rw t (omega arith)) (λ t. rw t (omega arith)) (which (ltb a b))

pub abs-add : (a b : ℤ) → nat_abs (a +ℤ b) ≤ nat_abs a + nat_abs b
abs-add (pos a) (pos b) = le_refl (a + b)
abs-add (pos a) (negsuc b) = abs-subℕ a (suc b)
abs-add (negsuc a) (pos b) = omega (arith, abs-subℕ b (suc a))
abs-add (negsuc a) (negsuc b) = omega arith

pub abs-sub : (a b : ℤ) → nat_abs (a -ℤ b) ≤ nat_abs a + nat_abs b
abs-sub a b = omega (arith, abs-add a (neg_ℤ b), abs_neg b)

pub abs-mul : (a : ℤ) (n : ℕ) → nat_abs (a *ℤ pos n) ≡ nat_abs a * n
abs-mul (pos a) n = refl
abs-mul (negsuc a) n = abs_neg (pos (suc a * n))

-- ---- a product with a sum
times-next : (a : ℤ) (n : ℕ) → a *ℤ pos (suc n) ≡ a *ℤ pos n +ℤ a
times-next a n = *ℤ_comm a (pos (suc n)) ∙ suc_ℤ-*ℤ (pos n) a ∙ ap (λ (z : ℤ). z +ℤ a) (*ℤ_comm (pos n) a)

-- (a + b) + (c + d) with b and c changed about
swap : (a b c d : ℤ) → (a +ℤ b) +ℤ (c +ℤ d) ≡ (a +ℤ c) +ℤ (b +ℤ d)
swap a b c d =
    +ℤ_assoc a b (c +ℤ d) ∙ ap (λ (z : ℤ). a +ℤ z) (sym (+ℤ_assoc b c d) ∙ ap (λ (z : ℤ). z +ℤ d) (+ℤ_comm b c) ∙ +ℤ_assoc c b d) ∙ sym (+ℤ_assoc a c (b +ℤ d))

pub sum-times : (a b : ℤ) (n : ℕ) → (a +ℤ b) *ℤ pos n ≡ a *ℤ pos n +ℤ b *ℤ pos n
sum-times a b zero = *ℤ-zero (a +ℤ b) ∙ sym (ap₂ (λ (x y : ℤ). x +ℤ y) (*ℤ-zero a) (*ℤ-zero b))
sum-times a b (suc n) =
    times-next (a +ℤ b) n ∙ ap (λ (z : ℤ). z +ℤ (a +ℤ b)) (sum-times a b n) ∙ swap (a *ℤ pos n) (b *ℤ pos n) a b
    ∙ sym (ap₂ (λ (x y : ℤ). x +ℤ y) (times-next a n) (times-next b n))

pub times-sum : (a : ℤ) (m n : ℕ) → a *ℤ pos (m + n) ≡ a *ℤ pos m +ℤ a *ℤ pos n
times-sum a m zero = simp unary_clauses (sym (ap (λ (z : ℤ). a *ℤ pos m +ℤ z) (*ℤ-zero a) ∙ +ℤ_idr (a *ℤ pos m)))
times-sum a m (suc n) =
    ap (λ (k : ℕ). a *ℤ pos k) (add-suc m n) ∙ times-next a (m + n) ∙ ap (λ (z : ℤ). z +ℤ a) (times-sum a m n) ∙ +ℤ_assoc (a *ℤ pos m) (a *ℤ pos n) a
    ∙ ap (λ (z : ℤ). a *ℤ pos m +ℤ z) (sym (times-next a n))
