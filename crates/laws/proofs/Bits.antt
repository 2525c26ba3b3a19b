-- Equality of signed numbers, which the machine decides on their bits: numbers that fit a width are equal exactly
-- where their bits are.
--     bits-same, bits-differ   what a test that was taken, or was not, says of the numbers
--     flag                     the test itself
use mathlib.Core.Path.{◌≡◌, refl, sym, ap, ◌∙◌}
use mathlib.Core.Bool.{true, false}
use mathlib.Core.Logic.{⊎_elim}
use lib.Dec.{eqb}
use lib.IntN.{ℤ, pos, negsuc}
use mir.Syntax.{Width}
use mir.Val.{SFits, to_z, of_z}
use mir.Facts.{to_z-of_z}
use borrow.Author.Tests.{eq-eqb, eqb-true, eqb-false}
use Rattle.laws.specs.Integers.{eq_z}
use Rattle.laws.proofs.Bools.{which}

pub eq_z-refl : (a : ℤ) → eq_z a a ≡ true
eq_z-refl (pos a) = eq-eqb a a refl
eq_z-refl (negsuc a) = eq-eqb a a refl

pub eq_z-true : (a b : ℤ) → eq_z a b ≡ true → a ≡ b
eq_z-true (pos a) (pos b) e = ap pos (eqb-true a b e)
eq_z-true (pos a) (negsuc b) e = cc
eq_z-true (negsuc a) (pos b) e = cc
eq_z-true (negsuc a) (negsuc b) e = ap negsuc (eqb-true a b e)

module _ {w : Width} {a b : ℤ} (p : SFits w a) (q : SFits w b) where
  pub bits-eq : of_z w a ≡ of_z w b → a ≡ b
  bits-eq e = sym (to_z-of_z p) ∙ ap (to_z w) e ∙ to_z-of_z q

  pub bits-same : of_z w a ≡ of_z w b → eq_z a b ≡ true
  bits-same e = rw (bits-eq e) (eq_z-refl b)

  pub bits-differ : (of_z w a ≡ of_z w b → ⊥) → eq_z a b ≡ false
  bits-differ n = ⊎_elim (λ t. absurd (n (ap (of_z w) (eq_z-true a b t)))) (λ t. t) (which (eq_z a b))

  pub flag : eqb (of_z w a) (of_z w b) ≡ eq_z a b
  flag =
      ⊎_elim
      (λ t. t ∙ sym (bits-same (eqb-true (of_z w a) (of_z w b) t)))
      (λ t. t ∙ sym (bits-differ (eqb-false (of_z w a) (of_z w b) t)))
      (which (eqb (of_z w a) (of_z w b)))
