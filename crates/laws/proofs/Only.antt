-- Those of a list of which a test holds (`only`).
--     all-only, only-all   it holds of each of them; where it holds throughout they are the list
--     only-narrower        after a wider test, as from the whole list
--     only-both            after another test, those of which both hold
--     few-only             no test holds of more of them than of the list
use mathlib.Core.Bool.{Bool, true, false, not, ◌&&◌, ◌||◌}
use mathlib.Core.Path.{◌≡◌, refl, sym, ap, ◌∙◌, subst, fun_ext}
use mathlib.Core.List.{List}
use Prim.Native.Nat.{◌≤◌}
use lib.ListN.{length}
use Rattle.laws.specs.Lists.{all, without, only}
use Rattle.laws.proofs.Bools.{not-not}
use Rattle.laws.proofs.Compact.{length_without, without-twice}
use Rattle.laws.proofs.Every.{all-imply}
use Rattle.laws.proofs.Parts.{all_left, without-none, without-swap}

module _ {A : Type 0} (p : A → Bool) where
  pub all-only : (l : List A) → all p (only p l) ≡ true
  all-only l = all-imply (λ x. not (not (p x))) p (λ x h. sym (not-not (p x)) ∙ h) (only p l) (all_left (λ x. not (p x)) l)

  pub only-all : (l : List A) → all p l ≡ true → only p l ≡ l
  only-all l h = without-none (λ x. not (p x)) l (all-imply p (λ x. not (not (p x))) (λ x k. not-not (p x) ∙ k) l h)

  module _ (q : A → Bool) where
    pub only-both : (l : List A) → only q (only p l) ≡ only (λ x. q x && p x) l
    only-both l = without-twice (λ x. not (p x)) (λ x. not (q x)) l ∙ ap (λ (out : A → Bool). without out l) (fun_ext (λ x. joined (p x) (q x)))
      where
        joined : (a b : Bool) → (not a || not b) ≡ not (b && a)
        joined true true = refl
        joined true false = refl
        joined false true = refl
        joined false false = refl

    pub only-narrower : ((x : A) → q x ≡ true → p x ≡ true) → (l : List A) → only q (only p l) ≡ only q l
    only-narrower h l = only-both l ∙ ap (λ (r : A → Bool). only r l) (fun_ext (λ x. alone x (q x) refl))
      where
        alone : (x : A) (b : Bool) → q x ≡ b → (b && p x) ≡ b
        alone x true k = h x k
        alone x false k = refl

    pub few-only : (l : List A) → length (only q (only p l)) ≤ length (only q l)
    few-only l =
        subst (λ (m : List A). length m ≤ length (only q l)) (without-swap (λ x. not (p x)) (λ x. not (q x)) l) (length_without (λ x. not (p x)) (only q l))
