-- What holds of each of a list, and what is left of one without those of a kind.
--     all_of          as a test
--     all-given       as a test, where another holds too
--     without-twice   taking out fewer first changes nothing
--     without-none    where nothing is to be taken out
--     without-every   where everything is
use mathlib.Core.Path.{◌≡◌, refl, sym, ap, ◌∙◌}
use mathlib.Core.Bool.{Bool, true, false, ◌&&◌, true≢false}
use mathlib.Core.List.{List, [], ◌∷◌, ◌++◌}
use Rattle.laws.specs.Lists.{all, unless, without}
use Rattle.laws.proofs.Ranges.{left, right}

abbrev pub Each : {A : Type 0} → (A → Type 0) → List A → Type 0
Each P [] = Unit {0}
Each P (x ∷ xs) = P x × Each P xs

module _ {A : Type 0} where
  pub each_append : (P : A → Type 0) (a b : List A) → Each P a → Each P b → Each P (a ++ b)
  each_append P [] b h k = k
  each_append P (x ∷ a) b h k = (h.0, each_append P a b h.1 k)

  pub each-weaker : (P Q : A → Type 0) → ((x : A) → P x → Q x) → (l : List A) → Each P l → Each Q l
  each-weaker P Q f [] h = tt
  each-weaker P Q f (x ∷ l) h = (f x h.0, each-weaker P Q f l h.1)

  pub all_of : (p : A → Bool) (l : List A) → Each (λ (x : A). p x ≡ true) l → all p l ≡ true
  unfolding all
  all_of p [] h = refl
  all_of p (x ∷ l) h = ap (λ (t : Bool). t && all p l) h.0 ∙ all_of p l h.1

  pub all-given : (p q : A → Bool) (l : List A) → Each (λ (x : A). q x ≡ true → p x ≡ true) l → all q l ≡ true → all p l ≡ true
  unfolding all
  all-given p q [] h e = refl
  all-given p q (x ∷ l) h e = rw (h.0 (left (q x) (all q l) e)) (all-given p q l h.1 (right (q x) (all q l) e))

  pub without-append : (p : A → Bool) (a b : List A) → without p (a ++ b) ≡ without p a ++ without p b
  without-append p [] b = refl
  without-append p (x ∷ a) b = go (p x) (without-append p a b)
    where
      go : (t : Bool) → without p (a ++ b) ≡ without p a ++ without p b → unless t x (without p (a ++ b)) ≡ unless t x (without p a) ++ without p b
      go true e = e
      go false e = ap (λ (l : List A). x ∷ l) e

  pub without-every : (p : A → Bool) (l : List A) → Each (λ (x : A). p x ≡ true) l → without p l ≡ []
  without-every p [] h = refl
  without-every p (x ∷ l) h = ap (λ (t : Bool). unless t x (without p l)) h.0 ∙ without-every p l h.1

  pub without-none : (p : A → Bool) → ((x : A) → p x ≡ false) → (l : List A) → without p l ≡ l
  without-none p f [] = refl
  without-none p f (x ∷ l) = ap (λ (t : Bool). unless t x (without p l)) (f x) ∙ ap (λ (y : List A). x ∷ y) (without-none p f l)

  pub without-twice : (p q : A → Bool) → ((x : A) → q x ≡ true → p x ≡ true) → (l : List A) → without p (without q l) ≡ without p l
  without-twice p q f [] = refl
  without-twice p q f (x ∷ l) = go (q x) refl (p x) refl (without-twice p q f l)
    where
      go : (s : Bool) → q x ≡ s → (t : Bool) → p x ≡ t → without p (without q l) ≡ without p l → without p (unless s x (without q l)) ≡ unless t x (without p l)
      go true e true g ih = ih
      go true e false g ih = absurd (true≢false (sym (f x e) ∙ g))
      go false e true g ih = ap (λ (b : Bool). unless b x (without p (without q l))) g ∙ ih
      go false e false g ih = ap (λ (b : Bool). unless b x (without p (without q l))) g ∙ ap (λ (y : List A). x ∷ y) ih
