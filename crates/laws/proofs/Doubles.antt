-- A list that is thinned of each element that has one like it behind it, over any element and likeness; and what `thinned` does to a list of two parts.
--     any_none, none_any   none passes a test, told in two ways
--     any-imply, any-only, any-amid   one that passes passes what follows, and is among those that pass that; one in the middle
--     thinned-parts        what stays of the front stands before what stays of the rest
--     free-left            of what is like nothing all is left, in order
--     closed-left          doubles leave and other elements leave in either order, where the test does not tell doubles apart
--     last-left            of those that are all like the last it alone is left
use mathlib.Core.Bool.{Bool, true, false, not, ◌||◌, true≢false}
use mathlib.Core.Path.{◌≡◌, refl, sym, ap, ◌∙◌}
use mathlib.Core.List.{List, [], ◌∷◌, ◌++◌}
use borrow.Author.Tests.{not-false}
use Rattle.laws.specs.Lists.{all, any, unless, only, thinned}
use Rattle.laws.proofs.Bools.{or-on}
use Rattle.laws.proofs.Ranges.{left, right}
use Rattle.laws.proofs.Tests.{any-all}

module _ {A : Type 0} (p : A → Bool) (l : List A) where
  pub any_none : any p l ≡ false → all (λ x. not (p x)) l ≡ true
  any_none h = not-false (all (λ x. not (p x)) l) (any-all p l ∙ h)

  pub none_any : all (λ x. not (p x)) l ≡ true → any p l ≡ false
  none_any h = sym (any-all p l) ∙ rw h

-- where one passes it passes what follows
pub any-imply : {A : Type 0} (q p r : A → Bool) → ((x : A) → q x ≡ true → p x ≡ true → r x ≡ true) → (l : List A) → all q l ≡ true → any p l ≡ true → any r l ≡ true
unfolding all any
any-imply q p r f [] y h = h
any-imply q p r f (x ∷ l) y h = go (p x) refl (any-imply q p r f l (right (q x) (all q l) y))
  where
    go : (b : Bool) → p x ≡ b → (any p l ≡ true → any r l ≡ true) → (r x || any r l) ≡ true
    go true k ih = rw (f x (left (q x) (all q l) y) k)
    go false k ih = let m : any p l ≡ true = rw k at h in rw (ih m) (or-on (r x))

-- those that pass are left where another test, which they pass too, is asked first
pub any-only : {A : Type 0} (p q : A → Bool) → ((x : A) → p x ≡ true → q x ≡ true) → (l : List A) → any p (only q l) ≡ any p l
unfolding any
any-only p q f [] = refl
any-only p q f (x ∷ l) = go (q x) refl (p x) refl (any-only p q f l)
  where
    go : (b : Bool) → q x ≡ b → (t : Bool) → p x ≡ t → any p (only q l) ≡ any p l → any p (unless (not b) x (only q l)) ≡ (t || any p l)
    go true h t k ih = rw (k, ih)
    go false h true k ih = absurd (true≢false (sym (f x k) ∙ h))
    go false h false k ih = ih

-- one in the middle passes
pub any-amid : {A : Type 0} (p : A → Bool) (a b : List A) (x : A) → p x ≡ true → any p (a ++ (x ∷ b)) ≡ true
unfolding any
any-amid p [] b x h = rw h
any-amid p (y ∷ a) b x h = rw (any-amid p a b x h) (or-on (p y))

pub thinned-parts : {A : Type 0} (out : A → List A → Bool) (a b : List A) → thinned out (a ++ b) ≡ thinned (λ x behind. out x (behind ++ b)) a ++ thinned out b
thinned-parts out [] b = refl
thinned-parts {A} out (x ∷ a) b = go (out x (a ++ b)) (thinned-parts out a b)
  where
    go : (t : Bool) → thinned out (a ++ b) ≡ thinned (λ y behind. out y (behind ++ b)) a ++ thinned out b
        → unless t x (thinned out (a ++ b)) ≡ unless t x (thinned (λ y behind. out y (behind ++ b)) a) ++ thinned out b
    go true ih = ih
    go false ih = ap (λ (l : List A). x ∷ l) ih

module _ {A : Type 0} (like : A → A → Bool) where
  abbrev doubled : A → List A → Bool
  doubled x behind = any (like x) behind

  module _ (p : A → Bool) where
    pub free-left : ((x y : A) → p x ≡ true → like x y ≡ false) → (l : List A) → only p (thinned (λ x behind. any (like x) behind) l) ≡ only p l
    unfolding any
    free-left free [] = refl
    free-left free (x ∷ l) = go (p x) refl (doubled x l) refl (free-left free l)
      where
        none : p x ≡ true → (m : List A) → any (like x) m ≡ false
        none q [] = refl
        none q (y ∷ m) = rw (free x y q) (none q m)

        go : (b : Bool) → p x ≡ b → (t : Bool) → doubled x l ≡ t → only p (thinned doubled l) ≡ only p l → only p (unless t x (thinned doubled l)) ≡ unless (not b) x (only p l)
        go b q false k ih = rw (q, ih)
        go true q true k ih = absurd (true≢false (sym k ∙ none q l))
        go false q true k ih = ih

    -- where what is like one that passes passes too, none that passes loses its double to the test
    pub closed-left : ((x y : A) → p x ≡ true → like x y ≡ true → p y ≡ true) → (l : List A)
        → only p (thinned (λ x behind. any (like x) behind) l) ≡ thinned (λ x behind. any (like x) behind) (only p l)
    unfolding any
    closed-left closed [] = refl
    closed-left closed (x ∷ l) = go (p x) refl (doubled x l) refl (closed-left closed l)
      where
        left-too : p x ≡ true → any (like x) (only p l) ≡ any (like x) l
        left-too q = any-only (like x) p (λ y. closed x y q) l

        go : (b : Bool) → p x ≡ b → (t : Bool) → doubled x l ≡ t → only p (thinned doubled l) ≡ thinned doubled (only p l)
            → only p (unless t x (thinned doubled l)) ≡ thinned doubled (unless (not b) x (only p l))
        go true q true k ih = ih ∙ rw (left-too q, k)
        go true q false k ih = rw (q, left-too q, k, ih)
        go false q true k ih = ih
        go false q false k ih = rw (q, ih)

  pub last-left : (a : List A) (e : A) → all (λ x. like x e) a ≡ true → thinned (λ x behind. any (like x) behind) (a ++ (e ∷ [])) ≡ e ∷ []
  unfolding all any
  last-left [] e h = refl
  last-left (x ∷ a) e h =
      rw (any-amid (like x) a [] e (left (like x e) (all (λ y. like y e) a) h)) (last-left a e (right (like x e) (all (λ y. like y e) a) h))
