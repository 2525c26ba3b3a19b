-- A list of which a test holds throughout (`all`), put together, taken apart, thinned, mapped, read and written.
--     all_append, all_first, all-last   a list of two parts
--     all_without, all_left, all_map    what is left of it, and what becomes of it
--     all-get, all_set                  at a place
--     without-append, map-without       a list that is thinned, in two parts and by what its elements become
--     without_all_lem, without-none         a list of which every element goes, or none
--     without-swap                      thinned twice, in either order
--     map-alike                         changes that are the same of each element
use mathlib.Core.Path.{◌≡◌, refl, ap, ap₂}
use mathlib.Core.Bool.{Bool, true, false, not}
use borrow.Author.Tests.{not-true}
use mathlib.Core.List.{List, [], ◌∷◌, ◌++◌, map}
use Prim.Native.Nat.{ℕ, zero, suc}
use lib.ListN.{get_or, set}
use Rattle.laws.specs.Lists.{all, unless, without}
use Rattle.laws.proofs.Ranges.{left, right}

module _ {A : Type 0} (p : A → Bool) where
  pub all_append : (xs ys : List A) → all p xs ≡ true → all p ys ≡ true → all p (xs ++ ys) ≡ true
  unfolding all
  all_append [] ys a b = b
  all_append (x ∷ xs) ys a b = rw (left (p x) (all p xs) a) (all_append xs ys (right (p x) (all p xs) a) b)

  pub all_first : (xs ys : List A) → all p (xs ++ ys) ≡ true → all p xs ≡ true
  unfolding all
  all_first [] ys e = refl
  all_first (x ∷ xs) ys e = rw (left (p x) (all p (xs ++ ys)) e) (all_first xs ys (right (p x) (all p (xs ++ ys)) e))

  pub all-last : (xs ys : List A) → all p (xs ++ ys) ≡ true → all p ys ≡ true
  unfolding all
  all-last [] ys e = e
  all-last (x ∷ xs) ys e = all-last xs ys (right (p x) (all p (xs ++ ys)) e)

  pub all_without : (out : A → Bool) (l : List A) → all p l ≡ true → all p (without out l) ≡ true
  unfolding all
  all_without out [] e = refl
  all_without out (x ∷ l) e = go (out x) (all_without out l (right (p x) (all p l) e))
    where
      go : (t : Bool) → all p (without out l) ≡ true → all p (unless t x (without out l)) ≡ true
      go true ih = ih
      go false ih = rw (left (p x) (all p l) e) ih

  pub all_map : {B : Type 0} (q : B → Bool) (f : A → B) → ((x : A) → p x ≡ true → q (f x) ≡ true) → (l : List A) → all p l ≡ true → all q (map f l) ≡ true
  unfolding all
  all_map q f h [] e = refl
  all_map q f h (x ∷ l) e = rw (h x (left (p x) (all p l) e)) (all_map q f h l (right (p x) (all p l) e))

  -- where it holds of the default too, of whatever is read
  pub all-get : (l : List A) (i : ℕ) (d : A) → p d ≡ true → all p l ≡ true → p (get_or l i d) ≡ true
  unfolding all
  all-get [] i d h e = h
  all-get (x ∷ l) zero d h e = left (p x) (all p l) e
  all-get (x ∷ l) (suc i) d h e = all-get l i d h (right (p x) (all p l) e)

  pub all_set : (l : List A) (i : ℕ) (y : A) → p y ≡ true → all p l ≡ true → all p (set l i y) ≡ true
  unfolding all
  all_set [] i y h e = e
  all_set (x ∷ l) zero y h e = rw h (right (p x) (all p l) e)
  all_set (x ∷ l) (suc i) y h e = rw (left (p x) (all p l) e) (all_set l i y h (right (p x) (all p l) e))

pub without-append : {A : Type 0} (out : A → Bool) (a b : List A) → without out (a ++ b) ≡ without out a ++ without out b
without-append out [] b = refl
without-append {A} out (x ∷ a) b = go (out x) (without-append out a b)
  where
    go : (t : Bool) → without out (a ++ b) ≡ without out a ++ without out b → unless t x (without out (a ++ b)) ≡ unless t x (without out a) ++ without out b
    go true ih = ih
    go false ih = ap (λ (l : List A). x ∷ l) ih

pub without-swap : {A : Type 0} (p q : A → Bool) (l : List A) → without p (without q l) ≡ without q (without p l)
without-swap p q [] = refl
without-swap {A} p q (x ∷ l) = go (p x) (q x) refl refl (without-swap p q l)
  where
    go : (a b : Bool) → p x ≡ a → q x ≡ b → without p (without q l) ≡ without q (without p l) → without p (unless b x (without q l)) ≡ without q (unless a x (without p l))
    go true true h k e = e
    go true false h k e = rw h e
    go false true h k e = rw k e
    go false false h k e = rw (h, k) (ap (λ (m : List A). x ∷ m) e)

pub map-without : {A B : Type 0} (f : A → B) (out : B → Bool) (l : List A) → map f (without (λ (x : A). out (f x)) l) ≡ without out (map f l)
map-without f out [] = refl
map-without {B} f out (x ∷ l) = go (out (f x)) (map-without f out l)
  where
    go : (t : Bool) → map f (without (λ y. out (f y)) l) ≡ without out (map f l) → map f (unless t x (without (λ y. out (f y)) l)) ≡ unless t (f x) (without out (map f l))
    go true ih = ih
    go false ih = ap (λ (ks : List B). f x ∷ ks) ih

module _ {A : Type 0} (out : A → Bool) where
  pub without_all_lem : (l : List A) → all out l ≡ true → without out l ≡ []
  unfolding all
  without_all_lem [] e = refl
  without_all_lem (x ∷ l) e = rw (left (out x) (all out l) e) (without_all_lem l (right (out x) (all out l) e))

  pub without-none : (l : List A) → all (λ x. not (out x)) l ≡ true → without out l ≡ l
  unfolding all
  without-none [] e = refl
  without-none (x ∷ l) e =
      rw (not-true (out x) (left (not (out x)) (all (λ y. not (out y)) l) e)) (ap (λ (m : List A). x ∷ m) (without-none l (right (not (out x)) (all (λ y. not (out y)) l) e)))

  -- none is left of which the test holds
  pub all_left : (l : List A) → all (λ x. not (out x)) (without out l) ≡ true
  unfolding all
  all_left [] = refl
  all_left (x ∷ l) = go (out x) refl (all_left l)
    where
      go : (t : Bool) → out x ≡ t → all (λ y. not (out y)) (without out l) ≡ true → all (λ y. not (out y)) (unless t x (without out l)) ≡ true
      go true q ih = ih
      go false q ih = rw q ih

pub map-alike : {A B : Type 0} (q : A → Bool) (f g : A → B) → ((x : A) → q x ≡ true → f x ≡ g x) → (l : List A) → all q l ≡ true → map f l ≡ map g l
unfolding all
map-alike q f g h [] e = refl
map-alike {B} q f g h (x ∷ l) e = ap₂ (λ (y : B) (m : List B). y ∷ m) (h x (left (q x) (all q l) e)) (map-alike q f g h l (right (q x) (all q l) e))
