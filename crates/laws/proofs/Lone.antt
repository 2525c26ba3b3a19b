-- Keys of which each stands once (`distinct`) still do when some are left out, and when one is put in that was absent.
--     distinct-first, distinct-last     a part of them
--     distinct_without, distinct-amid   some left out: of all, of those of a list that stands amid others
--     gone, distinct-insert             a key that was taken out is absent, and may be put in again anywhere
--     flip                              another key is another, asked either way round
use mathlib.Core.Path.{◌≡◌, refl, sym, ◌∙◌}
use mathlib.Core.Bool.{Bool, true, false, not, true≢false}
use mathlib.Core.List.{List, [], ◌∷◌, ◌++◌, map}
use Prim.Native.Nat.{ℕ}
use borrow.Author.Tests.{eqb-true, eq-eqb, not-true}
use lib.Dec.{eqb}
use Rattle.laws.specs.Lists.{all, unless, without}
use Rattle.laws.specs.Keys.{absent, distinct}
use Rattle.laws.proofs.Ranges.{left, right}
use Rattle.laws.proofs.Parts.{all_append, all_first, all-last, all_without}

pub flip : (a k : ℕ) → eqb a k ≡ false → eqb k a ≡ false
flip a k e = go (eqb k a) refl
  where
    go : (b : Bool) → eqb k a ≡ b → b ≡ false
    go false q = refl
    go true q = absurd (true≢false (sym (eq-eqb a k (sym (eqb-true k a q))) ∙ e))

pub distinct-first : (xs ys : List ℕ) → distinct (xs ++ ys) ≡ true → distinct xs ≡ true
unfolding distinct absent
distinct-first [] ys e = refl
distinct-first (x ∷ xs) ys e =
    rw (all_first _ xs ys (left (absent x (xs ++ ys)) (distinct (xs ++ ys)) e)) (distinct-first xs ys (right (absent x (xs ++ ys)) (distinct (xs ++ ys)) e))

pub distinct-last : (xs ys : List ℕ) → distinct (xs ++ ys) ≡ true → distinct ys ≡ true
unfolding distinct
distinct-last [] ys e = e
distinct-last (x ∷ xs) ys e = distinct-last xs ys (right (absent x (xs ++ ys)) (distinct (xs ++ ys)) e)

pub distinct_without : (out : ℕ → Bool) (ks : List ℕ) → distinct ks ≡ true → distinct (without out ks) ≡ true
unfolding distinct absent
distinct_without out [] e = refl
distinct_without out (k ∷ ks) e = go (out k) (distinct_without out ks (right (absent k ks) (distinct ks) e))
  where
    go : (t : Bool) → distinct (without out ks) ≡ true → distinct (unless t k (without out ks)) ≡ true
    go true ih = ih
    go false ih = rw (all_without (λ (x : ℕ). not (eqb k x)) out ks (left (absent k ks) (distinct ks) e)) ih

module _ {A : Type 0} (f : A → ℕ) (out : A → Bool) where
  all-fewer : (p : ℕ → Bool) (l : List A) → all p (map f l) ≡ true → all p (map f (without out l)) ≡ true
  unfolding all
  all-fewer p [] e = refl
  all-fewer p (x ∷ l) e = go (out x) (all-fewer p l (right (p (f x)) (all p (map f l)) e))
    where
      go : (t : Bool) → all p (map f (without out l)) ≡ true → all p (map f (unless t x (without out l))) ≡ true
      go true ih = ih
      go false ih = rw (left (p (f x)) (all p (map f l)) e) ih

  all-amid : (p : ℕ → Bool) (xs : List ℕ) (l : List A) (ys : List ℕ) → all p (xs ++ (map f l ++ ys)) ≡ true → all p (xs ++ (map f (without out l) ++ ys)) ≡ true
  all-amid p xs l ys e =
      let amid = all-last p xs (map f l ++ ys) e in
      all_append p xs (map f (without out l) ++ ys) (all_first p xs (map f l ++ ys) e)
      (all_append p (map f (without out l)) ys (all-fewer p l (all_first p (map f l) ys amid)) (all-last p (map f l) ys amid))

  pub distinct-amid : (xs : List ℕ) (l : List A) (ys : List ℕ) → distinct (xs ++ (map f l ++ ys)) ≡ true → distinct (xs ++ (map f (without out l) ++ ys)) ≡ true
  unfolding distinct absent
  distinct-amid [] [] ys e = e
  distinct-amid [] (x ∷ l) ys e = go (out x) (distinct-amid [] l ys (right (absent (f x) (map f l ++ ys)) (distinct (map f l ++ ys)) e))
    where
      go : (b : Bool) → distinct (map f (without out l) ++ ys) ≡ true → distinct (map f (unless b x (without out l)) ++ ys) ≡ true
      go true ih = ih
      go false ih = rw (all-amid _ [] l ys (left (absent (f x) (map f l ++ ys)) (distinct (map f l ++ ys)) e)) ih
  distinct-amid (k ∷ xs) l ys e =
      rw (all-amid _ xs l ys (left (absent k (xs ++ (map f l ++ ys))) (distinct (xs ++ (map f l ++ ys))) e))
      (distinct-amid xs l ys (right (absent k (xs ++ (map f l ++ ys))) (distinct (xs ++ (map f l ++ ys))) e))

pub gone : (k : ℕ) (ks : List ℕ) → absent k (without (λ (x : ℕ). eqb x k) ks) ≡ true
unfolding absent all
gone k [] = refl
gone k (x ∷ ks) = go (eqb x k) refl (gone k ks)
  where
    go : (t : Bool) → eqb x k ≡ t → absent k (without (λ y. eqb y k) ks) ≡ true → absent k (unless t x (without (λ y. eqb y k) ks)) ≡ true
    go true e ih = ih
    go false e ih = rw (flip x k e) ih

pub distinct-insert : (k : ℕ) (xs ys : List ℕ) → distinct (xs ++ ys) ≡ true → absent k (xs ++ ys) ≡ true → distinct (xs ++ (k ∷ ys)) ≡ true
unfolding distinct absent all
distinct-insert k [] ys d a = rw a d
distinct-insert k (x ∷ xs) ys d a =
    let p : ℕ → Bool = λ (y : ℕ). not (eqb x y) in
    let here = not (eqb k x) in
    let rest = all (λ (y : ℕ). not (eqb k y)) (xs ++ ys) in
    let other = left (all p (xs ++ ys)) (distinct (xs ++ ys)) d in
    rw (all_append p xs (k ∷ ys) (all_first p xs ys other) (rw (flip k x (not-true (eqb k x) (left here rest a))) (all-last p xs ys other)))
    (distinct-insert k xs ys (right (all p (xs ++ ys)) (distinct (xs ++ ys)) d) (right here rest a))
