-- Tests made one after the other, in a loop over a list or in a row of `if`s, and the answer that comes of them.
--     Left                    so far all were well: the list's test is that of what is left
--     passed, failed, ended   one more is well; one is not; none is left
--     ..-of, counted-..       the same of the first n of a list, and of a table of which n count
--     no, yes, ..-at          what a call's answer says of its definition, by the branch that was taken
--     and_no, and_yes, both, one_of   tests joined
--     all_more                one more at the end of the first j
--     any-all                 some element passes a test where not all fail it
use mathlib.Core.Path.{◌≡◌, refl, sym, ap, ◌∙◌}
use mathlib.Core.Bool.{Bool, true, false, not, ◌&&◌, ◌||◌}
use borrow.Author.Tests.{not-true, not-false, le-leb, lt-leb}
use mathlib.Core.List.{List, [], ◌∷◌}
use Prim.Native.Nat.{ℕ, zero, suc, ◌+◌, ◌≤◌, ◌<◌, ◌^◌}
use native.Mathlib.Nat.{not-suc-le-zero, le_of_suc-le-suc}
use native.Mathlib.Numerals.{add-one}
use lib.IntN.{ℤ}
use lib.Signed.{mag}
use mir.Syntax.{Width}
use mir.Val.{to_z, of_z, hbits}
use mir.Facts.{to_z-of_z}
use lib.ListN.{length, take, drop, get_or, drop_of_length-le}
use lib.Seq.{drop-cons, get_or-take, length-take-le}
use Rattle.laws.specs.Lists.{all, any, counted}
use Rattle.laws.proofs.Ranges.{left, right}

abbrev pub Left : {A : Type 0} → (A → Bool) → List A → ℕ → Type 0
Left p l i = all p l ≡ all p (drop i l)

module _ {A : Type 0} (p : A → Bool) (l : List A) (i : ℕ) where
  pub ended : length l ≤ i → Left p l i → true ≡ all p l
  unfolding all
  ended h s = sym (s ∙ rw (drop_of_length-le l {i = i} h))

module _ {A : Type 0} (p : A → Bool) (l : List A) (i : ℕ) (d : A) where
  here : i < length l → all p (drop i l) ≡ (p (get_or l i d) && all p (drop (i + 1) l))
  unfolding all
  here h = rw (drop-cons l i d h, add-one)

  pub passed : i < length l → p (get_or l i d) ≡ true → Left p l i → Left p l (i + 1)
  passed h e s = s ∙ here h ∙ rw e

  pub failed : i < length l → p (get_or l i d) ≡ false → Left p l i → false ≡ all p l
  failed h e s = sym (s ∙ here h ∙ rw e)

-- a test that holds of every element holds of the one at i
pub all-at : {A : Type 0} (p : A → Bool) (l : List A) (i : ℕ) (d : A) → i < length l → all p l ≡ true → p (get_or l i d) ≡ true
unfolding all
all-at p [] i d h e = absurd (not-suc-le-zero h)
all-at p (x ∷ l) zero d h e = left (p x) (all p l) e
all-at p (x ∷ l) (suc i) d h e = all-at p l i d (le_of_suc-le-suc h) (right (p x) (all p l) e)

-- ---- the first n of a list
module _ {A : Type 0} (p : A → Bool) (n : ℕ) (l : List A) (i : ℕ) (d : A) (h : i < n) (m : n ≤ length l) where
  inside : i < length (take n l)
  inside = rw (length-take-le n l m) h

  same : p (get_or (take n l) i d) ≡ p (get_or l i d)
  same = ap p (get_or-take n l i d h)

  pub passed-of : p (get_or l i d) ≡ true → Left p (take n l) i → Left p (take n l) (i + 1)
  passed-of e = passed p (take n l) i d inside (same ∙ e)

  pub failed-of : p (get_or l i d) ≡ false → Left p (take n l) i → false ≡ all p (take n l)
  failed-of e = failed p (take n l) i d inside (same ∙ e)

pub ended_of : {A : Type 0} (p : A → Bool) (n : ℕ) (l : List A) (i : ℕ) → n ≤ length l → n ≤ i → Left p (take n l) i → true ≡ all p (take n l)
ended_of p n l i m h = ended p (take n l) i (rw (length-take-le n l m) h)

-- a table of m places of which n count: too many, one that is not well, or all well
pub counted-over : {A : Type 0} (p : A → Bool) (n m : ℕ) (l : List A) → m < n → false ≡ counted n m p l
unfolding counted
counted-over p n m l h = sym (ap (λ b. b && all p (take n l)) (lt-leb n m h))

few : {A : Type 0} (p : A → Bool) (n m : ℕ) (l : List A) → n ≤ m → all p (take n l) ≡ counted n m p l
unfolding counted
few p n m l h = sym (ap (λ b. b && all p (take n l)) (le-leb n m h))

pub counted-no : {A : Type 0} (p : A → Bool) (n m : ℕ) (l : List A) (i : ℕ) (d : A) → n ≤ m → length l ≡ m → i < n → p (get_or l i d) ≡ false → Left p (take n l) i → false ≡ counted n m p l
counted-no p n m l i d h e j q s = failed-of p n l i d j (rw e h) q s ∙ few p n m l h

pub counted-yes : {A : Type 0} (p : A → Bool) (n m : ℕ) (l : List A) (i : ℕ) → n ≤ m → length l ≡ m → n ≤ i → Left p (take n l) i → true ≡ counted n m p l
counted-yes p n m l i h e j s = ended_of p n l i (rw e h) j s ∙ few p n m l h

-- ---- a call whose answer r is b, tested by `!`: the branch says b
pub no : {r b : Bool} → r ≡ b → not r ≡ true → b ≡ false
no {r} e h = sym e ∙ not-true r h

pub yes : {r b : Bool} → r ≡ b → not r ≡ false → b ≡ true
yes {r} e h = sym e ∙ not-false r h

-- a signed number that is handed over goes as bits, and comes back where it fits
pub is_at : (w : Width) {z : ℤ} {r : Bool} (p : ℤ → Bool) → mag z < 2 ^ hbits w → r ≡ p (to_z w (of_z w z)) → r ≡ p z
is_at w p f e = e ∙ ap p (to_z-of_z (record { sfits = f }))

pub no-at : (w : Width) {z : ℤ} {r : Bool} (p : ℤ → Bool) → mag z < 2 ^ hbits w → r ≡ p (to_z w (of_z w z)) → not r ≡ true → p z ≡ false
no-at w p f e = no (is_at w p f e)

pub yes-at : (w : Width) {z : ℤ} {r : Bool} (p : ℤ → Bool) → mag z < 2 ^ hbits w → r ≡ p (to_z w (of_z w z)) → not r ≡ false → p z ≡ true
yes-at w p f e = yes (is_at w p f e)

-- ---- joined
pub and_no : {a : Bool} (b : Bool) → a ≡ false → false ≡ (a && b)
and_no b e = rw e

pub and_yes : {a b r : Bool} → a ≡ true → r ≡ b → r ≡ (a && b)
and_yes e h = rw e h

-- tests that are all made and joined by `&`, or by `|`
pub both : {a a' b b' : Bool} → a ≡ a' → b ≡ b' → (a && b) ≡ (a' && b')
both p q = rw (p, q)

pub one_of : {a a' b b' : Bool} → a ≡ a' → b ≡ b' → (a || b) ≡ (a' || b')
one_of p q = rw (p, q)

-- a test that holds of the first j and of the one at j
pub all_more : {A : Type 0} (p : A → Bool) (l : List A) (j : ℕ) (d : A) → j < length l → all p (take j l) ≡ true → p (get_or l j d) ≡ true → all p (take (suc j) l) ≡ true
unfolding all
all_more p [] j d h e q = absurd (not-suc-le-zero h)
all_more p (x ∷ l) zero d h e q = rw q
all_more p (x ∷ l) (suc j) d h e q = rw (left (p x) (all p (take j l)) e) (all_more p l j d (le_of_suc-le-suc h) (right (p x) (all p (take j l)) e) q)

-- some element passes a test where not all fail it
pub any-all : {A : Type 0} (p : A → Bool) (l : List A) → not (all (λ x. not (p x)) l) ≡ any p l
unfolding all any
any-all p [] = refl
any-all p (x ∷ l) = go (p x) (any-all p l)
  where
    go : (t : Bool) → not (all (λ x. not (p x)) l) ≡ any p l → not (not t && all (λ x. not (p x)) l) ≡ (t || any p l)
    go true e = refl
    go false e = e
