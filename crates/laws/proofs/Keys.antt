-- Keys of which each may stand only once: the two loops that ask it, and a list that is gathered behind another.
--     From, passed-from, failed-from, ended-from   the test of what stands behind a place: what is left decides
--     Rest, one-alone, one-twice, none_left        each key against those behind it: what is left decides
--     gathered, gathered_none, gathered-more       ks laid over l from place n on, one more at a time
use mathlib.Core.Path.{◌≡◌, sym, ap, ap₂, ◌∙◌}
use mathlib.Core.Bool.{Bool, true, false, ◌&&◌}
use mathlib.Core.List.{List, [], ◌∷◌, ◌++◌, map, append_assoc, map-append}
use Prim.Native.Nat.{ℕ, suc, ◌+◌, ◌-◌, ◌≤◌, ◌<◌}
use native.Mathlib.Numerals.{add-one}
use native.Mathlib.Omega.{arith}
use lib.ListN.{length, get_or, set, take, drop, length-append, length-take, length-drop, take-append-drop, drop_of_length-le}
use lib.Seq.{drop-cons, take-suc, set_at, length-take-le, take-append_seam}
use Rattle.laws.specs.Lists.{all}
use Rattle.laws.specs.Keys.{absent, distinct}

module _ {A : Type 0} (p : A → Bool) (l : List A) (s : ℕ) where
  -- of those from s on the ones before i were well
  abbrev pub From : ℕ → Type 0
  From i = all p (drop s l) ≡ all p (drop i l)

  pub ended-from : (i : ℕ) → length l ≤ i → From i → true ≡ all p (drop s l)
  unfolding all
  ended-from i h v = sym (v ∙ ap (all p) (drop_of_length-le l h))

  module _ (i : ℕ) (d : A) (h : i < length l) (v : From i) where
    cons : all p (drop s l) ≡ (p (get_or l i d) && all p (drop (suc i) l))
    unfolding all
    cons = v ∙ ap (all p) (drop-cons l i d h)

    pub passed-from : p (get_or l i d) ≡ true → From (i + 1)
    passed-from e = rw add-one (cons ∙ ap (λ (b : Bool). b && all p (drop (suc i) l)) e)

    pub failed-from : p (get_or l i d) ≡ false → false ≡ all p (drop s l)
    failed-from e = sym (cons ∙ ap (λ (b : Bool). b && all p (drop (suc i) l)) e)

module _ (l : List ℕ) where
  -- the keys before i stand once
  abbrev pub Rest : ℕ → Type 0
  Rest i = distinct l ≡ distinct (drop i l)

  pub none_left : (i : ℕ) → length l ≤ i → Rest i → true ≡ distinct l
  unfolding distinct
  none_left i h v = sym (v ∙ ap distinct (drop_of_length-le l h))

  module _ (i d : ℕ) (h : i < length l) (v : Rest i) where
    split : distinct l ≡ (absent (get_or l i d) (drop (i + 1) l) && distinct (drop (i + 1) l))
    unfolding distinct
    split = rw add-one (v ∙ ap distinct (drop-cons l i d h))

    pub one-alone : absent (get_or l i d) (drop (i + 1) l) ≡ true → Rest (i + 1)
    one-alone e = split ∙ ap (λ (b : Bool). b && distinct (drop (i + 1) l)) e

    pub one-twice : absent (get_or l i d) (drop (i + 1) l) ≡ false → false ≡ distinct l
    one-twice e = sym (split ∙ ap (λ (b : Bool). b && distinct (drop (i + 1) l)) e)

module _ {A : Type 0} (l : List A) (n : ℕ) where
  abbrev pub gathered : List A → List A
  gathered ks = take n l ++ (ks ++ drop (n + length ks) l)

  pub gathered_none : l ≡ gathered []
  gathered_none = let e : n + 0 ≡ n = omega arith in rw e (sym (take-append-drop n l))

  pub length-gathered : (ks : List A) → n + length ks ≤ length l → length (gathered ks) ≡ length l
  length-gathered ks h = rw (length-append, length-append, length-drop, length-take) (omega arith)

  pub gathered-more : (ks : List A) (x d : A) → n + length ks < length l → set (gathered ks) (n + length ks) x ≡ gathered (ks ++ (x ∷ []))
  gathered-more ks x d h =
      let p : List A = take n l ++ ks in
      let rest : List A = drop (suc (n + length ks)) l in
      let t = length-take-le n l (omega arith) in
      let m : length p ≡ n + length ks = length-append (take n l) ks ∙ ap (λ (k : ℕ). k + length ks) t in
      let e : suc (n + length ks) ≡ n + length (ks ++ (x ∷ [])) = rw length-append (omega arith) in
      ap (λ (y : List A). set y (n + length ks) x) (sym (append_assoc (take n l) ks (drop (n + length ks) l)))
      ∙ ap (λ (y : List A). set (p ++ y) (n + length ks) x) (drop-cons l (n + length ks) d h)
      ∙ set_at p (get_or l (n + length ks) d) rest x (n + length ks) m
      ∙ append_assoc (take n l) ks (x ∷ rest)
      ∙ ap (λ (y : List A). take n l ++ y) (sym (append_assoc ks (x ∷ []) rest))
      ∙ ap (λ (k : ℕ). take n l ++ ((ks ++ (x ∷ [])) ++ drop k l)) e

  -- what counts then is what counted before, and ks
  pub gathered-shown : (ks : List A) → n ≤ length l → take (n + length ks) (gathered ks) ≡ take n l ++ ks
  gathered-shown ks h =
      let p : List A = take n l ++ ks in
      let m : length p ≡ n + length ks = length-append (take n l) ks ∙ ap (λ (k : ℕ). k + length ks) (length-take-le n l h) in
      ap₂ take (sym m) (sym (append_assoc (take n l) ks (drop (n + length ks) l))) ∙ take-append_seam p (drop (n + length ks) l)

-- one more of a list that is mapped
pub map_more : {A B : Type 0} (f : A → B) (l : List A) (i : ℕ) (d : A) → i < length l → map f (take (i + 1) l) ≡ map f (take i l) ++ (f (get_or l i d) ∷ [])
map_more f l i d h = rw (add-one, take-suc l i d h) (map-append f (take i l) (get_or l i d ∷ []))
