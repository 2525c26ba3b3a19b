-- Reading and storing in a list of which a front has been worked on already, over any element.
--     get_d_any     below the length the default does not matter
--     read_behind  the element at i, behind i others
--     set-behind   a store there
use mathlib.Core.Path.{◌≡◌, refl, sym, ap, ◌∙◌}
use mathlib.Core.List.{List, [], ◌∷◌, ◌++◌, map}
use Prim.Native.Nat.{ℕ, zero, suc, ◌+◌, ◌<◌}
use native.Mathlib.Nat.{not-suc-le-zero, le_of_suc-le-suc}
use native.Mathlib.Numerals.{add-one}
use lib.ListN.{length, get_or, set, drop, length-map}
use lib.Seq.{drop-cons, set_at, append_snoc, get_or_at}

module _ {A : Type 0} where
  pub get_d_any : (l : List A) (i : ℕ) (d e : A) → i < length l → get_or l i d ≡ get_or l i e
  get_d_any [] i d e h = absurd (not-suc-le-zero h)
  get_d_any (x ∷ l) zero d e h = refl
  get_d_any (x ∷ l) (suc i) d e h = get_d_any l i d e (le_of_suc-le-suc h)

  module _ (p l : List A) (i : ℕ) (d : A) (e : length p ≡ i) (h : i < length l) where
    pub read_behind : get_or (p ++ drop i l) i d ≡ get_or l i d
    read_behind = ap (λ (r : List A). get_or (p ++ r) i d) (drop-cons l i d h) ∙ get_or_at p (get_or l i d) (drop (suc i) l) d i e

    pub set-behind : (x : A) → set (p ++ drop i l) i x ≡ (p ++ (x ∷ [])) ++ drop (i + 1) l
    set-behind x =
        rw add-one
        (ap (λ (r : List A). set (p ++ r) i x) (drop-cons l i d h) ∙ set_at p (get_or l i d) (drop (suc i) l) x i e
        ∙ sym (append_snoc p x (drop (suc i) l)))

-- an array of records in a record: what is known of its length is known of the list of its elements' values
pub length-told : (A B : Type 0) (f : A → B) (l : List A) (n : ℕ) → length (map f l) ≡ n → length l ≡ n
length-told A B f l n e = sym (length-map l f) ∙ e
