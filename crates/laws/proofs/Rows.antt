-- A flat list read as records of w numbers, over any element, record and width. One induction carries it: a list of whole
-- records and another behind it are read one after the other (`rows_append`); storing over a record is a cut on both sides of it.
--     length-rows, get_d_rows   how many, and where record i begins
--     rows-splice              w numbers stored over record i
--     length-flat, rows-flat, flat_rows   to numbers and back
--     sets-all                 a whole list stored over
use mathlib.Core.Path.{◌≡◌, refl, sym, ap, ◌∙◌}
use mathlib.Core.List.{List, [], ◌∷◌, ◌++◌, append_assoc, append-nil}
use Prim.Native.Nat.{ℕ, zero, suc, ◌+◌, ◌*◌, ◌-◌, ◌≤◌, ◌<◌}
use native.Mathlib.Nat.{not-suc-le-zero, le_of_suc-le-suc, le_of_eq, le_of_lt, le_trans, mul-le-mul_right, zero-mul, suc-mul, add_comm, zero-add, suc-add}
use native.Mathlib.Omega.{arith}
use lib.ListN.{length, get_or, set, take, drop, length-append, length-drop, take-append-drop, drop_of_length-le}
use lib.Seq.{drop-drop, take-add, drop_at, length-take-le, drop-append-le, set_at, sets, sets-eq}
use Rattle.laws.specs.Rows.{rows, flat}

suc-times : (i w : ℕ) → suc i * w ≡ w + i * w
suc-times i w = suc-mul i w ∙ add_comm (i * w) w

module _ {A R : Type 0} (w : ℕ) (dec : List A → R) where
  pub length-rows : (n : ℕ) (l : List A) → length (rows w dec n l) ≡ n
  length-rows zero l = refl
  length-rows (suc n) l = ap suc (length-rows n (drop w l))

  -- record i starts at number i * w
  pub get_d_rows : (n i : ℕ) (l : List A) (d : R) → i < n → get_or (rows w dec n l) i d ≡ dec (drop (i * w) l)
  get_d_rows zero i l d h = absurd (not-suc-le-zero h)
  get_d_rows (suc n) zero l d h = rw zero-mul
  get_d_rows (suc n) (suc i) l d h = get_d_rows n i (drop w l) d (le_of_suc-le-suc h) ∙ rw (drop-drop, suc-times)

  -- dec looks at no more than w numbers
  module _ (front : (p m : List A) → length p ≡ w → dec (p ++ m) ≡ dec p) where
    of-front : (x y : List A) → w ≤ length x → dec (x ++ y) ≡ dec x
    of-front x y h =
        let p = take w x in
        let first : (m : List A) → dec (p ++ m) ≡ dec p = λ m. front p m (length-take-le w x h) in
        let here : x ≡ p ++ drop w x = sym (take-append-drop w x) in
        ap (λ l. dec (l ++ y)) here ∙ ap dec (append_assoc p (drop w x) y) ∙ first (drop w x ++ y) ∙ sym (ap dec here ∙ first (drop w x))

    pub rows_append : (n m : ℕ) (x y : List A) → length x ≡ n * w → rows w dec (n + m) (x ++ y) ≡ rows w dec n x ++ rows w dec m y
    rows_append zero m x y h =
        let none : x ≡ [] = drop_of_length-le x {i = 0} (le_of_eq (h ∙ zero-mul w)) in
        rw (none, zero-add)
    rows_append (suc n) m x y h =
        let long : length x ≡ w + n * w = h ∙ suc-times n w in
        let rest = rows_append n m (drop w x) y (simp length-drop (omega arith)) in
        rw (suc-add, of-front x y (omega arith), drop-append-le w x y (omega arith), rest)

    pub rows-splice : (n i : ℕ) (l v : List A) → length v ≡ w → i < n → n * w ≤ length l → rows w dec n (take (i * w) l ++ (v ++ drop w (drop (i * w) l))) ≡ set (rows w dec n l) i (dec v)
    rows-splice n i l v lv h r =
        let m = n - suc i in
        let n-is : n ≡ i + suc m = omega arith in
        let fits : i * w ≤ length l = le_trans (mul-le-mul_right w (le_of_lt h)) r in
        let before = take (i * w) l in
        let after = drop (i * w) l in
        let long : length before ≡ i * w = length-take-le (i * w) l fits in
        let cut : rows w dec (i + suc m) l ≡ rows w dec i before ++ rows w dec (suc m) after =
        ap (rows w dec (i + suc m)) (sym (take-append-drop (i * w) l)) ∙ rows_append i (suc m) before after long in
        rw (n-is, rows_append i (suc m) before (v ++ drop w after) long, cut, front v (drop w after) lv, drop_at v (drop w after) w lv)
        (sym (set_at (rows w dec i before) (dec after) (rows w dec m (drop w after)) (dec v) i (length-rows i before)))

-- to records and back
module _ {A R : Type 0} (w : ℕ) (dec : List A → R) (enc : R → List A) (len : (r : R) → length (enc r) ≡ w) where
  pub length-flat : (rs : List R) → length (flat enc rs) ≡ length rs * w
  length-flat [] = sym (zero-mul w)
  length-flat (r ∷ rs) = length-append (enc r) (flat enc rs) ∙ rw (len, length-flat rs, suc-times)

  pub rows-flat : ((r : R) (m : List A) → dec (enc r ++ m) ≡ r) → (rs : List R) (m : List A) → rows w dec (length rs) (flat enc rs ++ m) ≡ rs
  rows-flat de [] m = refl
  rows-flat de (r ∷ rs) m = rw (append_assoc, de, drop_at (enc r) (flat enc rs ++ m) w (len r), rows-flat de rs m)

  pub flat_rows : ((l : List A) → w ≤ length l → enc (dec l) ≡ take w l) → (n : ℕ) (l : List A) → n * w ≤ length l → flat enc (rows w dec n l) ≡ take (n * w) l
  flat_rows ed zero l h = rw zero-mul
  flat_rows ed (suc n) l h =
      let h' : w + n * w ≤ length l = rw suc-times at h in
      rw (suc-times, take-add w (n * w) l, ed l (omega arith), flat_rows ed n (drop w l) (simp length-drop (omega arith)))

-- all of a list is stored over
pub sets-all : {A : Type 0} (s vs : List A) → length s ≡ length vs → sets s 0 vs ≡ vs
sets-all s vs h = sets-eq vs s 0 (omega arith) ∙ rw (zero-add, drop_of_length-le s {i = length vs} (omega arith), append-nil vs)
