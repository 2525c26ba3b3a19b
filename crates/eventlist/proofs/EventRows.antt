-- The laws of rows (crate laws) at our width: where the flat numbers are met, and the only place.
--     length-rows_of, same_rows, room      how many records a slice has, and that record i lies within it
--     read-part, write-part               a record read, or written, through the part of the slice that is lent
--     rows_take, rows_drop                a slice cut at record n
--     part-rows, put-rows, put-long       a stretch of records lent as a part, and put back
--     put_front, front_long               a stretch from the start
--     flat-rows_of, rows_of-flat            records and numbers, there and back
--     zero_rows, rows_paste               records of zeros; a stretch written over another
--     determined                          the records of a whole slice say every number of it
use mathlib.Core.Path.{◌≡◌, refl, sym, ap, ◌∙◌}
use mathlib.Core.List.{List, [], ◌∷◌, ◌++◌, append-nil}
use Prim.Native.Nat.{ℕ, zero, suc, ◌+◌, ◌-◌, ◌*◌, ◌/◌, ◌≤◌, ◌<◌}
use native.Mathlib.Omega.{arith}
use lib.IntN.{ℤ, pos}
use lib.Dec.{lit<}
use lib.ListN.{length, get_or, set, take, drop, replicate, replicate-append-replicate, get_or-append, length-append, length-take, length-drop, take-append-drop}
use lib.Seq.{length-take-le, take_at, drop_at, take_all, paste}
use borrow.Rule.Slice.PartMut.{put_mid}
use Rattle.laws.specs.Rows.{flat}
use Rattle.laws.proofs.Rows.{length-rows, get_d_rows, rows-splice, rows_append, length-flat, rows-flat, flat_rows}
use Rattle.events.specs.declared.Event.{Event}
use Rattle.events.specs.Events.{zero_event}
use Rattle.eventlist.specs.Rows.{record_width, event_of, numbers_of, rows_of, Whole}

-- an event is said by the first numbers alone
front : (p m : List ℤ) → length p ≡ record_width → event_of (p ++ m) ≡ event_of p
front p m h =
    let at : (k : ℕ) → k < record_width → get_or (p ++ m) k (pos 0) ≡ get_or p k (pos 0) = λ k hk. get_or-append p m (pos 0) k (omega arith) in
    rw (at 0 (lit< tt), at 1 (lit< tt), at 2 (lit< tt), at 3 (lit< tt), at 4 (lit< tt), at 5 (lit< tt), at 6 (lit< tt), at 7 (lit< tt))

pub length-rows_of : (l : List ℤ) → length (rows_of l) ≡ length l / record_width
unfolding rows_of
length-rows_of l = length-rows record_width event_of (length l / record_width) l

pub same_rows : (a b : List ℤ) → length a ≡ length b → length (rows_of a) ≡ length (rows_of b)
same_rows a b h = length-rows_of a ∙ ap (λ (n : ℕ). n / record_width) h ∙ sym (length-rows_of b)

-- one record
module _ (l : List ℤ) (i : ℕ) (h : i < length (rows_of l)) where
  -- its numbers lie within the slice's
  pub room : i * record_width + record_width ≤ length l
  room = omega (arith, length-rows_of l)

  abbrev at : ℕ
  at = i * record_width

  long : at + record_width - at ≡ record_width
  long = omega arith

  within : i < length l / record_width
  within = rw length-rows_of at h

  pub read-row : get_or (rows_of l) i zero_event ≡ event_of (drop at l)
  unfolding rows_of
  read-row = get_d_rows record_width event_of (length l / record_width) i l zero_event within

  pub write-row : (e : Event) → rows_of (take at l ++ (numbers_of e ++ drop record_width (drop at l))) ≡ set (rows_of l) i e
  unfolding rows_of
  write-row e =
      let r = room in
      let n : length (take at l ++ (numbers_of e ++ drop record_width (drop at l))) ≡ length l = simp (length-append, length-take, length-drop) (omega arith) in
      rw n (rows-splice record_width event_of front (length l / record_width) i l (numbers_of e) refl within (omega arith))

  -- as the part of the slice that is lent has it
  pub read-part : event_of (take (at + record_width - at) (drop at l)) ≡ get_or (rows_of l) i zero_event
  read-part =
      let r = room in
      let m = drop at l in
      let lm : record_width ≤ length m = simp length-drop (omega arith) in
      rw long
      (sym (front (take record_width m) (drop record_width m) (length-take-le record_width m lm))
      ∙ ap event_of (take-append-drop record_width m)
      ∙ sym read-row)

  pub write-part : (v : List ℤ) (e : Event) → v ≡ numbers_of e → rows_of (put_mid at (at + record_width - at) l v) ≡ set (rows_of l) i e
  write-part v e q = rw (long, q) (write-row e)

pub rows_of-append : (x y : List ℤ) (n : ℕ) → length x ≡ n * record_width → rows_of (x ++ y) ≡ rows_of x ++ rows_of y
unfolding rows_of
rows_of-append x y n h =
    let q : length (x ++ y) / record_width ≡ length x / record_width + length y / record_width = simp length-append (omega arith) in
    rw q (rows_append record_width event_of front (length x / record_width) (length y / record_width) x y (omega arith))

-- a slice cut at record n
module _ (l : List ℤ) (n : ℕ) (h : n * record_width ≤ length l) where
  abbrev before : List ℤ
  before = take (n * record_width) l

  abbrev after : List ℤ
  after = drop (n * record_width) l

  long-before : length before ≡ n * record_width
  long-before = length-take-le (n * record_width) l h

  rows_before : length (rows_of before) ≡ n
  rows_before = length-rows_of before ∙ (let e = long-before in omega arith)

  joined : rows_of l ≡ rows_of before ++ rows_of after
  joined = ap rows_of (sym (take-append-drop (n * record_width) l)) ∙ rows_of-append before after n long-before

  pub rows_take : rows_of (take (n * record_width) l) ≡ take n (rows_of l)
  rows_take = sym (ap (take n) joined ∙ take_at (rows_of before) (rows_of after) n rows_before)

  pub rows_drop : rows_of (drop (n * record_width) l) ≡ drop n (rows_of l)
  rows_drop = sym (ap (drop n) joined ∙ drop_at (rows_of before) (rows_of after) n rows_before)

-- n records from record i on, lent as a part of s numbers, and put back
module _ (l : List ℤ) (i n s : ℕ) (e : s ≡ n * record_width) (h : i * record_width + n * record_width ≤ length l) where
  abbrev rest : List ℤ
  rest = drop (i * record_width) l

  fits : n * record_width ≤ length rest
  fits = simp length-drop (omega arith)

  pub part-long : length (take s rest) ≡ n * record_width
  part-long = rw e (length-take-le (n * record_width) rest fits)

  pub part-rows : rows_of (take s rest) ≡ take n (drop i (rows_of l))
  part-rows = rw e (rows_take rest n fits ∙ ap (take n) (rows_drop l i (omega arith)))

  pub put-rows : (y : List ℤ) → length y ≡ n * record_width → rows_of (put_mid (i * record_width) s l y) ≡ take i (rows_of l) ++ (rows_of y ++ drop n (drop i (rows_of l)))
  put-rows y ly =
      rw e
      (rows_of-append (take (i * record_width) l) (y ++ drop (n * record_width) rest) i (length-take-le (i * record_width) l (omega arith))
      ∙ rw (rows_take l i (omega arith), rows_of-append y (drop (n * record_width) rest) n ly, rows_drop rest n fits, rows_drop l i (omega arith)))

  pub put-long : (y : List ℤ) → length y ≡ n * record_width → length (put_mid (i * record_width) s l y) ≡ length l
  put-long y ly = rw e (simp (length-append, length-take, length-drop) (omega arith))

-- the first n records, lent and put back
module _ (l y : List ℤ) (n : ℕ) (h : n * record_width ≤ length l) (ly : length y ≡ n * record_width) where
  pub put_front : rows_of (y ++ drop (n * record_width) l) ≡ rows_of y ++ drop n (rows_of l)
  put_front = rows_of-append y (drop (n * record_width) l) n ly ∙ rw (rows_drop l n h)

  pub front_long : length (y ++ drop (n * record_width) l) ≡ length l
  front_long = simp (length-append, length-drop) (omega arith)

-- eight numbers and more, as an event and back
back : (l : List ℤ) → record_width ≤ length l → numbers_of (event_of l) ≡ take record_width l
back [] h = absurd (omega arith)
back (a ∷ []) h = absurd (omega arith)
back (a ∷ b ∷ []) h = absurd (omega arith)
back (a ∷ b ∷ c ∷ []) h = absurd (omega arith)
back (a ∷ b ∷ c ∷ d ∷ []) h = absurd (omega arith)
back (a ∷ b ∷ c ∷ d ∷ e ∷ []) h = absurd (omega arith)
back (a ∷ b ∷ c ∷ d ∷ e ∷ f ∷ []) h = absurd (omega arith)
back (a ∷ b ∷ c ∷ d ∷ e ∷ f ∷ g ∷ []) h = absurd (omega arith)
back (a ∷ b ∷ c ∷ d ∷ e ∷ f ∷ g ∷ i ∷ l) h = refl

pub flat-rows_of : (l : List ℤ) → Whole l → flat numbers_of (rows_of l) ≡ l
unfolding rows_of Whole
flat-rows_of l w =
    let r = length-rows_of l in
    flat_rows record_width event_of numbers_of (λ e. refl) back (length l / record_width) l (omega arith)
    ∙ take_all (length l / record_width * record_width) l (omega arith)

pub rows_of-flat : (rs : List Event) → rows_of (flat numbers_of rs) ≡ rs
unfolding rows_of
rows_of-flat rs =
    let n = length-flat record_width event_of numbers_of (λ e. refl) rs in
    let q : length (flat numbers_of rs) / record_width ≡ length rs = omega arith in
    rw (q, ← append-nil (flat numbers_of rs)) (rows-flat record_width event_of numbers_of (λ e. refl) (λ r m. refl) rs [])

pub determined : (l l' : List ℤ) (rs : List Event) → Whole l → length l' ≡ length l → rows_of l' ≡ rs → l' ≡ flat numbers_of rs
unfolding Whole
determined l l' rs w n e = let r = same_rows l' l n in sym (flat-rows_of l' (omega arith)) ∙ ap (flat numbers_of) e

-- records of zeros
zero_numbers : (n : ℕ) → flat numbers_of (replicate n zero_event) ≡ replicate (n * record_width) (pos 0)
zero_numbers zero = refl
zero_numbers (suc n) =
    ap (λ (x : List ℤ). numbers_of zero_event ++ x) (zero_numbers n)
    ∙ replicate-append-replicate record_width (n * record_width) (pos 0)
    ∙ ap (λ (k : ℕ). replicate k (pos 0)) (omega arith)

pub zero_rows : (n : ℕ) → rows_of (replicate (n * record_width) (pos 0)) ≡ replicate n zero_event
zero_rows n = sym (ap rows_of (zero_numbers n)) ∙ rows_of-flat (replicate n zero_event)

-- n records from record `from` on, written over those from record `to` on
module _ (l : List ℤ) (from to n m : ℕ) (e : m ≡ n * record_width) (back : to ≤ from) (h : from + n ≤ length (rows_of l)) where
  numbers_long : from * record_width + n * record_width ≤ length l
  numbers_long = omega (arith, length-rows_of l)

  pub rows_paste : rows_of (paste l (to * record_width) (drop (from * record_width) l) m) ≡ paste (rows_of l) to (drop from (rows_of l)) n
  rows_paste =
      let x = take (to * record_width) l in
      let y = take (n * record_width) (drop (from * record_width) l) in
      let w = numbers_long in
      let behind : to * record_width + n * record_width ≡ (to + n) * record_width = omega arith in
      let long : length (x ++ y) ≡ (to + n) * record_width = simp (length-append, length-take, length-drop) (omega arith) in
      rw (e, behind)
      (rows_of-append (x ++ y) (drop ((to + n) * record_width) l) (to + n) long
      ∙ rw (rows_of-append x y to (length-take-le (to * record_width) l (omega arith)), rows_take l to (omega arith), part-rows l from n (n * record_width) refl w, rows_drop l (to + n) (omega arith)))
