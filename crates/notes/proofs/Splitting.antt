-- The list with the ends of notes, cut at a place: what comes of the events before it, then of the one at it, then of
-- those after it.
--     split-more   of one event more, counted from the front
--     split_from   of the rest, its first event taken off
--     short        at most two events for one
--     Filling      the loop that puts them at the front of another list, and its two steps
--     Backing      the loop that puts them into the list itself, from the end
use mathlib.Core.Path.{◌≡◌, refl, sym, ap, ◌∙◌}
use mathlib.Core.Bool.{Bool, true, false, cond}
use mathlib.Core.List.{List, [], ◌∷◌, ◌++◌, append_assoc, append-nil}
use Prim.Native.Nat.{ℕ, ◌+◌, ◌-◌, ◌*◌, ◌≤◌, ◌<◌, max}
use native.Mathlib.Numerals.{add-one}
use native.Mathlib.Omega.{arith}
use lib.ListN.{length, get_or, set, take, drop, length-append, take-append-drop, drop_of_length-le, get_or-append}
use lib.Seq.{take-suc, drop-cons, take-take, get_or-take, length-take-le, set_at}
use Rattle.laws.specs.Lists.{put_first}
use Rattle.laws.proofs.Reading.{set-behind}
use Rattle.events.specs.declared.Event.{Event}
use Rattle.events.specs.Events.{zero_event}
use Rattle.notes.specs.Notes.{is_note, off_of, with_off, split_notes}

pub split-append : (a b : List Event) → split_notes (a ++ b) ≡ split_notes a ++ split_notes b
unfolding split_notes
split-append [] b = refl
split-append (e ∷ a) b = ap (λ (r : List Event). with_off e ++ r) (split-append a b) ∙ sym (append_assoc (with_off e) (split_notes a) (split_notes b))

alone : (e : Event) → split_notes (e ∷ []) ≡ with_off e
unfolding split_notes
alone e = append-nil (with_off e)

module _ (es : List Event) (i : ℕ) (h : i < length es) where
  pub split-more : split_notes (take (i + 1) es) ≡ split_notes (take i es) ++ with_off (get_or es i zero_event)
  split-more =
      rw (add-one, take-suc es i zero_event h, split-append)
      (ap (λ (r : List Event). split_notes (take i es) ++ r) (alone (get_or es i zero_event)))

  pub split_from : split_notes (drop i es) ≡ with_off (get_or es i zero_event) ++ split_notes (drop (i + 1) es)
  unfolding split_notes
  split_from = ap split_notes (drop-cons es i zero_event h) ∙ rw add-one

length-one : (t : Bool) (a b : List Event) → length a ≡ 2 → length b ≡ 1 → length (cond t a b) ≤ 2
length-one true a b p q = omega arith
length-one false a b p q = omega arith

pub with-le : (e : Event) → length (with_off e) ≤ 2
with-le e = length-one (is_note e) (e ∷ off_of e ∷ []) (e ∷ []) refl refl

pub short : (es : List Event) → length (split_notes es) ≤ 2 * length es
unfolding split_notes
short [] = omega arith
short (e ∷ es) = simp length-append (omega (arith, with-le e, short es))

-- one event more, counted
module _ (es : List Event) (i n : ℕ) (h : i < length es) (c : n ≡ length (split_notes (take i es))) where
  counted : length (split_notes (take (i + 1) es)) ≡ n + length (with_off (get_or es i zero_event))
  counted = ap length (split-more es i h) ∙ length-append (split_notes (take i es)) _ ∙ ap (λ (k : ℕ). k + length (with_off (get_or es i zero_event))) (sym c)

  pub count-note : (e : Event) → e ≡ get_or es i zero_event → is_note e ≡ true → n + 2 ≡ length (split_notes (take (i + 1) es))
  count-note e q t = sym (counted ∙ rw (← q, t))

  pub count-plain : (e : Event) → e ≡ get_or es i zero_event → is_note e ≡ false → n + 1 ≡ length (split_notes (take (i + 1) es))
  count-plain e q t = sym (counted ∙ rw (← q, t))

-- what comes of fewer events is no more
pub split-le : (es : List Event) (i j : ℕ) → i ≤ j → length (split_notes (take i es)) ≤ length (split_notes (take j es))
split-le es i j h =
    let e : split_notes (take j es) ≡ split_notes (take i es) ++ split_notes (drop i (take j es)) =
    ap split_notes (sym (take-append-drop i (take j es)) ∙ ap (λ (r : List Event). r ++ drop i (take j es)) (take-take i j es h))
    ∙ split-append (take i es) (drop i (take j es)) in
    omega (arith, ap length e ∙ length-append (split_notes (take i es)) (split_notes (drop i (take j es))))

one-at-least : (t : Bool) (a b : List Event) → length a ≡ 2 → length b ≡ 1 → 1 ≤ length (cond t a b)
one-at-least true a b p q = omega arith
one-at-least false a b p q = omega arith

-- what comes of one event more is more
pub rises : (es : List Event) (i : ℕ) → i < length es → length (split_notes (take i es)) < length (split_notes (take (i + 1) es))
rises es i h =
    let e = get_or es i zero_event in
    omega (arith, one-at-least (is_note e) (e ∷ off_of e ∷ []) (e ∷ []) refl refl, ap length (split-more es i h) ∙ length-append (split_notes (take i es)) (with_off e))

-- the first i events are put, with their ends, over the first n of l₀
pub record Filling (es l₀ l : List Event) (i n : ℕ) : Type 0 where
  pub counted : n ≡ length (split_notes (take i es))
  pub sofar : l ≡ split_notes (take i es) ++ drop n l₀

pub fill_none : (es l : List Event) → Filling es l l 0 0
unfolding split_notes
fill_none es l = record { counted = refl; sofar = refl }

module _ (es l₀ l : List Event) (i n : ℕ) (v : Filling es l₀ l i n) (h : i < length es) (e : Event) (q : e ≡ get_or es i zero_event) (room : n < length l₀) where
  abbrev one : List Event
  one = set l n e

  put_one : one ≡ (split_notes (take i es) ++ (e ∷ [])) ++ drop (n + 1) l₀
  put_one = rw v.sofar (set-behind (split_notes (take i es)) l₀ n e (sym v.counted) room e)

  pub fill-plain : is_note e ≡ false → Filling es l₀ one (i + 1) (n + 1)
  fill-plain t =
      let w : split_notes (take (i + 1) es) ≡ split_notes (take i es) ++ (e ∷ []) = split-more es i h ∙ rw (← q, t) in
      record {
        counted = count-plain es i n h v.counted e q t;
        sofar = put_one ∙ ap (λ (r : List Event). r ++ drop (n + 1) l₀) (sym w);
      }

  pub fill-note : is_note e ≡ true → n + 1 < length l₀ → Filling es l₀ (set one (n + 1) (off_of e)) (i + 1) (n + 1 + 1)
  fill-note t more =
      let m : length (split_notes (take i es) ++ (e ∷ [])) ≡ n + 1 = length-append (split_notes (take i es)) (e ∷ []) ∙ ap (λ (k : ℕ). k + 1) (sym v.counted) in
      let w : split_notes (take (i + 1) es) ≡ (split_notes (take i es) ++ (e ∷ [])) ++ (off_of e ∷ []) =
      split-more es i h ∙ rw (← q, t) (sym (append_assoc (split_notes (take i es)) (e ∷ []) (off_of e ∷ []))) in
      record {
        counted = (let k : n + 1 + 1 ≡ n + 2 = omega arith in k) ∙ count-note es i n h v.counted e q t;
        sofar = ap (λ (r : List Event). set r (n + 1) (off_of e)) put_one
            ∙ set-behind (split_notes (take i es) ++ (e ∷ [])) l₀ (n + 1) e m more (off_of e)
            ∙ ap (λ (r : List Event). r ++ drop (n + 1 + 1) l₀) (sym w);
      }

pub filled : (es l₀ l : List Event) (count n : ℕ) → Filling es l₀ l count n
    → (n ≡ length (split_notes (take count es))) × (l ≡ put_first zero_event 0 (split_notes (take count es)) l₀)
filled es l₀ l count n v =
    let z : 0 - length (split_notes (take count es)) ≡ 0 = omega arith in
    let m : max 0 (length (split_notes (take count es))) ≡ n = omega (arith, v.counted) in
    (v.counted, rw (z, m) v.sofar)

-- one is stored where the part of l that still stands ends
put-before : (l m : List Event) (n : ℕ) (x : Event) → n < length l → set (take (n + 1) l ++ m) n x ≡ take n l ++ (x ∷ m)
put-before l m n x h =
    rw (add-one, take-suc l n x h, append_assoc)
    (set_at (take n l) (get_or l n x) m x n (length-take-le n l (omega arith)))

-- at least as many as the events
pub long : (es : List Event) → length es ≤ length (split_notes es)
unfolding split_notes
long [] = omega arith
long (e ∷ es) = simp length-append (omega (arith, one-at-least (is_note e) (e ∷ off_of e ∷ []) (e ∷ []) refl refl, long es))

-- of `count` events the first i stand, with more behind them, in the first n records of l; after these stands what comes of the others
pub record Backing (l₀ l : List Event) (count i n : ℕ) : Type 0 where
  pub within : i ≤ count
  pub counted : n ≡ length (split_notes (take i (take count l₀)))
  pub sofar : l ≡ take n l₀ ++ (split_notes (drop i (take count l₀)) ++ drop (length (split_notes (take count l₀))) l₀)

module _ (l₀ : List Event) (count : ℕ) (fit : count ≤ length l₀) (room : length (split_notes (take count l₀)) ≤ length l₀) where
  abbrev es : List Event
  es = take count l₀

  abbrev rest : List Event
  rest = drop (length (split_notes es)) l₀

  len-es : length es ≡ count
  len-es = length-take-le count l₀ fit

  pub back_start : (total : ℕ) → total ≡ length (split_notes es) → Backing l₀ l₀ count count total
  unfolding split_notes
  back_start total e =
      let a : take count es ≡ es = take-take count count l₀ (omega arith) in
      let b : drop count es ≡ [] = drop_of_length-le es {i = count} (omega (arith, len-es)) in
      record {
        within = omega arith;
        counted = rw a e;
        sofar = rw (b, e) (sym (take-append-drop (length (split_notes es)) l₀));
      }

  module _ (l : List Event) (j n : ℕ) (v : Backing l₀ l count (j + 1) n) (e : Event) where
    inside : j < length es
    inside = let w = v.within in omega (arith, len-es)

    pub reaches : n ≤ length l₀
    reaches = let w = split-le es (j + 1) count v.within in let a : take count es ≡ es = take-take count count l₀ (omega arith) in omega (arith, v.counted, ap (λ (r : List Event). length (split_notes r)) a)

    pub ahead : j < n
    ahead = let w = long (take (j + 1) es) in let t = length-take-le (j + 1) es (omega (arith, inside)) in omega (arith, v.counted)

    -- what is read is what stood there at the start
    pub back_read : get_or l j zero_event ≡ get_or es j zero_event
    back_read =
        let t = length-take-le n l₀ reaches in
        let a = ahead in
        let w = v.within in
        ap (λ (r : List Event). get_or r j zero_event) v.sofar
        ∙ get_or-append (take n l₀) _ zero_event j (omega arith)
        ∙ get_or-take n l₀ j zero_event ahead
        ∙ sym (get_or-take count l₀ j zero_event (omega arith))

    module _ (q : e ≡ get_or es j zero_event) where
      before : length (split_notes (take (j + 1) es)) ≡ length (split_notes (take j es)) + length (with_off e)
      before = ap length (split-more es j inside) ∙ length-append (split_notes (take j es)) _ ∙ rw (← q)

      pub back-plain : is_note e ≡ false → (0 < n) × Backing l₀ (set l (n - 1) e) count j (n - 1)
      back-plain t =
          let c : length (split_notes (take (j + 1) es)) ≡ length (split_notes (take j es)) + 1 = before ∙ rw t in
          let m : n ≡ n - 1 + 1 = omega (arith, v.counted) in
          let w : split_notes (drop j es) ≡ e ∷ split_notes (drop (j + 1) es) = split_from es j inside ∙ rw (← q, t) in (
            omega (arith, v.counted),
            record {
              within = let h = v.within in omega arith;
              counted = omega (arith, v.counted);
              sofar =
                  ap (λ (r : List Event). set r (n - 1) e) (v.sofar ∙ ap (λ (k : ℕ). take k l₀ ++ (split_notes (drop (j + 1) es) ++ rest)) m)
                  ∙ put-before l₀ (split_notes (drop (j + 1) es) ++ rest) (n - 1) e (let r = reaches in omega arith)
                  ∙ ap (λ (r : List Event). take (n - 1) l₀ ++ (r ++ rest)) (sym w);
            },
          )

      pub back-note : is_note e ≡ true → (1 < n) × Backing l₀ (set (set l (n - 2 + 1) (off_of e)) (n - 2) e) count j (n - 2)
      back-note t =
          let c : length (split_notes (take (j + 1) es)) ≡ length (split_notes (take j es)) + 2 = before ∙ rw t in
          let m : n ≡ n - 2 + 1 + 1 = omega (arith, v.counted) in
          let w : split_notes (drop j es) ≡ e ∷ off_of e ∷ split_notes (drop (j + 1) es) = split_from es j inside ∙ rw (← q, t) in (
            omega (arith, v.counted),
            record {
              within = let h = v.within in omega arith;
              counted = omega (arith, v.counted);
              sofar =
                  ap (λ (r : List Event). set (set r (n - 2 + 1) (off_of e)) (n - 2) e) (v.sofar ∙ ap (λ (k : ℕ). take k l₀ ++ (split_notes (drop (j + 1) es) ++ rest)) m)
                  ∙ ap (λ (r : List Event). set r (n - 2) e) (put-before l₀ (split_notes (drop (j + 1) es) ++ rest) (n - 2 + 1) (off_of e) (let r = reaches in omega arith))
                  ∙ put-before l₀ (off_of e ∷ (split_notes (drop (j + 1) es) ++ rest)) (n - 2) e (let r = reaches in omega arith)
                  ∙ ap (λ (r : List Event). take (n - 2) l₀ ++ (r ++ rest)) (sym w);
            },
          )

  pub back_done : (l : List Event) (n : ℕ) → Backing l₀ l count 0 n → l ≡ put_first zero_event count (split_notes es) l₀
  unfolding split_notes
  back_done l n v =
      let a = long es in
      let z : n ≡ 0 = v.counted in
      let k : count - length (split_notes es) ≡ 0 = omega (arith, len-es) in
      let m : max count (length (split_notes es)) ≡ length (split_notes es) = omega (arith, len-es) in
      rw (k, m) (v.sofar ∙ rw z)
