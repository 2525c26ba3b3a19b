-- `split_into` meets its contract: the first i events stand, with their ends, at the front of `out` (`Filling`), and what
-- is to come finds room, since it is no more than what comes of all.
use mathlib.Core.Bool.{true}
use mathlib.Core.Path.{◌≡◌, refl, sym, ap, ◌∙◌, subst}
use mathlib.Core.List.{List}
use Prim.Native.Nat.{ℕ, ◌+◌, ◌≤◌, ◌<◌}
use native.Mathlib.Omega.{arith}
use lib.ListN.{length, get_or, set, take}
use Rattle.laws.proofs.Every.{all-below}
use Rattle.laws.proofs.Every.{all-below}
use Rattle.laws.proofs.Every.{all-below}
use Rattle.events.specs.declared.Event.{Event}
use Rattle.events.specs.Events.{ok_event, zero_event}
use Rattle.eventlist.specs.Rows.{rows_of}
use Rattle.eventlist.specs.Sound.{ok_events}
use Rattle.eventlist.proofs.EventRows.{length-rows_of, same_rows}
use Rattle.notes.specs.Notes.{split_notes, is_note}
use Rattle.notes.proofs.Near.{near}
use Rattle.notes.proofs.Splitting.{Filling, fill_none, fill-plain, fill-note, filled, split-le, rises, count-note}
use Rattle.notes.proofs.split_into.Goals.{then-is_note, else-is_note}
use Rattle.notes.proofs.split_into.Goals as goal

-- the two stores of a note, one after the other
two : (l₀ l₁ : List Event) (n m : ℕ) (e f g : Event) → g ≡ f → l₁ ≡ set l₀ n e → set l₁ m g ≡ set (set l₀ n e) m f
two l₀ l₁ n m e f g p q = rw (p, q)

rows_at : (c : goal.After-write_event-arg-1) → length (rows_of c.loop-i.out) ≡ length (rows_of c.args.out.now)
rows_at c = same_rows c.loop-i.out c.args.out.now c.loop-i.invariant.0

rows_at-at-2 : (c : goal.After-off_of) → length (rows_of c.loop-i.out) ≡ length (rows_of c.args.out.now)
rows_at-at-2 c = same_rows c.loop-i.out c.args.out.now c.loop-i.invariant.0

-- after the step at i there is no more than what comes of all, for which there is room
module _ (c : goal.After-write_event-arg-1) where
  room : length (split_notes (take (c.loop-i.i + 1) (rows_of c.args.events.now))) ≤ length (rows_of c.args.out.now)
  room = let h = split-le (rows_of c.args.events.now) (c.loop-i.i + 1) c.args.count (omega arith) in omega (arith, c.requires.count_in_bounds_2)

  more : length (split_notes (take c.loop-i.i (rows_of c.args.events.now))) < length (split_notes (take (c.loop-i.i + 1) (rows_of c.args.events.now)))
  more = rises (rows_of c.args.events.now) c.loop-i.i (omega arith)

  here : c.loop-i.n < length (rows_of c.args.out.now)
  here = omega (arith, room, more, c.loop-i.invariant.1.counted)

-- after the step at i there is no more than what comes of all, for which there is room
module _ (c : goal.After-out-1) where
  room-at-2 : length (split_notes (take (c.loop-i.i + 1) (rows_of c.args.events.now))) ≤ length (rows_of c.args.out.now)
  room-at-2 = let h = split-le (rows_of c.args.events.now) (c.loop-i.i + 1) c.args.count (omega arith) in omega (arith, c.requires.count_in_bounds_2)

  more-at-2 : length (split_notes (take c.loop-i.i (rows_of c.args.events.now))) < length (split_notes (take (c.loop-i.i + 1) (rows_of c.args.events.now)))
  more-at-2 = rises (rows_of c.args.events.now) c.loop-i.i (omega arith)

  here-at-2 : c.loop-i.n < length (rows_of c.args.out.now)
  here-at-2 = omega (arith, room-at-2, more-at-2, c.loop-i.invariant.1.counted)

-- after the step at i there is no more than what comes of all, for which there is room
module _ (c : goal.After-write_event-arg-then-is_note-1) where
  stored-at-3 : ok_event c.args.store c.read_event-e.result ≡ true
  unfolding ok_events
  stored-at-3 =
      let r = rows_of c.args.events.now in
      ap (ok_event c.args.store) c.read_event-e.ensures
      ∙ all-below (ok_event c.args.store) r c.args.count c.loop-i.i zero_event c.requires.count_in_bounds.1 (omega arith) c.requires.count_in_bounds.0

-- after the step at i there is no more than what comes of all, for which there is room
module _ (c : goal.After-off_of) where
  room-at-4 : length (split_notes (take (c.loop-i.i + 1) (rows_of c.args.events.now))) ≤ length (rows_of c.args.out.now)
  room-at-4 = let h = split-le (rows_of c.args.events.now) (c.loop-i.i + 1) c.args.count (omega arith) in omega (arith, c.requires.count_in_bounds_2)

  further-at-4 : is_note c.read_event-e.result ≡ true → c.loop-i.n + 1 < length (rows_of c.args.out.now)
  further-at-4 t =
      omega (
        arith,
        room-at-4,
        count-note (rows_of c.args.events.now) c.loop-i.i c.loop-i.n (omega arith) c.loop-i.invariant.1.counted c.read_event-e.result c.read_event-e.ensures t,
      )

  -- the event read may be stored-at-4
  stored-at-4 : ok_event c.args.store c.read_event-e.result ≡ true
  unfolding ok_events
  stored-at-4 =
      let r = rows_of c.args.events.now in
      ap (ok_event c.args.store) c.read_event-e.ensures
      ∙ all-below (ok_event c.args.store) r c.args.count c.loop-i.i zero_event c.requires.count_in_bounds.1 (omega arith) c.requires.count_in_bounds.0

-- after the step at i there is no more than what comes of all, for which there is room
module _ (c : goal.After-out-then-is_note-1) where
  room-at-5 : length (split_notes (take (c.loop-i.i + 1) (rows_of c.args.events.now))) ≤ length (rows_of c.args.out.now)
  room-at-5 = let h = split-le (rows_of c.args.events.now) (c.loop-i.i + 1) c.args.count (omega arith) in omega (arith, c.requires.count_in_bounds_2)

  more-at-5 : length (split_notes (take c.loop-i.i (rows_of c.args.events.now))) < length (split_notes (take (c.loop-i.i + 1) (rows_of c.args.events.now)))
  more-at-5 = rises (rows_of c.args.events.now) c.loop-i.i (omega arith)

  here-at-5 : c.loop-i.n < length (rows_of c.args.out.now)
  here-at-5 = omega (arith, room-at-5, more-at-5, c.loop-i.invariant.1.counted)

  further-at-5 : is_note c.read_event-e.result ≡ true → c.loop-i.n + 1 < length (rows_of c.args.out.now)
  further-at-5 t =
      omega (
        arith,
        room-at-5,
        count-note (rows_of c.args.events.now) c.loop-i.i c.loop-i.n (omega arith) c.loop-i.invariant.1.counted c.read_event-e.result c.read_event-e.ensures t,
      )

  -- the event read may be stored-at-5
  stored-at-5 : ok_event c.args.store c.read_event-e.result ≡ true
  unfolding ok_events
  stored-at-5 =
      let r = rows_of c.args.events.now in
      ap (ok_event c.args.store) c.read_event-e.ensures
      ∙ all-below (ok_event c.args.store) r c.args.count c.loop-i.i zero_event c.requires.count_in_bounds.1 (omega arith) c.requires.count_in_bounds.0

-- the same, where both ways have joined
module _ (r out : List Event) (count i n : ℕ) (fit : count ≤ length r) (more-room : length (split_notes (take count r)) ≤ length out) (at : i < count) (counted : n ≡ length (split_notes (take i r))) where
  room-joined : length (split_notes (take (i + 1) r)) ≤ length out
  room-joined = let h = split-le r (i + 1) count (omega arith) in omega arith

  here-joined : n < length out
  here-joined = omega (arith, room-joined, rises r i (omega arith))

  further-joined : (e : Event) → e ≡ get_or r i zero_event → is_note e ≡ true → n + 1 < length out
  further-joined e q t = omega (arith, room-joined, count-note r i n (omega arith) counted e q t)

pub loop-i-init : goal.loop-i-init
loop-i-init c = (refl, fill_none (rows_of c.args.events.now) (rows_of c.args.out.now))

pub write_event-requires : goal.write_event-requires
write_event-requires c = omega (arith, here c, rows_at c)

pub overflow_add-n : goal.overflow_add-n
overflow_add-n c = omega (arith, here-at-2 c, length-rows_of c.args.out.now)

pub off_of-requires : goal.off_of-requires
off_of-requires c =
    near c.args.store c.read_event-e.result (stored-at-3 c)

pub write_event-requires-then-is_note : goal.write_event-requires-then-is_note
write_event-requires-then-is_note c =
    let l = same_rows c.write_event.new.events c.loop-i.out c.write_event.auto.events in
    omega (arith, further-at-4 c (sym c.is_note.ensures ∙ c.if-is_note.true), rows_at-at-2 c)

pub overflow_add-n-then-is_note : goal.overflow_add-n-then-is_note
overflow_add-n-then-is_note c =
    omega (arith, further-at-5 c (sym c.is_note.ensures ∙ c.if-is_note.true), length-rows_of c.args.out.now)

pub loop-i-preserved : goal.loop-i-preserved
loop-i-preserved c =
    let r = rows_of c.args.events.now in
    let out = rows_of c.args.out.now in
    let fit = c.requires.count_in_bounds.0 in
    let v = c.loop-i.invariant.1 in
    let here = here-joined r out c.args.count c.loop-i.i c.loop-i.n fit c.requires.count_in_bounds_2 c.loop-i-test.true v.counted in
    elim c.if-is_note.branch [
      | then-is_note w ↦
          let t = sym c.is_note.ensures ∙ w.if-is_note.true in
          let f = further-joined r out c.args.count c.loop-i.i c.loop-i.n fit c.requires.count_in_bounds_2 c.loop-i-test.true v.counted c.read_event-e.result c.read_event-e.ensures t in
          rw (w.out-is, w.n-is) (
            w.write_event-then-is_note.auto.events ∙ c.write_event.auto.events ∙ c.loop-i.invariant.0,
            subst (λ (l : List Event). Filling r out l (c.loop-i.i + 1) (c.loop-i.n + 1 + 1))
                (sym (w.write_event-then-is_note.ensures ∙ two (rows_of c.loop-i.out) _ c.loop-i.n (c.loop-i.n + 1) c.read_event-e.result _ _ w.off_of.ensures c.write_event.ensures))
                (fill-note r out (rows_of c.loop-i.out) c.loop-i.i c.loop-i.n v (omega arith) c.read_event-e.result c.read_event-e.ensures here t f),
          )
      | else-is_note w ↦
          rw (w.out-is, w.n-is) (
            c.write_event.auto.events ∙ c.loop-i.invariant.0,
            subst (λ (l : List Event). Filling r out l (c.loop-i.i + 1) (c.loop-i.n + 1))
                (sym c.write_event.ensures)
                (fill-plain r out (rows_of c.loop-i.out) c.loop-i.i c.loop-i.n v (omega arith) c.read_event-e.result c.read_event-e.ensures here (sym c.is_note.ensures ∙ w.if-is_note.false)),
          )
    ]

pub shape_of-out : goal.shape_of-out
shape_of-out c = c.loop-i.invariant.0

pub returns : goal.returns
returns c =
    let i : c.loop-i.i ≡ c.args.count = omega arith in
    filled (rows_of c.args.events.now) (rows_of c.args.out.now) (rows_of c.loop-i.out) c.args.count c.loop-i.n
    (subst (λ (k : ℕ). Filling (rows_of c.args.events.now) (rows_of c.args.out.now) (rows_of c.loop-i.out) k c.loop-i.n) i c.loop-i.invariant.1)
