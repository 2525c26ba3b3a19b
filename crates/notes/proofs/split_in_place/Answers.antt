-- `split_in_place` meets its contract: from the end, what comes of the events passed stands behind the part of the list that
-- still stands (`Backing`), so that each event is read before its place is written.
use mathlib.Core.Bool.{true, false}
use mathlib.Core.Path.{◌≡◌, refl, sym, ap, ◌∙◌, subst}
use mathlib.Core.List.{List}
use Prim.Native.Nat.{ℕ, ◌+◌, ◌-◌, ◌≤◌, ◌<◌}
use native.Mathlib.Omega.{arith}
use lib.ListN.{length, get_or, set, take}
use lib.Seq.{length-take-le}
use Rattle.laws.proofs.Tests.{all-at}
use Rattle.events.specs.declared.Event.{Event}
use Rattle.events.specs.Events.{ok_event, zero_event}
use Rattle.eventlist.specs.Rows.{rows_of}
use Rattle.eventlist.specs.Sound.{ok_events}
use Rattle.eventlist.proofs.EventRows.{length-rows_of, same_rows}
use Rattle.notes.specs.Notes.{is_note, off_of, split_notes}
use Rattle.notes.proofs.Near.{near}
use Rattle.notes.proofs.Splitting.{Backing, back_start, back_read, back-plain, back-note, back_done, reaches}
use Rattle.notes.proofs.split_in_place.Goals as goal

-- the two stores of a note, one after the other
two : (l₀ l₁ : List Event) (n m : ℕ) (e f g : Event) → g ≡ f → l₁ ≡ set l₀ m g → set l₁ n e ≡ set (set l₀ m f) n e
two l₀ l₁ n m e f g p q = rw (q, p)

rows_at : (c : goal.In-loop-i) → length (rows_of c.loop-i.events) ≡ length (rows_of c.args.events.now)
rows_at c = same_rows c.loop-i.events c.args.events.now c.loop-i.invariant.0

rows_at-at-2 : (c : goal.After-off_of) → length (rows_of c.loop-i.events) ≡ length (rows_of c.args.events.now)
rows_at-at-2 c = same_rows c.loop-i.events c.args.events.now c.loop-i.invariant.0

rows_at-at-3 : (c : goal.After-write_event-arg-then-is_note-1) → length (rows_of c.loop-i.events) ≡ length (rows_of c.args.events.now)
rows_at-at-3 c = same_rows c.loop-i.events c.args.events.now c.loop-i.invariant.0

rows_at-at-4 : (c : goal.After-write_event-arg-else-is_note-1) → length (rows_of c.loop-i.events) ≡ length (rows_of c.args.events.now)
rows_at-at-4 c = same_rows c.loop-i.events c.args.events.now c.loop-i.invariant.0

-- the event read
module _ (c : goal.Then-is_note) where
  abbrev l₀ : List Event
  l₀ = rows_of c.args.events.now

  abbrev j : ℕ
  j = c.loop-i.i - 1

  fit : c.args.count ≤ length l₀
  fit = c.requires.count_in_bounds.0

  room : length (split_notes (take c.args.count l₀)) ≤ length l₀
  room = let h = c.requires.total_value in omega arith

  back : Backing l₀ (rows_of c.loop-i.events) c.args.count (j + 1) c.loop-i.n
  back =
      let e : c.loop-i.i ≡ c.loop-i.i - 1 + 1 = omega arith in
      subst (λ (k : ℕ). Backing l₀ (rows_of c.loop-i.events) c.args.count k c.loop-i.n) e c.loop-i.invariant.1

  is : c.read_event-e.result ≡ get_or (take c.args.count l₀) j zero_event
  is = c.read_event-e.ensures ∙ back_read l₀ c.args.count fit room (rows_of c.loop-i.events) j c.loop-i.n back c.read_event-e.result

  note : is_note c.read_event-e.result ≡ true → (1 < c.loop-i.n) × Backing l₀ (set (set (rows_of c.loop-i.events) (c.loop-i.n - 2 + 1) (off_of c.read_event-e.result)) (c.loop-i.n - 2) c.read_event-e.result) c.args.count j (c.loop-i.n - 2)
  note = back-note l₀ c.args.count fit room (rows_of c.loop-i.events) j c.loop-i.n back c.read_event-e.result is

-- the event read
module _ (c : goal.After-write_event-arg-1) where
  abbrev l₀-at-2 : List Event
  l₀-at-2 = rows_of c.args.events.now

  abbrev j-at-2 : ℕ
  j-at-2 = c.loop-i.i - 1

  fit-at-2 : c.args.count ≤ length l₀-at-2
  fit-at-2 = c.requires.count_in_bounds.0

  room-at-2 : length (split_notes (take c.args.count l₀-at-2)) ≤ length l₀-at-2
  room-at-2 = let h = c.requires.total_value in omega arith

  back-at-2 : Backing l₀-at-2 (rows_of c.loop-i.events) c.args.count (j-at-2 + 1) c.loop-i.n
  back-at-2 =
      let e : c.loop-i.i ≡ c.loop-i.i - 1 + 1 = omega arith in
      subst (λ (k : ℕ). Backing l₀-at-2 (rows_of c.loop-i.events) c.args.count k c.loop-i.n) e c.loop-i.invariant.1

  is-at-2 : c.read_event-e.result ≡ get_or (take c.args.count l₀-at-2) j-at-2 zero_event
  is-at-2 = c.read_event-e.ensures ∙ back_read l₀-at-2 c.args.count fit-at-2 room-at-2 (rows_of c.loop-i.events) j-at-2 c.loop-i.n back-at-2 c.read_event-e.result

  stored-at-2 : ok_event c.args.store c.read_event-e.result ≡ true
  unfolding ok_events
  stored-at-2 =
      let n = length-take-le c.args.count l₀-at-2 fit-at-2 in
      let w = back-at-2.within in
      ap (ok_event c.args.store) is-at-2 ∙ all-at (ok_event c.args.store) (take c.args.count l₀-at-2) j-at-2 zero_event (omega arith) c.requires.count_in_bounds.1

  within-at-2 : c.loop-i.n ≤ length l₀-at-2
  within-at-2 = reaches l₀-at-2 c.args.count fit-at-2 room-at-2 (rows_of c.loop-i.events) j-at-2 c.loop-i.n back-at-2 c.read_event-e.result

-- the event read
module _ (c : goal.After-off_of) where
  abbrev l₀-at-3 : List Event
  l₀-at-3 = rows_of c.args.events.now

  abbrev j-at-3 : ℕ
  j-at-3 = c.loop-i.i - 1

  fit-at-3 : c.args.count ≤ length l₀-at-3
  fit-at-3 = c.requires.count_in_bounds.0

  room-at-3 : length (split_notes (take c.args.count l₀-at-3)) ≤ length l₀-at-3
  room-at-3 = let h = c.requires.total_value in omega arith

  back-at-3 : Backing l₀-at-3 (rows_of c.loop-i.events) c.args.count (j-at-3 + 1) c.loop-i.n
  back-at-3 =
      let e : c.loop-i.i ≡ c.loop-i.i - 1 + 1 = omega arith in
      subst (λ (k : ℕ). Backing l₀-at-3 (rows_of c.loop-i.events) c.args.count k c.loop-i.n) e c.loop-i.invariant.1

  is-at-3 : c.read_event-e.result ≡ get_or (take c.args.count l₀-at-3) j-at-3 zero_event
  is-at-3 = c.read_event-e.ensures ∙ back_read l₀-at-3 c.args.count fit-at-3 room-at-3 (rows_of c.loop-i.events) j-at-3 c.loop-i.n back-at-3 c.read_event-e.result

  within-at-3 : c.loop-i.n ≤ length l₀-at-3
  within-at-3 = reaches l₀-at-3 c.args.count fit-at-3 room-at-3 (rows_of c.loop-i.events) j-at-3 c.loop-i.n back-at-3 c.read_event-e.result

  note-at-3 : is_note c.read_event-e.result ≡ true → (1 < c.loop-i.n) × Backing l₀-at-3 (set (set (rows_of c.loop-i.events) (c.loop-i.n - 2 + 1) (off_of c.read_event-e.result)) (c.loop-i.n - 2) c.read_event-e.result) c.args.count j-at-3 (c.loop-i.n - 2)
  note-at-3 = back-note l₀-at-3 c.args.count fit-at-3 room-at-3 (rows_of c.loop-i.events) j-at-3 c.loop-i.n back-at-3 c.read_event-e.result is-at-3

-- the event read
module _ (c : goal.After-write_event-arg-then-is_note-1) where
  abbrev l₀-at-4 : List Event
  l₀-at-4 = rows_of c.args.events.now

  abbrev j-at-4 : ℕ
  j-at-4 = c.loop-i.i - 1

  fit-at-4 : c.args.count ≤ length l₀-at-4
  fit-at-4 = c.requires.count_in_bounds.0

  room-at-4 : length (split_notes (take c.args.count l₀-at-4)) ≤ length l₀-at-4
  room-at-4 = let h = c.requires.total_value in omega arith

  back-at-4 : Backing l₀-at-4 (rows_of c.loop-i.events) c.args.count (j-at-4 + 1) c.loop-i.n
  back-at-4 =
      let e : c.loop-i.i ≡ c.loop-i.i - 1 + 1 = omega arith in
      subst (λ (k : ℕ). Backing l₀-at-4 (rows_of c.loop-i.events) c.args.count k c.loop-i.n) e c.loop-i.invariant.1

  is-at-4 : c.read_event-e.result ≡ get_or (take c.args.count l₀-at-4) j-at-4 zero_event
  is-at-4 = c.read_event-e.ensures ∙ back_read l₀-at-4 c.args.count fit-at-4 room-at-4 (rows_of c.loop-i.events) j-at-4 c.loop-i.n back-at-4 c.read_event-e.result

  within-at-4 : c.loop-i.n ≤ length l₀-at-4
  within-at-4 = reaches l₀-at-4 c.args.count fit-at-4 room-at-4 (rows_of c.loop-i.events) j-at-4 c.loop-i.n back-at-4 c.read_event-e.result

  note-at-4 : is_note c.read_event-e.result ≡ true → (1 < c.loop-i.n) × Backing l₀-at-4 (set (set (rows_of c.loop-i.events) (c.loop-i.n - 2 + 1) (off_of c.read_event-e.result)) (c.loop-i.n - 2) c.read_event-e.result) c.args.count j-at-4 (c.loop-i.n - 2)
  note-at-4 = back-note l₀-at-4 c.args.count fit-at-4 room-at-4 (rows_of c.loop-i.events) j-at-4 c.loop-i.n back-at-4 c.read_event-e.result is-at-4

-- the event read
module _ (c : goal.After-events-then-is_note-1) where
  abbrev l₀-at-5 : List Event
  l₀-at-5 = rows_of c.args.events.now

  abbrev j-at-5 : ℕ
  j-at-5 = c.loop-i.i - 1

  fit-at-5 : c.args.count ≤ length l₀-at-5
  fit-at-5 = c.requires.count_in_bounds.0

  room-at-5 : length (split_notes (take c.args.count l₀-at-5)) ≤ length l₀-at-5
  room-at-5 = let h = c.requires.total_value in omega arith

  back-at-5 : Backing l₀-at-5 (rows_of c.loop-i.events) c.args.count (j-at-5 + 1) c.loop-i.n
  back-at-5 =
      let e : c.loop-i.i ≡ c.loop-i.i - 1 + 1 = omega arith in
      subst (λ (k : ℕ). Backing l₀-at-5 (rows_of c.loop-i.events) c.args.count k c.loop-i.n) e c.loop-i.invariant.1

  is-at-5 : c.read_event-e.result ≡ get_or (take c.args.count l₀-at-5) j-at-5 zero_event
  is-at-5 = c.read_event-e.ensures ∙ back_read l₀-at-5 c.args.count fit-at-5 room-at-5 (rows_of c.loop-i.events) j-at-5 c.loop-i.n back-at-5 c.read_event-e.result

  note-at-5 : is_note c.read_event-e.result ≡ true → (1 < c.loop-i.n) × Backing l₀-at-5 (set (set (rows_of c.loop-i.events) (c.loop-i.n - 2 + 1) (off_of c.read_event-e.result)) (c.loop-i.n - 2) c.read_event-e.result) c.args.count j-at-5 (c.loop-i.n - 2)
  note-at-5 = back-note l₀-at-5 c.args.count fit-at-5 room-at-5 (rows_of c.loop-i.events) j-at-5 c.loop-i.n back-at-5 c.read_event-e.result is-at-5

-- the event read
module _ (c : goal.Else-is_note) where
  abbrev l₀-at-6 : List Event
  l₀-at-6 = rows_of c.args.events.now

  abbrev j-at-6 : ℕ
  j-at-6 = c.loop-i.i - 1

  fit-at-6 : c.args.count ≤ length l₀-at-6
  fit-at-6 = c.requires.count_in_bounds.0

  room-at-6 : length (split_notes (take c.args.count l₀-at-6)) ≤ length l₀-at-6
  room-at-6 = let h = c.requires.total_value in omega arith

  back-at-6 : Backing l₀-at-6 (rows_of c.loop-i.events) c.args.count (j-at-6 + 1) c.loop-i.n
  back-at-6 =
      let e : c.loop-i.i ≡ c.loop-i.i - 1 + 1 = omega arith in
      subst (λ (k : ℕ). Backing l₀-at-6 (rows_of c.loop-i.events) c.args.count k c.loop-i.n) e c.loop-i.invariant.1

  is-at-6 : c.read_event-e.result ≡ get_or (take c.args.count l₀-at-6) j-at-6 zero_event
  is-at-6 = c.read_event-e.ensures ∙ back_read l₀-at-6 c.args.count fit-at-6 room-at-6 (rows_of c.loop-i.events) j-at-6 c.loop-i.n back-at-6 c.read_event-e.result

  plain-at-6 : is_note c.read_event-e.result ≡ false → (0 < c.loop-i.n) × Backing l₀-at-6 (set (rows_of c.loop-i.events) (c.loop-i.n - 1) c.read_event-e.result) c.args.count j-at-6 (c.loop-i.n - 1)
  plain-at-6 = back-plain l₀-at-6 c.args.count fit-at-6 room-at-6 (rows_of c.loop-i.events) j-at-6 c.loop-i.n back-at-6 c.read_event-e.result is-at-6

-- the event read
module _ (c : goal.After-write_event-arg-else-is_note-1) where
  abbrev l₀-at-7 : List Event
  l₀-at-7 = rows_of c.args.events.now

  abbrev j-at-7 : ℕ
  j-at-7 = c.loop-i.i - 1

  fit-at-7 : c.args.count ≤ length l₀-at-7
  fit-at-7 = c.requires.count_in_bounds.0

  room-at-7 : length (split_notes (take c.args.count l₀-at-7)) ≤ length l₀-at-7
  room-at-7 = let h = c.requires.total_value in omega arith

  back-at-7 : Backing l₀-at-7 (rows_of c.loop-i.events) c.args.count (j-at-7 + 1) c.loop-i.n
  back-at-7 =
      let e : c.loop-i.i ≡ c.loop-i.i - 1 + 1 = omega arith in
      subst (λ (k : ℕ). Backing l₀-at-7 (rows_of c.loop-i.events) c.args.count k c.loop-i.n) e c.loop-i.invariant.1

  is-at-7 : c.read_event-e.result ≡ get_or (take c.args.count l₀-at-7) j-at-7 zero_event
  is-at-7 = c.read_event-e.ensures ∙ back_read l₀-at-7 c.args.count fit-at-7 room-at-7 (rows_of c.loop-i.events) j-at-7 c.loop-i.n back-at-7 c.read_event-e.result

  within-at-7 : c.loop-i.n ≤ length l₀-at-7
  within-at-7 = reaches l₀-at-7 c.args.count fit-at-7 room-at-7 (rows_of c.loop-i.events) j-at-7 c.loop-i.n back-at-7 c.read_event-e.result

  plain-at-7 : is_note c.read_event-e.result ≡ false → (0 < c.loop-i.n) × Backing l₀-at-7 (set (rows_of c.loop-i.events) (c.loop-i.n - 1) c.read_event-e.result) c.args.count j-at-7 (c.loop-i.n - 1)
  plain-at-7 = back-plain l₀-at-7 c.args.count fit-at-7 room-at-7 (rows_of c.loop-i.events) j-at-7 c.loop-i.n back-at-7 c.read_event-e.result is-at-7

-- the event read
module _ (c : goal.After-events-else-is_note-1) where
  abbrev l₀-at-8 : List Event
  l₀-at-8 = rows_of c.args.events.now

  abbrev j-at-8 : ℕ
  j-at-8 = c.loop-i.i - 1

  fit-at-8 : c.args.count ≤ length l₀-at-8
  fit-at-8 = c.requires.count_in_bounds.0

  room-at-8 : length (split_notes (take c.args.count l₀-at-8)) ≤ length l₀-at-8
  room-at-8 = let h = c.requires.total_value in omega arith

  back-at-8 : Backing l₀-at-8 (rows_of c.loop-i.events) c.args.count (j-at-8 + 1) c.loop-i.n
  back-at-8 =
      let e : c.loop-i.i ≡ c.loop-i.i - 1 + 1 = omega arith in
      subst (λ (k : ℕ). Backing l₀-at-8 (rows_of c.loop-i.events) c.args.count k c.loop-i.n) e c.loop-i.invariant.1

  is-at-8 : c.read_event-e.result ≡ get_or (take c.args.count l₀-at-8) j-at-8 zero_event
  is-at-8 = c.read_event-e.ensures ∙ back_read l₀-at-8 c.args.count fit-at-8 room-at-8 (rows_of c.loop-i.events) j-at-8 c.loop-i.n back-at-8 c.read_event-e.result

  plain-at-8 : is_note c.read_event-e.result ≡ false → (0 < c.loop-i.n) × Backing l₀-at-8 (set (rows_of c.loop-i.events) (c.loop-i.n - 1) c.read_event-e.result) c.args.count j-at-8 (c.loop-i.n - 1)
  plain-at-8 = back-plain l₀-at-8 c.args.count fit-at-8 room-at-8 (rows_of c.loop-i.events) j-at-8 c.loop-i.n back-at-8 c.read_event-e.result is-at-8

-- the two arms: what the test says of the event read
is-a-note : (c : goal.Then-is_note) → is_note c.read_event-e.result ≡ true
is-a-note c = sym c.is_note.ensures ∙ c.if-is_note.true

-- the two arms: what the test says of the event read
is-a-note-at-2 : (c : goal.After-off_of) → is_note c.read_event-e.result ≡ true
is-a-note-at-2 c = sym c.is_note.ensures ∙ c.if-is_note.true

-- the two arms: what the test says of the event read
is-a-note-at-3 : (c : goal.After-write_event-arg-then-is_note-1) → is_note c.read_event-e.result ≡ true
is-a-note-at-3 c = sym c.is_note.ensures ∙ c.if-is_note.true

-- the two arms: what the test says of the event read
is-a-note-at-4 : (c : goal.After-events-then-is_note-1) → is_note c.read_event-e.result ≡ true
is-a-note-at-4 c = sym c.is_note.ensures ∙ c.if-is_note.true

is-no-note : (c : goal.Else-is_note) → is_note c.read_event-e.result ≡ false
is-no-note c = sym c.is_note.ensures ∙ c.if-is_note.false

is-no-note-at-2 : (c : goal.After-write_event-arg-else-is_note-1) → is_note c.read_event-e.result ≡ false
is-no-note-at-2 c = sym c.is_note.ensures ∙ c.if-is_note.false

is-no-note-at-3 : (c : goal.After-events-else-is_note-1) → is_note c.read_event-e.result ≡ false
is-no-note-at-3 c = sym c.is_note.ensures ∙ c.if-is_note.false

pub loop-i-init : goal.loop-i-init
loop-i-init c =
    (refl, back_start (rows_of c.args.events.now) c.args.count c.requires.count_in_bounds.0 (let h = c.requires.total_value in omega arith) c.args.total c.requires.total_value.0)

pub read_event-e-requires : goal.read_event-e-requires
read_event-e-requires c =
    let w = c.loop-i.invariant.1.within in
    let p = c.requires.count_in_bounds.0 in
    omega (arith, rows_at c)

pub overflow_sub-n : goal.overflow_sub-n
overflow_sub-n c = omega (arith, (note c (is-a-note c)).0)

pub overflow_add-n : goal.overflow_add-n
overflow_add-n c = omega (arith, within-at-2 c, length-rows_of c.args.events.now)

pub off_of-requires : goal.off_of-requires
off_of-requires c =
    near c.args.store c.read_event-e.result (stored-at-2 c)

pub write_event-requires : goal.write_event-requires
write_event-requires c =
    omega (arith, (note-at-3 c (is-a-note-at-2 c)).0, within-at-3 c, rows_at-at-2 c)

pub write_event-requires-then-is_note : goal.write_event-requires-then-is_note
write_event-requires-then-is_note c =
    omega (arith, (note-at-4 c (is-a-note-at-3 c)).0, within-at-4 c, rows_at-at-3 c, same_rows c.write_event.new.events c.loop-i.events c.write_event.auto.events)

pub loop-i-preserved-then-is_note : goal.loop-i-preserved-then-is_note
loop-i-preserved-then-is_note c = (
  c.write_event-then-is_note.auto.events ∙ c.write_event.auto.events ∙ c.loop-i.invariant.0,
  subst (λ (l : List Event). Backing (l₀-at-5 c) l c.args.count (j-at-5 c) (c.loop-i.n - 2))
      (sym (c.write_event-then-is_note.ensures ∙ two (rows_of c.loop-i.events) _ (c.loop-i.n - 2) (c.loop-i.n - 2 + 1) c.read_event-e.result _ _ c.off_of.ensures c.write_event.ensures))
      (note-at-5 c (is-a-note-at-4 c)).1,
)

pub overflow_sub-n-else-is_note : goal.overflow_sub-n-else-is_note
overflow_sub-n-else-is_note c = omega (arith, (plain-at-6 c (is-no-note c)).0)

pub write_event-requires-else-is_note : goal.write_event-requires-else-is_note
write_event-requires-else-is_note c =
    omega (arith, (plain-at-7 c (is-no-note-at-2 c)).0, within-at-7 c, rows_at-at-4 c)

pub loop-i-preserved : goal.loop-i-preserved
loop-i-preserved c = (
  c.write_event-else-is_note.auto.events ∙ c.loop-i.invariant.0,
  subst (λ (l : List Event). Backing (l₀-at-8 c) l c.args.count (j-at-8 c) (c.loop-i.n - 1))
      (sym c.write_event-else-is_note.ensures)
      (plain-at-8 c (is-no-note-at-3 c)).1,
)

pub shape_of-events : goal.shape_of-events
shape_of-events c = c.loop-i.invariant.0

pub returns : goal.returns
returns c =
    let z : c.loop-i.i ≡ 0 = omega arith in
    back_done (rows_of c.args.events.now) c.args.count c.requires.count_in_bounds.0 (let h = c.requires.total_value in omega arith) (rows_of c.loop-i.events) c.loop-i.n
    (subst (λ (k : ℕ). Backing (rows_of c.args.events.now) (rows_of c.loop-i.events) c.args.count k c.loop-i.n) z c.loop-i.invariant.1)
