-- What a tape's list holds. No call of a tape leaves more events than the list has records, and none makes it longer or shorter; so a
-- tape that is played on the program's list never counts more than 512 (`few`), and what is printed of it is the whole text, its
-- refusal or its events, and never nothing for want of room (`whole`, `some`).
use mathlib.Core.Path.{◌≡◌, refl, ap, ◌∙◌}
use mathlib.Core.Bool.{Bool, true, false, cond, ◌&&◌}
use mathlib.Core.List.{List, [], ◌++◌}
use Prim.Native.Nat.{ℕ, zero, suc, ◌*◌, ◌≤◌, ◌<◌}
use native.Mathlib.Omega.{arith}
use borrow.Author.Tests.{ltb-false, le-leb}
use lib.Dec.{eqb, ltb}
use lib.IntN.{ℤ}
use lib.ListN.{length, length-append, length-take}
use Rattle.std.specs.Prelude.{Result, Ok, Err}
use Rattle.numbers.specs.declared.refusals.Refusal.{Refusal}
use Rattle.laws.specs.Lists.{put_first}
use Rattle.laws.specs.Rows.{flat}
use Rattle.laws.proofs.Firsts.{length-put_first}
use Rattle.events.specs.declared.Event.{Event}
use Rattle.events.specs.Events.{zero_event}
use Rattle.eventlist.specs.Rows.{record_width, numbers_of, rows_of, events_of}
use Rattle.eventlist.proofs.EventRows.{length-rows_of, rows_of-flat}
use Rattle.cutting.specs.declared.Cut.{Cut}
use Rattle.cutting.specs.Cuts.{plain, cut_of, cut_refusal, cut_taken, cut_left}
use Rattle.cutting.proofs.Room.{room}
use Rattle.cutting.proofs.Refusing.{same_count}
use Rattle.cycles.specs.declared.Cycle.{Cycle}
use Rattle.budget.specs.declared.Budget.{Budget}
use Rattle.state.specs.declared.Track.{Track}
use Rattle.drawing.specs.Calls.{Draw, draw_refusal, draw_events, draw_answer, draw_left}
use Rattle.drawing.proofs.Promises as draws
use Rattle.cycling.specs.Calls.{left_by, cycle_refusal, cycled_of, cycled_list}
use Rattle.cycling.proofs.Refusing as turns
use Rattle.reel.specs.Limits.{tape_limit, event_room}
use Rattle.reel.specs.declared.marks.Mark.{Mark}
use Rattle.reel.specs.declared.marks.Mark.TheVariants.{Track as TK, Budget as MX, Time as TP, Freqs as FQ, Curve as OT, Cycle as CY, Turn as RC, Cut as PF}
use Rattle.reel.specs.declared.records.Record.{Record}
use Rattle.reel.specs.Records.{record_at}
use Rattle.lines.specs.Lines.{events_word, bytes_word, over_word, seed_word, refused_word, at_word, pair_text, first_text, line_text, refusal_text, done_text, newline, page_long, printable, end_text}
use Rattle.carrying.specs.declared.State.{State}
use Rattle.carrying.specs.Carry.{carried_to, make_track, make_budget, move_to, set_freqs, curve_of, set_cycle, turn_answer, turn_list, carried_as, carried}
use Rattle.spool.specs.declared.Run.{Run}
use Rattle.spool.specs.Play.{Pass, pass, blank_state, begun, refused, after_done, after_record, step_by, step_of, play_from_by, play_from, ended, play_by, play_of, printed_by, printed}

-- a list of n records, so many of which are events
pub record Holds (n count : ℕ) (l : List ℤ) : Type 0 where
  pub few : count ≤ n
  pub records : length (rows_of l) ≡ n

module _ (n : ℕ) where
  -- ---- the three calls that change the list
  put_holds : (count : ℕ) (l : List ℤ) (es : List Event) → Holds n count l → length es ≤ length (rows_of l)
      → Holds n (length es) (flat numbers_of (put_first zero_event count es (rows_of l)))
  put_holds count l es h k =
      let long = length-put_first zero_event count es (rows_of l) (omega (arith, h.few, h.records)) k in
      record { few = omega (arith, h.records); records = ap length (rows_of-flat (put_first zero_event count es (rows_of l))) ∙ long ∙ h.records }

  curve-holds : (d : Draw) → Holds n d.count d.events → Holds n (draw_answer d).count (draw_left d)
  curve-holds d h = go (draw_refusal d) refl
    where
      go : (m : ℕ) → draw_refusal d ≡ m → Holds n (draw_answer d).count (draw_left d)
      go zero e = rw (draws.accepted-as d e, draws.accepted-left d e) (put_holds d.count d.events (draw_events d) h (ltb-false _ _ (draws.has_room d e)))
      go (suc m) e =
          let ne : draw_refusal d ≡ 0 → ⊥ = λ z. omega (arith, e, z) in
          rw (draws.refused_as d ne, draws.refused-left d ne) h

  module _ (a : Track) (size : ℕ) (cs : List Cycle) (until : ℤ) (b : Budget) (l : List ℤ) (count : ℕ) where
    turn_holds : Holds n count l → Holds n (cycled_of a size cs until b l count).count (cycled_list a size cs until b l count)
    turn_holds h = go (cycle_refusal a size cs until b l count) refl
      where
        go : (m : ℕ) → cycle_refusal a size cs until b l count ≡ m → Holds n (cycled_of a size cs until b l count).count (cycled_list a size cs until b l count)
        go zero e =
            rw (turns.answer a size cs until b l count e, turns.list_left_lem a size cs until b l count e)
            (put_holds count l (left_by a cs until b (events_of l count)).events h (turns.roomy a size cs until b l count e))
        go (suc m) e =
            let r = turns.refused a size cs until b l count (λ z. omega (arith, e, z)) in
            rw (← r.0, ← r.1) h

  cut_holds : (store : ℕ) (l : List ℤ) (count : ℕ) (c : Cut) → Holds n count l → Holds n (cut_taken store l count c).count (cut_left store l count c)
  cut_holds store l count c h = go (eqb (cut_refusal store l count c) 0)
    where
      fits : length (cut_of c (events_of l count)) ≤ length (rows_of l)
      fits = omega (arith, room c (events_of l count), same_count c (events_of l count), length-take count (rows_of l))

      go : (t : Bool) → Holds n (cond t (length (cut_of c (events_of l count))) count) (cond t (flat numbers_of (put_first zero_event count (cut_of c (events_of l count)) (rows_of l))) l)
      go true = put_holds count l (cut_of c (events_of l count)) h fits
      go false = h

  -- ---- a record's call
  abbrev Kept : List ℤ → Result State ℕ → Type 0
  Kept l (Ok s) = Holds n s.count l
  Kept l (Err _) = length (rows_of l) ≡ n

  kept-to : (code : ℕ) (s : State) (l : List ℤ) → Holds n s.count l → Kept l (carried_to code s)
  kept-to code s l h = go (eqb code 0)
    where
      go : (t : Bool) → Kept l (cond t (Ok s) (Err code))
      go true = h
      go false = h.records

  carried-holds : (m : Mark) (s : State) (r : Record) (l : List ℤ) → Holds n s.count l → Kept (carried_as m s r l).events (carried_as m s r l).done
  unfolding carried_as make_track make_budget move_to set_freqs curve_of set_cycle turn_answer turn_list
  carried-holds TK s r l h = kept-to _ _ _ h
  carried-holds MX s r l h = kept-to _ _ _ h
  carried-holds TP s r l h = kept-to _ _ _ h
  carried-holds FQ s r l h = kept-to _ _ _ h
  carried-holds OT s r l h = kept-to _ _ _ (curve-holds (curve_of s r l) h)
  carried-holds CY s r l h = kept-to _ _ _ h
  carried-holds RC s r l h = kept-to _ _ _ (turn_holds s.track _ s.cycles r.x s.budget l s.count h)
  carried-holds PF s r l h = kept-to _ _ _ (cut_holds 0 l s.count (plain r.x) h)

  -- ---- the whole tape
  abbrev In : Pass → Type 0
  In p = Holds n p.run.state.count p.events

  either : (t : Bool) (x y : Pass) → In x → In y → In (cond t x y)
  either true x y p q = p
  either false x y p q = q

  step-holds : (s : List ℕ) (a : Run) (l : List ℤ) → In (pass a l) → In (step_of s a l)
  unfolding step_by
  step-holds s a l h = go (record_at s a.at a.due)
    where
      each : (r : Record) (e : List ℤ) (d : Result State ℕ) → Kept e d → In (after_done s a r e d)
      each r e (Ok y) k = k
      each r e (Err m) k = record { few = h.few; records = k }

      go : (x : Result Record Refusal) → In (after_record s a l x)
      go (Ok r) = each r (carried a.state r l).events (carried a.state r l).done (carried-holds r.mark a.state r l h)
      go (Err e) = h

  from-holds : (left : ℕ) (s : List ℕ) (p : Pass) → In p → In (play_from left s p)
  unfolding play_from_by
  from-holds zero s p h = h
  from-holds (suc left) s p h =
      either (ltb p.run.at (length s)) (play_from left s (step_of s p.run p.events)) p
      (from-holds left s (step_of s p.run p.events) (step-holds s p.run p.events h)) h

-- ---- a text has a line
line-some : (x : List ℕ) → 0 < length (x ++ newline)
line-some x = omega (arith, length-append x newline)

first_some : (count : ℕ) (b : Budget) → 0 < length (first_text count b)
unfolding first_text
first_some count b = line-some (pair_text events_word count bytes_word b.used ++ pair_text over_word b.over seed_word b.seed)

done-some : (count : ℕ) (b : Budget) (es : List Event) → 0 < length (done_text count b es)
unfolding done_text
done-some count b es = omega (arith, length-append (first_text count b) (flat line_text es), first_some count b)

refusal-some : (n k : ℕ) → 0 < length (refusal_text n k)
unfolding refusal_text
refusal-some n k = line-some (pair_text refused_word n at_word k)

module _ (s : List ℕ) (l : List ℤ) where
  begun-holds : Holds (length (rows_of l)) begun.state.count l
  unfolding blank_state
  begun-holds = record { few = omega arith; records = refl }

  played : Holds (length (rows_of l)) (play_of s l).run.state.count (play_of s l).events
  unfolding play_by
  played =
      either (length (rows_of l)) (ltb tape_limit (length s)) (pass (refused begun 8 (length s)) l) (play_from (length s) s (pass begun l)) begun-holds
      (from-holds (length (rows_of l)) (length s) s (pass begun l) begun-holds)

  -- how the tape ended
  abbrev pub over : Run
  over = ended (length s) (play_of s l).run

  -- a TK or MX that is missing changes the number alone
  over-state : over.state ≡ (play_of s l).run.state
  over-state = go (eqb (play_of s l).run.code 0 && ltb (play_of s l).run.due 2)
    where
      go : (t : Bool) → (cond t (refused (play_of s l).run 8 (length s)) (play_of s l).run).state ≡ (play_of s l).run.state
      go true = refl
      go false = refl

  -- as many records as before, and no more events than records
  pub holds : Holds (length (rows_of l)) over.state.count (play_of s l).events
  holds = rw over-state played

  -- ---- on the program's list: "The list holds 512 events"
  module _ (room : length l ≡ event_room * record_width) where
    pub few : over.state.count ≤ event_room
    few = omega (arith, holds.few, length-rows_of l, room)

    module _ (page : List ℕ) (long : page_long ≤ length page) where
      fine : printable over.state.count (play_of s l).events page ≡ true
      unfolding printable
      fine = rw (le-leb _ _ long, le-leb _ _ few, le-leb over.state.count (length (rows_of (play_of s l).events)) (omega (arith, holds.few, holds.records)))

      -- the whole text: of the refusal, or of the events
      pub whole : printed s l page
          ≡ cond (eqb over.code 0) (done_text over.state.count over.state.budget (events_of (play_of s l).events over.state.count)) (refusal_text over.code over.index)
      unfolding printed_by end_text
      whole = ap (λ (t : Bool). cond t (cond (eqb over.code 0) (done_text over.state.count over.state.budget (events_of (play_of s l).events over.state.count)) (refusal_text over.code over.index)) []) fine

      pub some : 0 < length (printed s l page)
      some = rw whole (go (eqb over.code 0))
        where
          go : (t : Bool) → 0 < length (cond t (done_text over.state.count over.state.budget (events_of (play_of s l).events over.state.count)) (refusal_text over.code over.index))
          go true = done-some over.state.count over.state.budget (events_of (play_of s l).events over.state.count)
          go false = refusal-some over.code over.index
