-- Sound in, sound out: what an accepted `write_cc_on_note` leaves passes the tests of the next call. Its events stand at the note's
-- start, moved by a delay; its track's lists have advanced or are gone (Staying).
--     run-stored              the events of a run
--     NoteSound, note-sound   the call
use mathlib.Core.Path.{◌≡◌, refl, ap, ap₂, ◌∙◌}
use mathlib.Core.Bool.{Bool, true, ◌&&◌, cond}
use mathlib.Core.List.{List}
use Prim.Native.Nat.{ℕ, ◌≤◌}
use native.Mathlib.Omega.{arith}
use borrow.Author.Tests.{ltb-false}
use lib.Dec.{ltb}
use lib.IntN.{ℤ}
use lib.ListN.{length, take}
use Rattle.laws.specs.Lists.{all, put_first}
use Rattle.laws.specs.Rows.{flat}
use Rattle.laws.proofs.Ranges.{left, right}
use Rattle.laws.proofs.Parts.{all_append}
use Rattle.numbers.specs.Ranges.{is_time, is_channel}
use Rattle.budget.specs.declared.Budget.{Budget}
use Rattle.budget.specs.Budgets.{ok_budget}
use Rattle.events.specs.declared.Event.{Event}
use Rattle.events.specs.Events.{zero_event, ok_event}
use Rattle.eventlist.specs.Rows.{numbers_of, rows_of, events_of}
use Rattle.eventlist.specs.Sound.{is_list, ok_events}
use Rattle.eventlist.proofs.Sound.{Passed, passed, no_seven, left-list, left-events}
use Rattle.values.specs.declared.WriteOption.{WriteOption}
use Rattle.values.specs.Options.{ok_option}
use Rattle.values.specs.Value.{wrote_of}
use Rattle.values.proofs.Options.{option-at, option-delay}
use Rattle.values.proofs.Stored.{time-stored, stored-near}
use Rattle.cycles.specs.declared.Cycle.{Cycle}
use Rattle.cycles.specs.Due.{DueWrite, key}
use Rattle.cycles.specs.Turns.{asked, offered, option_of}
use Rattle.tables.specs.declared.OnNoteValues.{OnNoteValues}
use Rattle.state.specs.declared.Track.{Track}
use Rattle.state.specs.Tests.{ok_options, ok_track, ok_lent}
use Rattle.state.proofs.Parts.{track-play, track-options}
use Rattle.state.proofs.Play.{play-channel}
use Rattle.noting.specs.declared.Onset.{Onset}
use Rattle.noting.specs.declared.Noted.{Noted}
use Rattle.noting.specs.Lists.{due_at}
use Rattle.noting.specs.Runs.{wrote_at, run, kept, notes_put}
use Rattle.noting.specs.Calls.{run_of, with_notes, list_after, refusal, answer, noted, list_left}
use Rattle.noting.proofs.Playing.{run-cases}
use Rattle.noting.proofs.Promises.{budget-kept}
use Rattle.noting.proofs.Staying.{track-kept, lent-kept}

-- ---- a run
module _ (store : ℕ) (options : List WriteOption) (at : Onset) (ok : all ok_option options ≡ true) (t : is_time at.start ≡ true) (c : is_channel at.channel ≡ true) where
  one-stored : (b : Budget) (e : OnNoteValues) → ok_event store (wrote_at (option_of options e.target) at b e).event ≡ true
  unfolding wrote_at wrote_of
  one-stored b e =
      let o = option_of options e.target in
      let w : DueWrite = due_at at.start e in
      stored-near store (asked o at.channel w) c (offered w) _ (time-stored at.start t)
      (option-delay o (option-at options (key e.target) ok)) (omega arith)

  pub run-stored : (b : Budget) (es : List OnNoteValues) → all (ok_event store) (run options at b es).events ≡ true
  unfolding all
  run-stored =
      run-cases options at (λ b es r. all (ok_event store) r.events ≡ true)
      (λ b. refl)
      (λ b e es s ih. ih)
      (λ b e es s f ih. rw (one-stored b e) ih)
      (λ b e es s f. refl)

-- ---- the call
-- it only appends, so that the events that were there are not asked for; a cycle table may be lent with the track to other calls
pub record NoteSound (a : Track) (start : ℤ) (b : Budget) (l : List ℤ) (count : ℕ) : Type 0 where
  pub list : is_list (list_left a start b l count) (noted a start b l count).count ≡ true
  pub events : (store : ℕ) → ok_events store l count ≡ true → ok_events store (list_left a start b l count) (noted a start b l count).count ≡ true
  pub budget : ok_budget (noted a start b l count).budget ≡ true
  pub track : ok_track (noted a start b l count).track ≡ true
  pub lent : (cs : List Cycle) → ok_lent a cs ≡ true → ok_lent (noted a start b l count).track cs ≡ true

module _ (a : Track) (start : ℤ) (b : Budget) (l : List ℤ) (count : ℕ) (e : refusal a start b l count ≡ 0) where
  abbrev numbers : Bool
  numbers = is_time start && ok_track a && ok_budget b

  abbrev now : List Event
  now = list_after (events_of l count) (run_of a start b)

  abbrev full : Bool
  full = ltb (length (rows_of l)) (length now)

  tests : Passed (is_list l count) numbers (cond full 7 0)
  unfolding refusal
  tests = passed (is_list l count) numbers (cond full 7 0) e

  track-well : ok_track a ≡ true
  track-well = right (is_time start) (ok_track a) (left (is_time start && ok_track a) (ok_budget b) tests.numbers)

  time-well : is_time start ≡ true
  time-well = left (is_time start) (ok_track a) (left (is_time start && ok_track a) (ok_budget b) tests.numbers)

  fit : length now ≤ length (rows_of l)
  fit = ltb-false (length (rows_of l)) (length now) (no_seven full tests.rest)

  answered : noted a start b l count ≡ answer 0 (length now) (run_of a start b).budget (with_notes a (notes_put a.notes (kept (run_of a start b))))
  unfolding noted
  answered = rw e

  left_as : list_left a start b l count ≡ flat numbers_of (put_first zero_event count now (rows_of l))
  unfolding list_left
  left_as = rw e

  count-as : (noted a start b l count).count ≡ length now
  count-as = ap (λ (r : Noted). r.count) answered

  new-events : (store : ℕ) → all (ok_event store) (run_of a start b).events ≡ true
  unfolding run_of ok_options
  new-events store =
      run-stored store a.options (record { start = start; channel = a.channel }) (track-options a track-well) time-well (play-channel a (track-play a track-well)) b
      (take a.notes.count a.notes.items)

  events-kept : (store : ℕ) → ok_events store l count ≡ true → ok_events store (list_left a start b l count) (noted a start b l count).count ≡ true
  unfolding ok_events
  events-kept store h =
      ap₂ (λ (x : List ℤ) (n : ℕ). all (ok_event store) (events_of x n)) left_as count-as
      ∙ ap (all (ok_event store)) (left-events l count now)
      ∙ all_append (ok_event store) (events_of l count) (run_of a start b).events h (new-events store)

  budget-well : ok_budget (run_of a start b).budget ≡ true
  unfolding run_of
  budget-well =
      budget-kept a.options (record { start = start; channel = a.channel }) b (take a.notes.count a.notes.items) (right (is_time start && ok_track a) (ok_budget b) tests.numbers)

  pub note-sound : NoteSound a start b l count
  note-sound =
      record {
        list = ap₂ is_list left_as count-as ∙ left-list l count now tests.list fit;
        events = events-kept;
        budget = ap (λ (r : Noted). ok_budget r.budget) answered ∙ budget-well;
        track = ap (λ (r : Noted). ok_track r.track) answered ∙ track-kept a start b track-well;
        lent = λ cs h. ap (λ (r : Noted). ok_lent r.track cs) answered ∙ lent-kept a start b cs h;
      }
