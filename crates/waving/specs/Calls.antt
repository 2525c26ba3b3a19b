-- 01, "Waves": "Waves, then sines, stop once the flag is set." What a call leaves of the list and of the budget, and its answer.
-- Only the list that is left is asked for room: between two writes it may be longer than the buffer.
use Rattle.std.specs.Prelude.{cond, ◌&&◌, List, [], ◌∷◌, ℕ, eqb, ltb, ℤ, ◌-ℤ◌, length, take}
use Rattle.laws.specs.Integers.{cut}
use Rattle.laws.specs.Lists.{put_first}
use Rattle.laws.specs.Rows.{flat}
use Rattle.numbers.specs.Ranges.{is_time}
use Rattle.budget.specs.declared.Budget.{Budget}
use Rattle.budget.specs.Budgets.{step_budget, ok_budget}
use Rattle.events.specs.declared.Event.{Event}
use Rattle.events.specs.Events.{zero_event}
use Rattle.eventlist.specs.Rows.{numbers_of, rows_of, events_of}
use Rattle.eventlist.specs.Sound.{is_list, ok_events}
use Rattle.offers.specs.Rules.{flagged}
use Rattle.offers.specs.Pieces.{offers, total}
use Rattle.writing.specs.declared.Outcome.{Outcome}
use Rattle.writing.specs.Calls.{left_by}
use Rattle.writing.specs.Figures.{budget_for}
use Rattle.state.specs.declared.Track.{Track}
use Rattle.state.specs.Track.{with_timepos}
use Rattle.state.specs.Tests.{ok_track}
use Rattle.waving.specs.Drawings.{Drawing, drawings_of}

-- what a call has come to
pub record Stand : Type 0 where
  pub budget : Budget
  pub events : List Event

-- "if cut, the flag is set"
unfoldable pub leaves : Drawing → Budget → Budget
leaves d b = flagged (budget_for d.write b (d.pieces b)) (d.cut b)

-- one is written as a curve is: its window is taken out, its events are put behind what is left
abbrev pub drawn : Drawing → Stand → Stand
drawn d s =
    record {
      budget = leaves d s.budget;
      events = left_by d.write s.budget (offers d.write.freq (d.pieces s.budget) (step_budget s.budget) 0) (total (d.pieces s.budget)) s.events;
    }

-- "stop once the flag is set", also where it is set at entry
unfoldable pub drawn_all : List Drawing → Stand → Stand
drawn_all [] s = s
drawn_all (d ∷ ds) s = cond (eqb s.budget.over 0) (drawn_all ds (drawn d s)) s

-- the note's steps: from its start to the track's time, none where that is before it
abbrev pub note_steps : Track → ℤ → ℕ
note_steps a start = cut (a.timepos -ℤ start)

-- the events es after the waves and sines of a note that begins at `start`
abbrev pub after_note : Track → ℤ → Budget → List Event → Stand
after_note a start b es = drawn_all (drawings_of (with_timepos a start) (note_steps a start)) (record { budget = b; events = es })

-- ---- over a buffer R, the first `count` of which are events
abbrev pub answer_of : ℕ → ℕ → Budget → Stand → Outcome
answer_of n count b s = cond (eqb n 0) (record { code = 0; count = length s.events; budget = s.budget }) (record { code = n; count = count; budget = b })

abbrev pub rows_left : ℕ → ℕ → Stand → List Event → List Event
rows_left n count s R = cond (eqb n 0) (put_first zero_event count s.events R) R

-- 7: "the list that the Rust would leave holds more events than the buffer"
abbrev pub room_refusal : Stand → List Event → ℕ
room_refusal s R = cond (ltb (length R) (length s.events)) 7 0

-- all drawings
abbrev pub wrote_all : List Drawing → Budget → List Event → ℕ → Outcome
wrote_all ds b R count =
    answer_of (room_refusal (drawn_all ds (record { budget = b; events = take count R })) R) count b (drawn_all ds (record { budget = b; events = take count R }))

abbrev pub rows_all : List Drawing → Budget → List Event → ℕ → List Event
rows_all ds b R count =
    rows_left (room_refusal (drawn_all ds (record { budget = b; events = take count R })) R) count (drawn_all ds (record { budget = b; events = take count R })) R

-- ---- the call
-- 1, 4, 7
unfoldable pub note_refusal : ℕ → Track → ℤ → Budget → List ℤ → ℕ → ℕ
note_refusal store a start b l count =
    cond (is_list l count)
    (cond (is_time start && ok_track a && ok_budget b && ok_events store l count) (room_refusal (after_note a start b (events_of l count)) (rows_of l)) 4)
    1

abbrev pub note_written : ℕ → Track → ℤ → Budget → List ℤ → ℕ → Outcome
note_written store a start b l count = answer_of (note_refusal store a start b l count) count b (after_note a start b (events_of l count))

-- every number of the list afterwards
abbrev pub note_left : ℕ → Track → ℤ → Budget → List ℤ → ℕ → List ℤ
note_left store a start b l count =
    cond (eqb (note_refusal store a start b l count) 0) (flat numbers_of (put_first zero_event count (after_note a start b (events_of l count)).events (rows_of l))) l
