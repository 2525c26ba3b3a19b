-- 01, "Cycles": the cycle call over a track and the lent cycle table; `size` is how many records were lent.
use Rattle.std.specs.Prelude.{Bool, cond, ◌&&◌, List, ◌++◌, ℕ, ◌+◌, ◌/◌, ◌%◌, min, eqb, leb, ltb, ℤ, length, take, drop}
use Rattle.laws.specs.Lists.{put_first}
use Rattle.laws.specs.Rows.{flat}
use Rattle.numbers.specs.Limits.{places, value_bytes, cycle_writes}
use Rattle.numbers.specs.Ranges.{is_time}
use Rattle.budget.specs.declared.Budget.{Budget}
use Rattle.budget.specs.Budgets.{ok_budget, room}
use Rattle.events.specs.declared.Event.{Event}
use Rattle.events.specs.Events.{zero_event}
use Rattle.eventlist.specs.Rows.{record_width, numbers_of, rows_of, events_of}
use Rattle.eventlist.specs.Sound.{is_list}
use Rattle.cycles.specs.declared.Cycle.{Cycle}
use Rattle.cycles.specs.declared.Round.{Round}
use Rattle.cycles.specs.Due.{owed}
use Rattle.cycles.specs.Calls.{State}
use Rattle.cycles.specs.Turns.{called_state}
use Rattle.state.specs.declared.Track.{Track}
use Rattle.state.specs.Tests.{ok_lent}
use Rattle.cycling.specs.declared.Cycled.{Cycled}

-- of the lent records those that the track counts
abbrev pub used_of : Track → List Cycle → List Cycle
used_of a cs = take a.cycles cs

abbrev pub round_of : Track → ℤ → Round
round_of a until = record { until = until; channel = a.channel; options = a.options }

-- what the call makes of the used records, the budget and the events
abbrev pub left_by : Track → List Cycle → ℤ → Budget → List Event → State Event
left_by a cs until b es = called_state (round_of a until) (used_of a cs) b es

-- 1, 4, 7, from what their tests say
abbrev pub in_order : Bool → Bool → Bool → ℕ
in_order listed allowed full = cond listed (cond allowed (cond full 7 0) 4) 1

-- 1: "event list not a whole number of records, its count above it, or a cycle table not of sixteen"; 4: "a number in
-- arguments, track, budget, tables", and a call that only appends uses no event; 7: "the list that the Rust would leave holds
-- more events than the buffer"
unfoldable pub cycle_refusal : Track → ℕ → List Cycle → ℤ → Budget → List ℤ → ℕ → ℕ
cycle_refusal a size cs until b l count =
    in_order (is_list l count && eqb size places) (is_time until && ok_lent a cs && ok_budget b)
    (ltb (length (rows_of l)) (length (left_by a cs until b (events_of l count)).events))

-- the same by division, from the list's length alone: of the writes owed as many are added as one call makes and as fit
abbrev pub gains_of : Track → List Cycle → ℤ → Budget → ℕ
gains_of a cs until b = min (room value_bytes b) (min cycle_writes (owed until (used_of a cs)))

unfoldable pub quick_refusal : Track → ℕ → List Cycle → ℤ → Budget → ℕ → ℕ → ℕ
quick_refusal a size cs until b long count =
    in_order (eqb (long % record_width) 0 && leb count (long / record_width) && eqb size places)
    (is_time until && ok_lent a cs && ok_budget b)
    (ltb (long / record_width) (count + gains_of a cs until b))

-- the answer; the records that the track does not count stay
unfoldable pub cycled_of : Track → ℕ → List Cycle → ℤ → Budget → List ℤ → ℕ → Cycled
cycled_of a size cs until b l count =
    let n = cycle_refusal a size cs until b l count in
    let s = left_by a cs until b (events_of l count) in
    cond (eqb n 0)
    (record { code = 0; count = length s.events; budget = s.budget; cycles = s.table ++ drop a.cycles cs })
    (record { code = n; count = count; budget = b; cycles = cs })

-- every number of the list afterwards
unfoldable pub cycled_list : Track → ℕ → List Cycle → ℤ → Budget → List ℤ → ℕ → List ℤ
cycled_list a size cs until b l count =
    cond (eqb (cycle_refusal a size cs until b l count) 0)
    (flat numbers_of (put_first zero_event count (left_by a cs until b (events_of l count)).events (rows_of l))) l
