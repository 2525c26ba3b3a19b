-- 02, k): what the Rust's call, its count of 10,000 for each record with it, leaves of a track's table, of the budget and of the list where it
-- is made, and by what number it is refused. A record's loop has `k` turns at most.
use Rattle.std.specs.Prelude.{◌&&◌, List, ◌++◌, ℕ, eqb, ltb, ℤ, length, drop}
use Rattle.laws.specs.Lists.{put_first}
use Rattle.laws.specs.Rows.{flat}
use Rattle.numbers.specs.Limits.{places}
use Rattle.numbers.specs.Ranges.{is_time}
use Rattle.budget.specs.declared.Budget.{Budget}
use Rattle.budget.specs.Budgets.{ok_budget}
use Rattle.events.specs.declared.Event.{Event}
use Rattle.events.specs.Events.{zero_event}
use Rattle.eventlist.specs.Rows.{numbers_of, rows_of, events_of}
use Rattle.eventlist.specs.Sound.{is_list}
use Rattle.cycles.specs.declared.Cycle.{Cycle}
use Rattle.cycles.specs.Calls.{State}
use Rattle.cycles.specs.Loop.{rust_call}
use Rattle.state.specs.declared.Track.{Track}
use Rattle.state.specs.Tests.{ok_lent}
use Rattle.cycling.specs.declared.Cycled.{Cycled}
use Rattle.cycling.specs.Calls.{used_of, in_order}
use Rattle.cycling.specs.Series.{turn_on}

module _ (k : ℕ) (a : Track) (cs : List Cycle) (until : ℤ) (b : Budget) (l : List ℤ) (count : ℕ) where
  -- of the used records, the budget and the events below the count
  abbrev pub rust_left : State Event
  rust_left = rust_call (turn_on a) k until (record { table = used_of a cs; budget = b; events = events_of l count })

  -- the answer; the records that the track does not count stay
  abbrev pub rust_answer : Cycled
  rust_answer =
      record { code = 0; count = length rust_left.events; budget = rust_left.budget; cycles = rust_left.table ++ drop a.cycles cs }

  -- every number of the list afterwards
  abbrev pub rust_list : List ℤ
  rust_list = flat numbers_of (put_first zero_event count rust_left.events (rows_of l))

  -- 1, 4, and 7 where the list that the Rust leaves "holds more events than the buffer"; `size` records were lent
  abbrev pub rust_number : ℕ → ℕ
  rust_number size =
      in_order (is_list l count && eqb size places) (is_time until && ok_lent a cs && ok_budget b) (ltb (length (rows_of l)) (length rust_left.events))
