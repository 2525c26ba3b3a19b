-- 01, "one call makes at most min(free/8 + 1, 10,000) writes, in table order, one record's due writes before the next record's", as a
-- walk over the records where they lie.
use Rattle.std.specs.Prelude.{Bool, cond, ◌&&◌, List, ℕ, ◌+◌, ◌-◌, ◌/◌, ◌%◌, min, eqb, leb, ltb, ℤ, length}
use Rattle.laws.specs.Lists.{put_first}
use Rattle.laws.specs.Rows.{flat}
use Rattle.numbers.specs.Limits.{value_bytes}
use Rattle.numbers.specs.Ranges.{is_time}
use Rattle.budget.specs.declared.Budget.{Budget}
use Rattle.budget.specs.Budgets.{room}
use Rattle.events.specs.declared.Event.{Event}
use Rattle.events.specs.Events.{zero_event}
use Rattle.eventlist.specs.Rows.{record_width, numbers_of, rows_of, events_of}
use Rattle.cycles.specs.declared.Cycle.{Cycle}
use Rattle.cycles.specs.declared.Ran.{Ran}
use Rattle.cycles.specs.declared.Round.{Round}
use Rattle.cycles.specs.Rules.{ok_cycle}
use Rattle.cycles.specs.Calls.{limit}
use Rattle.cycles.specs.Turns.{ask_for, made, ran_state, ran_of}
use Rattle.state.specs.declared.Track.{Track}
use Rattle.cycling.specs.declared.Cycled.{Cycled}
use Rattle.cycling.specs.Calls.{quick_refusal}
use Rattle.lending.specs.declared.Answer.{Answer}
use Rattle.lending.specs.declared.Going.{Going}
use Rattle.lending.specs.declared.Went.{Went}

-- how many writes a record makes of those that are left
abbrev pub made_by : Round → Cycle → ℕ → ℕ
made_by round c left = made (ask_for round c.target) left c

-- the call was not refused and the track counts the record; record, time and list are in order
unfoldable pub orderly : Round → Cycle → ℕ → Going → Bool
orderly round c long s =
    eqb s.code 0 && ltb 0 s.used && ok_cycle c && is_time round.until && eqb (long % record_width) 0 && leb s.count (long / record_width)

-- and there is room for what it adds
unfoldable pub may_go : Round → Cycle → ℕ → Going → Bool
may_go round c long s =
    orderly round c long s && leb (s.count + min (room value_bytes s.budget) (made_by round c s.left)) (long / record_width)

-- what the record's share of the call leaves of it, of the budget and of the count, and of the events
abbrev pub share_of : Round → Cycle → List ℤ → Going → Ran
share_of round c l s = ran_of (ask_for round c.target) (made_by round c s.left) c s.budget (events_of l s.count)

abbrev pub share_events : Round → Cycle → List ℤ → Going → List Event
share_events round c l s = (ran_state (ask_for round c.target) (made_by round c s.left) c s.budget (events_of l s.count)).events

abbrev pub after : Going → Ran → Went
after s x =
    record {
      cycle = x.cycle;
      going = record { code = 0; used = s.used - 1; left = s.left - x.made; budget = x.budget; count = x.count };
    }

unfoldable pub went_of : Round → Cycle → List ℤ → Going → Went
went_of round c l s =
    cond (may_go round c (length l) s) (after s (share_of round c l s)) (record { cycle = c; going = s })

unfoldable pub went_list : Round → Cycle → List ℤ → Going → List ℤ
went_list round c l s =
    cond (may_go round c (length l) s) (flat numbers_of (put_first zero_event s.count (share_events round c l s) (rows_of l))) l

-- ---- the walk: its state, and every number of the list
pub record Pass : Type 0 where
  pub state : Going
  pub events : List ℤ

abbrev pub pass_of : Going → List ℤ → Pass
pass_of s l = record { state = s; events = l }

abbrev pub onward : Round → Pass → Cycle → Pass
onward round p c = pass_of (went_of round c p.events p.state).going (went_list round c p.events p.state)

abbrev pub advanced_by : Round → Pass → Cycle → Cycle
advanced_by round p c = (went_of round c p.events p.state).cycle

-- ---- the call
unfoldable pub begun_with : Track → ℕ → List Cycle → ℤ → Budget → ℕ → ℕ → Going
begun_with a size cs until b long count =
    record { code = quick_refusal a size cs until b long count; used = a.cycles; left = limit b; budget = b; count = count }

-- what the lent call answers of it
abbrev pub answer_of : Cycled → Answer
answer_of c = record { code = c.code; count = c.count }
