-- A whole write: what it leaves of the list and of the budget, and its answer, as functions of the offers within its steps and of
-- how long it lasts.
use Rattle.std.specs.Prelude.{Bool, cond, List, ◌++◌, ℕ, ltb, ℤ, pos, ◌+ℤ◌, length, take}
use Rattle.laws.specs.Lists.{without, put_first}
use Rattle.budget.specs.declared.Budget.{Budget}
use Rattle.budget.specs.Budgets.{step_budget}
use Rattle.events.specs.declared.Event.{Event}
use Rattle.events.specs.Events.{zero_event}
use Rattle.eventlist.specs.declared.Window.{Window}
use Rattle.eventlist.specs.Rows.{rows_of}
use Rattle.eventlist.specs.Sound.{ok_events}
use Rattle.eventlist.specs.Windows.{taken_by}
use Rattle.values.specs.declared.Write.{Write}
use Rattle.values.specs.declared.Offer.{Offer}
use Rattle.values.specs.Value.{kind_of, start_of}
use Rattle.offers.specs.declared.Piece.{Piece}
use Rattle.offers.specs.Rules.{rule_of}
use Rattle.offers.specs.Runs.{new_events, budget_after}
use Rattle.offers.specs.Pieces.{offers, total}
use Rattle.writing.specs.declared.Outcome.{Outcome}

-- "events of this type (and controller number, for controllers) with time in [timepos+delay, that + total)"
unfoldable pub window_of : Write → ℕ → Window
window_of w long = record { kind = kind_of w.target; number = w.target; start = start_of w; end = start_of w +ℤ pos long }

unfoldable pub kept_events : Write → ℕ → List Event → List Event
kept_events w long es = without (taken_by (window_of w long)) es

module _ (w : Write) (b : Budget) (os : List Offer) (long : ℕ) where
  -- the list that is left of the events es
  abbrev pub left_by : List Event → List Event
  left_by es = kept_events w long es ++ new_events (rule_of w) b os

  -- 7: "the list that the Rust would leave holds more events than the buffer"
  abbrev pub lacks_room : List Event → ℕ → Bool
  lacks_room R count = ltb (length R) (length (left_by (take count R)))

  -- of the whole buffer R, the first `count` of which are events
  unfoldable pub outcome_of : List Event → ℕ → Outcome
  outcome_of R count =
      cond (lacks_room R count) (record { code = 7; count = count; budget = b })
      (record { code = 0; count = length (left_by (take count R)); budget = budget_after (rule_of w) b os long })

  unfoldable pub rows_after : List Event → ℕ → List Event
  rows_after R count = cond (lacks_room R count) R (put_first zero_event count (left_by (take count R)) R)

-- ---- of pieces: their offers within the step budget, and their length
abbrev pub new_events_for : Write → Budget → List Piece → List Event
new_events_for w b ts = new_events (rule_of w) b (offers w.freq ts (step_budget b) 0)

abbrev pub lacks_room_for : Write → Budget → List Piece → List Event → ℕ → Bool
lacks_room_for w b ts R count = lacks_room w b (offers w.freq ts (step_budget b) 0) (total ts) R count

abbrev pub outcome_for : Write → Budget → List Piece → List Event → ℕ → Outcome
outcome_for w b ts R count = outcome_of w b (offers w.freq ts (step_budget b) 0) (total ts) R count

abbrev pub rows_for : Write → Budget → List Piece → List Event → ℕ → List Event
rows_for w b ts R count = rows_after w b (offers w.freq ts (step_budget b) 0) (total ts) R count

-- ---- into a list l whose events are tested first, beside a store of so many bytes: 4 is given for a number in "used events against the
-- ranges and rules above", and changes nothing
module _ (store : ℕ) (w : Write) (b : Budget) (ts : List Piece) (l : List ℤ) (count : ℕ) where
  unfoldable pub outcome_tested : Outcome
  outcome_tested = cond (ok_events store l count) (outcome_for w b ts (rows_of l) count) (record { code = 4; count = count; budget = b })

  unfoldable pub rows_tested : List Event
  rows_tested = cond (ok_events store l count) (rows_for w b ts (rows_of l) count) (rows_of l)
