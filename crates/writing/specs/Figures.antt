-- A figure: a wave or a sine that is to be written. What it leaves of the budget, and what it adds to the list, apart from its window.
use Rattle.std.specs.Prelude.{◌≡◌, List, ℕ, ◌+◌, length}
use Rattle.budget.specs.declared.Budget.{Budget}
use Rattle.budget.specs.Budgets.{step_budget}
use Rattle.events.specs.declared.Event.{Event}
use Rattle.values.specs.declared.Write.{Write}
use Rattle.offers.specs.declared.Piece.{Piece}
use Rattle.offers.specs.Rules.{rule_of}
use Rattle.offers.specs.Runs.{budget_after}
use Rattle.offers.specs.Pieces.{offers, total}
use Rattle.writing.specs.declared.Figure.{Figure}
use Rattle.writing.specs.declared.Outcome.{Outcome}
use Rattle.writing.specs.Origins.{pieces_of, Asked}

-- the budget that a write of pieces leaves
abbrev pub budget_for : Write → Budget → List Piece → Budget
budget_for w b ts = budget_after (rule_of w) b (offers w.freq ts (step_budget b) 0) (total ts)

-- an answer after more events, behind the first `count`
abbrev pub added_to : ℕ → List Event → Budget → Outcome
added_to count es b = record { code = 0; count = count + length es; budget = b }

-- a figure over the triples of its list that is in order
pub record Shaped (f : Figure) (ts : List Piece) : Type 0 where
  pub asked : Asked ts f.origin
  pub long : f.long ≡ total (pieces_of ts f.origin)
