-- 01, "On-time curves": a whole run over the offers within its steps, of something that lasts `long` steps.
use Rattle.std.specs.Prelude.{false, List, ℕ, ◌+◌, ltb, pos}
use Rattle.budget.specs.declared.Budget.{Budget}
use Rattle.budget.specs.Budgets.{room}
use Rattle.events.specs.declared.Event.{Event}
use Rattle.values.specs.declared.Offer.{Offer}
use Rattle.offers.specs.Rules.{Rule, fresh, written, spent, flagged}

-- "step budget: (maximum - used, at least 0) / 8 + 1", over the bytes reserved at a time
abbrev pub steps_of : Rule → Budget → ℕ
steps_of r b = room r.size b + 1

-- the offers that are not dropped
unfoldable pub offered : Rule → List Offer → List Offer
offered r os = fresh r.all false (pos 0) os

-- the events that a run adds
unfoldable pub new_events : Rule → Budget → List Offer → List Event
new_events r b os = written r (room r.size b) (offered r os) b.seed

-- the budget that it leaves
unfoldable pub budget_after : Rule → Budget → List Offer → ℕ → Budget
budget_after r b os long = flagged (spent r b (offered r os)) (ltb (steps_of r b) long)
