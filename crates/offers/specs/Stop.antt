-- 01, "On-time curves", as it is said: a call that stops. proofs/Stopping says that it leaves what the closed forms of specs/Pieces and
-- specs/Rules say, in which nothing stops.
use Rattle.std.specs.Prelude.{Bool, true, false, cond, List, [], ◌∷◌, ◌++◌, ℕ, ◌+◌, ◌-◌, ltb}
use Rattle.budget.specs.declared.Budget.{Budget}
use Rattle.budget.specs.Budgets.{fits}
use Rattle.events.specs.declared.Event.{Event}
use Rattle.values.specs.declared.Offer.{Offer}
use Rattle.values.specs.Value.{paid}
use Rattle.offers.specs.declared.Piece.{Piece}
use Rattle.offers.specs.Pieces.{points_of}
use Rattle.offers.specs.Rules.{Rule}

-- "if a triple outlasts the steps left, the flag is set and the call stops": the offers of s steps, and whether that happens
unfoldable pub stop_offers : ℕ → List Piece → ℕ → ℕ → List Offer
stop_offers freq [] s at = []
stop_offers freq (t ∷ ts) s at =
    cond (ltb s t.len) (points_of freq at t s) (points_of freq at t t.len ++ stop_offers freq ts (s - t.len) (at + t.len))

unfoldable pub outlasts : List Piece → ℕ → Bool
outlasts [] s = false
outlasts (t ∷ ts) s = cond (ltb s t.len) true (outlasts ts (s - t.len))

-- "the first write that doesn't fit stops the call and sets the flag": the offers after it are not even tried
unfoldable pub stop_budget : Rule → Budget → List Offer → Budget
stop_budget r b [] = b
stop_budget r b (o ∷ os) = cond (fits r.size b) (stop_budget r (paid r.size r.next b) os) (paid r.size r.next b)

unfoldable pub stop_events : Rule → Budget → List Offer → List Event
stop_events r b [] = []
stop_events r b (o ∷ os) = cond (fits r.size b) (r.events o (r.next b.seed) ++ stop_events r (paid r.size r.next b) os) []
