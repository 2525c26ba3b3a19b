-- A run in one pass, as the code goes: a walk takes one offer at a time. proofs/Closed says that it comes to the closed form.
use Rattle.std.specs.Prelude.{◌≡◌, ◌≤◌, Bool, cond, is_some, unwrap_or, Some, pos, List, [], ◌∷◌, ◌++◌, ℕ, ◌+◌, length, take, drop}
use Rattle.budget.specs.Budgets.{fits}
use Rattle.events.specs.declared.Event.{Event}
use Rattle.values.specs.declared.Offer.{Offer}
use Rattle.values.specs.Value.{paid}
use Rattle.offers.specs.declared.Walk.{Walk}
use Rattle.offers.specs.Rules.{Rule, same}

abbrev pub dropped : Rule → Walk → Offer → Bool
dropped r k o = same r.all (is_some k.last) (unwrap_or k.last (pos 0)) o.value

-- the walk after one offer, and what that writes
unfoldable pub advance : Rule → Walk → Offer → Walk
advance r k o = cond (dropped r k o) k (record { last = Some o.value; budget = paid r.size r.next k.budget })

unfoldable pub emit : Rule → Walk → Offer → List Event
emit r k o = cond (dropped r k o) [] (cond (fits r.size k.budget) (r.events o (r.next k.budget.seed)) [])

-- the walk after a list of offers, and what that writes
unfoldable pub walked : Rule → Walk → List Offer → Walk
walked r k [] = k
walked r k (o ∷ os) = walked r (advance r k o) os

unfoldable pub emitted : Rule → Walk → List Offer → List Event
emitted r k [] = []
emitted r k (o ∷ os) = emit r k o ++ emitted r (advance r k o) os

-- es put behind the first n records of a list
unfoldable pub append : List Event → ℕ → List Event → List Event
append R n es = take n R ++ (es ++ drop (n + length es) R)

-- what a run over the offers os leaves, behind the first n records of a list: the list where it has room for all
abbrev pub Wrote : Rule → Walk → ℕ → List Event → List Offer → Walk → ℕ → List Event → Type 0
Wrote r k n R os k' n' R' =
    (k' ≡ walked r k os) × (n' ≡ n + length (emitted r k os)) × (n + length (emitted r k os) ≤ length R → R' ≡ append R n (emitted r k os))
