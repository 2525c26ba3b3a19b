-- What a write adds may be stored, and what it leaves of a budget passes its test, whatever was offered.
--     new-stored   the events, where their times are those of events
--     spent-ok     the budget
use mathlib.Core.Path.{◌≡◌}
use mathlib.Core.Bool.{Bool, true, false, cond, ◌&&◌}
use mathlib.Core.List.{List}
use Prim.Native.Nat.{ℕ, ◌≤◌}
use native.Mathlib.Omega.{arith}
use borrow.Author.Tests.{leb-true, le-leb}
use lib.Dec.{leb, ltb}
use lib.ListN.{length}
use Rattle.laws.specs.Lists.{all}
use Rattle.laws.proofs.Ranges.{left, right}
use Rattle.laws.proofs.Tests.{both}
use Rattle.numbers.specs.Limits.{byte_limit}
use Rattle.numbers.specs.Ranges.{is_channel, is_bytes, is_event_time}
use Rattle.budget.specs.declared.Budget.{Budget}
use Rattle.budget.specs.Budgets.{ok_budget, room, step_budget}
use Rattle.events.specs.declared.Event.{Event}
use Rattle.events.specs.Events.{ok_event}
use Rattle.values.specs.declared.Write.{Write}
use Rattle.values.specs.declared.Offer.{Offer}
use Rattle.values.proofs.Stored.{stored}
use Rattle.offers.specs.Rules.{rule_of, spent, flagged}
use Rattle.offers.specs.Runs.{offered, new_events, budget_after}
use Rattle.writing.proofs.Every.{all-given}
use Rattle.writing.proofs.Promises.{new-each, every}

abbrev pub timed : Event → Bool
timed e = is_event_time e.time

pub new-stored : (store : ℕ) (w : Write) (b : Budget) (os : List Offer) → is_channel w.channel ≡ true
    → all timed (new_events (rule_of w) b os) ≡ true → all (ok_event store) (new_events (rule_of w) b os) ≡ true
new-stored store w b os c t =
    all-given (ok_event store) timed (new_events (rule_of w) b os)
    (new-each w (λ (e : Event). timed e ≡ true → ok_event store e ≡ true) (λ (o : Offer). Unit {0}) (λ o y u. stored store w c o y) b os (every os)) t

-- ---- the budget
flag : (t : Bool) (n : ℕ) → n ≤ 1 → cond t 1 n ≤ 1
flag true n h = omega arith
flag false n h = h

-- a flag more
pub flagged-ok : (b : Budget) (t : Bool) → ok_budget b ≡ true → ok_budget (flagged b t) ≡ true
unfolding ok_budget
flagged-ok b t e =
    let m = is_bytes b.maximum && is_bytes b.used in
    both (left m (leb b.over 1) e) (le-leb (cond t 1 b.over) 1 (flag t b.over (leb-true b.over 1 (right m (leb b.over 1) e))))

pub spent-ok : (w : Write) (b : Budget) (os : List Offer) (long : ℕ) → ok_budget b ≡ true → ok_budget (budget_after (rule_of w) b os long) ≡ true
unfolding ok_budget is_bytes budget_after spent rule_of
spent-ok w b os long e =
    let fresh = offered (rule_of w) os in
    let after = spent (rule_of w) b fresh in
    let m = left (is_bytes b.maximum && is_bytes b.used) (leb b.over 1) e in
    let most = leb-true b.maximum byte_limit (left (is_bytes b.maximum) (is_bytes b.used) m) in
    let used = leb-true b.used byte_limit (right (is_bytes b.maximum) (is_bytes b.used) m) in
    let over = leb-true b.over 1 (right (is_bytes b.maximum && is_bytes b.used) (leb b.over 1) e) in
    flagged-ok after (ltb (step_budget b) long)
    (both
    (both (le-leb b.maximum byte_limit most) (le-leb after.used byte_limit (omega arith)))
    (le-leb after.over 1 (flag (ltb (room 8 b) (length fresh)) b.over over)))
