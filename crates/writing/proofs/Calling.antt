-- A whole write: what the counting run tells, the refusal, and the list that is left.
--     new_is, after_is    what the runs come to is the closed form
--     used-is             bytes: 8 for each event that is added
--     lone-keeps, keeps-few   what is left by the window of a write, alone in a list of windows
--     lacks-is, few-new   the refusal, of what the window keeps; and when it needs no counting
--     rows_end, count-end, budget-end   what is left after the window was taken out and the events were appended
use mathlib.Core.Path.{◌≡◌, refl, sym, ap, ap₂, ◌∙◌}
use mathlib.Core.Bool.{Bool, true, false}
use mathlib.Core.List.{List, [], ◌∷◌, ◌++◌, append_assoc}
use Prim.Native.Nat.{ℕ, zero, suc, ◌+◌, ◌-◌, ◌*◌, ◌≤◌, ◌<◌, min, max}
use native.Mathlib.Nat.{mul-suc, mul-zero}
use native.Mathlib.Omega.{arith}
use borrow.Author.Tests.{lt-ltb, le-ltb, ltb-true, ltb-false}
use lib.Dec.{ltb}
use lib.IntN.{ℤ, pos}
use Rattle.std.specs.Prelude.{None}
use lib.ListN.{length, take, drop, replicate, length-append}
use lib.Seq.{length-take-le, take-append_seam}
use Rattle.laws.specs.Lists.{without, put_first}
use Rattle.laws.proofs.Compact.{length_without, put-again}
use Rattle.numbers.specs.Limits.{value_bytes}
use Rattle.budget.specs.declared.Budget.{Budget}
use Rattle.budget.specs.Budgets.{room, step_budget}
use Rattle.events.specs.declared.Event.{Event}
use Rattle.eventlist.specs.declared.Window.{Window}
use Rattle.eventlist.specs.Rows.{rows_of, events_of}
use Rattle.eventlist.specs.Windows.{taken_by, taken_by_any}
use Rattle.eventlist.specs.Clearing.{kept_by_all}
use Rattle.eventlist.proofs.Clearing.{windows-one}
use Rattle.values.specs.declared.Write.{Write}
use Rattle.values.specs.declared.Offer.{Offer}
use Rattle.offers.specs.declared.Walk.{Walk}
use Rattle.offers.specs.Rules.{Rule, rule_of, joined, become, spent, flagged}
use Rattle.offers.specs.Runs.{offered, new_events, budget_after}
use Rattle.offers.specs.Walks.{walked, emitted, append}
use Rattle.offers.specs.declared.Piece.{Piece}
use Rattle.offers.specs.Pieces.{offers, total}
use Rattle.offers.proofs.Closed.{closed}
use Rattle.offers.proofs.Stopping.{few, few-long, fresh-le}
use Rattle.writing.specs.Calls.{window_of, kept_events, lacks_room, new_events_for}

-- where each offer becomes `per` events
pub length-joined : (r : Rule) (per : ℕ) → ((o : Offer) (y : ℕ) → length (r.events o y) ≡ per) → (n : ℕ) (os : List Offer) (y : ℕ)
    → length (joined (take n (become r os y))) ≡ per * min n (length os)
unfolding become
length-joined r per h zero os y = let m : min 0 (length os) ≡ 0 = omega arith in rw (m, mul-zero)
length-joined r per h (suc n) [] y = let m : min (suc n) 0 ≡ 0 = omega arith in rw (m, mul-zero)
length-joined r per h (suc n) (o ∷ os) y =
    let es = r.events o (r.next y) in
    let rest = joined (take n (become r os (r.next y))) in
    let m : min (suc n) (suc (length os)) ≡ suc (min n (length os)) = omega arith in
    let ih = length-joined r per h n os (r.next y) in
    let e = h o (r.next y) in
    length-append es rest ∙ rw (m, mul-suc) (omega arith)

-- behind a list that was put first
pub append-put : (z : Event) (n : ℕ) (rs more all : List Event) → append (put_first z n rs all) (length rs) more ≡ put_first z n (rs ++ more) all
unfolding append
append-put z n rs more all =
    let l = length-append rs more in
    let a : length rs - length (rs ++ more) ≡ 0 = omega arith in
    let b : max (length rs) (length (rs ++ more)) ≡ length rs + length more = omega arith in
    let x = put_first z n rs all in
    ap (λ (y : List Event). y ++ (more ++ drop (length rs + length more) x)) (take-append_seam rs (replicate (n - length rs) z ++ drop (max n (length rs)) all))
    ∙ sym (append_assoc rs more (drop (length rs + length more) x))
    ∙ sym (ap₂ (λ (i j : ℕ). (rs ++ more) ++ (replicate i z ++ drop j x)) a b)
    ∙ put-again z n rs more all

module _ (w : Write) (long : ℕ) (l : List ℤ) (count : ℕ) where
  pub lone-keeps : {ws : List Window} → ws ≡ window_of w long ∷ [] → kept_by_all ws l count ≡ kept_events w long (events_of l count)
  unfolding kept_events
  lone-keeps e = ap (λ (ws : List Window). without (taken_by_any ws) (events_of l count)) e ∙ windows-one (window_of w long) (events_of l count)

  pub keeps-few : count ≤ length (rows_of l) → length (kept_events w long (events_of l count)) ≤ count
  unfolding kept_events
  keeps-few fit = omega (arith, length-take-le count (rows_of l) fit, length_without (taken_by (window_of w long)) (events_of l count))

module _ (w : Write) (b : Budget) (os : List Offer) where
  abbrev pub from : Walk
  from = record { last = None; budget = b }

  some : 0 < (rule_of w).size
  unfolding rule_of
  some = omega arith

  pub new_is : emitted (rule_of w) from os ≡ new_events (rule_of w) b os
  unfolding new_events offered
  new_is = (closed (rule_of w) some from os).events

  pub after_is : (walked (rule_of w) from os).budget ≡ spent (rule_of w) b (offered (rule_of w) os)
  unfolding offered
  after_is = (closed (rule_of w) some from os).budget

  pub length-new : length (new_events (rule_of w) b os) ≡ min (room value_bytes b) (length (offered (rule_of w) os))
  unfolding new_events rule_of
  length-new =
      let e = length-joined (rule_of w) 1 (λ o y. refl) (room value_bytes b) (offered (rule_of w) os) b.seed in
      omega arith

  pub used-is : (walked (rule_of w) from os).budget.used ≡ b.used + 8 * length (new_events (rule_of w) b os)
  unfolding spent rule_of
  used-is = ap (λ (x : Budget). x.used) after_is ∙ ap (λ (n : ℕ). b.used + 8 * n) (sym length-new)

  module _ (long : ℕ) where
    pub budget-is : flagged (walked (rule_of w) from os).budget (ltb (step_budget b) long) ≡ budget_after (rule_of w) b os long
    unfolding budget_after rule_of
    budget-is = ap (λ (x : Budget). flagged x (ltb (step_budget b) long)) after_is

    -- the refusal, of what the window keeps
    pub lacks-is : (R : List Event) (count kept : ℕ) → kept ≡ length (kept_events w long (take count R)) → kept ≤ length R
        → ltb (length R - kept) (length (new_events (rule_of w) b os)) ≡ lacks_room w b os long R count
    lacks-is R count kept k fit = go (ltb (length R - kept) (length news)) refl
      where
        keeps : List Event
        keeps = kept_events w long (take count R)

        news : List Event
        news = new_events (rule_of w) b os

        go : (t : Bool) → ltb (length R - kept) (length news) ≡ t → t ≡ ltb (length R) (length (keeps ++ news))
        go true e = let h = ltb-true (length R - kept) (length news) e in sym (lt-ltb (length R) (length (keeps ++ news)) (omega (arith, length-append keeps news)))
        go false e = let h = ltb-false (length R - kept) (length news) e in sym (le-ltb (length R) (length (keeps ++ news)) (omega (arith, length-append keeps news)))

-- each step adds one event at most
pub few-new : (w : Write) (b : Budget) (ts : List Piece) → length (new_events_for w b ts) ≤ min (total ts) (step_budget b)
unfolding offered
few-new w b ts =
    let os = offers w.freq ts (step_budget b) 0 in
    omega (arith, length-new w b os, fresh-le (rule_of w).all false (pos 0) os, few w.freq ts (step_budget b) 0, few-long w.freq ts (step_budget b) 0)

-- what a run over the steps of the budget appends
pub appends : (w : Write) (b : Budget) (ts : List Piece) (n : ℕ) → n ≡ step_budget b
    → emitted (rule_of w) (from w b (offers w.freq ts (step_budget b) 0)) (offers w.freq ts n 0) ≡ new_events_for w b ts
appends w b ts n e =
    let all = offers w.freq ts (step_budget b) 0 in
    ap (λ (m : ℕ). emitted (rule_of w) (from w b all) (offers w.freq ts m 0)) e ∙ new_is w b all

-- taken out, then appended
pub rows_end : {x l es : List Event} {n : ℕ} (z : Event) (count : ℕ) (keeps news R : List Event) → x ≡ append l n es → n ≡ length keeps → l ≡ put_first z count keeps R → es ≡ news → x ≡ put_first z count (keeps ++ news) R
rows_end {n} z count keeps news R p q r s =
    p ∙ ap (append _ n) s ∙ ap (λ (l : List Event). append l n news) r ∙ ap (λ (m : ℕ). append (put_first z count keeps R) m news) q
    ∙ append-put z count keeps news R

pub count-end : {es : List Event} {m n : ℕ} (keeps news : List Event) → m ≡ n + length es → n ≡ length keeps → es ≡ news → m ≡ length (keeps ++ news)
count-end keeps news p q r = let e = ap length r in omega (arith, length-append keeps news)

pub budget-end : {x : Budget} {k : Walk} {limit long : ℕ} (w : Write) (b : Budget) (os : List Offer) (far : ℕ)
    → x ≡ flagged k.budget (ltb limit long) → k ≡ walked (rule_of w) (from w b os) os → limit ≡ step_budget b → long ≡ far → x ≡ budget_after (rule_of w) b os far
budget-end {k} {limit} {long} w b os far p q r s =
    p ∙ ap (λ (m : Walk). flagged m.budget (ltb limit long)) q ∙ ap₂ (λ (m n : ℕ). flagged (walked (rule_of w) (from w b os) os).budget (ltb m n)) r s ∙ budget-is w b os far
