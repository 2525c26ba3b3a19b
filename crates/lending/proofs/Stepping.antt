-- What the tests of a turn say, and what a turn leaves where they hold and where not.
use mathlib.Core.Path.{◌≡◌, ap, ◌∙◌}
use mathlib.Core.Bool.{Bool, true, false, ◌&&◌}
use mathlib.Core.List.{List, []}
use Prim.Native.Nat.{ℕ, ◌+◌, ◌/◌, ◌%◌, ◌≤◌, ◌<◌, min}
use native.Mathlib.Omega.{arith}
use borrow.Author.Tests.{eqb-true, eq-eqb, leb-true, le-leb, ltb-true, lt-ltb}
use lib.Dec.{eqb, leb, ltb}
use lib.IntN.{ℤ}
use lib.ListN.{length}
use lib.Seq.{length-take-le}
use Rattle.laws.specs.Lists.{put_first}
use Rattle.laws.specs.Rows.{flat}
use Rattle.laws.proofs.Ranges.{left, right}
use Rattle.numbers.specs.Limits.{value_bytes}
use Rattle.numbers.specs.Ranges.{is_time}
use Rattle.budget.specs.declared.Budget.{Budget}
use Rattle.budget.specs.Budgets.{room}
use Rattle.events.specs.declared.Event.{Event}
use Rattle.events.specs.Events.{zero_event}
use Rattle.eventlist.specs.Rows.{record_width, numbers_of, rows_of, events_of}
use Rattle.eventlist.specs.Sound.{is_list}
use Rattle.eventlist.proofs.EventRows.{length-rows_of}
use Rattle.eventlist.proofs.Sound.{list-within}
use Rattle.cycles.specs.declared.Ask.{Ask}
use Rattle.cycles.specs.declared.Cycle.{Cycle}
use Rattle.cycles.specs.declared.Ran.{Ran}
use Rattle.cycles.specs.declared.Round.{Round}
use Rattle.cycles.specs.Due.{run}
use Rattle.cycles.specs.Rules.{ok_cycle}
use Rattle.cycles.specs.Turns.{turn_of, ask_for, made, ran_state, ran_of}
use Rattle.cycles.proofs.Count.{length_run}
use Rattle.cycles.proofs.Push.{push_all-count}
use Rattle.lending.specs.declared.Going.{Going}
use Rattle.lending.specs.Writing.{made_by, orderly, may_go, share_of, share_events, after, went_of, went_list}

-- ---- the tests

module _ (round : Round) (c : Cycle) (long : ℕ) (s : Going) where
  abbrev one : Bool
  one = eqb s.code 0

  abbrev two : Bool
  two = one && ltb 0 s.used

  abbrev three : Bool
  three = two && ok_cycle c

  abbrev four : Bool
  four = three && is_time round.until

  abbrev five : Bool
  five = four && eqb (long % record_width) 0

  pub record Orderly : Type 0 where
    pub accepted : s.code ≡ 0
    pub counts : 0 < s.used
    pub well : ok_cycle c ≡ true
    pub timely : is_time round.until ≡ true
    pub whole : long % record_width ≡ 0
    pub within : s.count ≤ long / record_width

  pub in_order_lem : orderly round c long s ≡ true → Orderly
  unfolding orderly
  in_order_lem e =
      let e5 = left five (leb s.count (long / record_width)) e in
      let e4 = left four (eqb (long % record_width) 0) e5 in
      let e3 = left three (is_time round.until) e4 in
      let e2 = left two (ok_cycle c) e3 in
      record {
        accepted = eqb-true s.code 0 (left one (ltb 0 s.used) e2);
        counts = ltb-true 0 s.used (right one (ltb 0 s.used) e2);
        well = right two (ok_cycle c) e3;
        timely = right three (is_time round.until) e4;
        whole = eqb-true (long % record_width) 0 (right four (eqb (long % record_width) 0) e5);
        within = leb-true s.count (long / record_width) (right five (leb s.count (long / record_width)) e);
      }

  abbrev added : ℕ
  added = min (room value_bytes s.budget) (made_by round c s.left)

  pub go : Orderly → s.count + added ≤ long / record_width → may_go round c long s ≡ true
  unfolding may_go orderly
  go o h =
      rw (eq-eqb s.code 0 o.accepted, lt-ltb 0 s.used o.counts, o.well, o.timely, eq-eqb (long % record_width) 0 o.whole, le-leb s.count (long / record_width) o.within, le-leb (s.count + added) (long / record_width) h)

  module _ (e : may_go round c long s ≡ true) where
    pub goes : Orderly
    unfolding may_go
    goes = in_order_lem (left (orderly round c long s) (leb (s.count + added) (long / record_width)) e)

    pub roomy : s.count + added ≤ long / record_width
    unfolding may_go
    roomy = leb-true (s.count + added) (long / record_width) (right (orderly round c long s) (leb (s.count + added) (long / record_width)) e)

-- how many events a record's share leaves
pub share-count : (ask : Ask) (k : ℕ) (c : Cycle) (b : Budget) (es : List Event) → length (ran_state ask k c b es).events ≡ length es + min (room value_bytes b) k
unfolding ran_state
share-count ask k c b es =
    push_all-count (turn_of ask) (run k c) (record { table = []; budget = b; events = es })
    ∙ ap (λ (n : ℕ). length es + min (room value_bytes b) n) (length_run k c)

-- ---- a turn

module _ (round : Round) (c : Cycle) (l : List ℤ) (s : Going) where
  pub list-here : Orderly round c (length l) s → is_list l s.count ≡ true
  unfolding is_list
  list-here o = rw (eq-eqb (length l % record_width) 0 o.whole, le-leb s.count (length l / record_width) o.within)

  pub stands : may_go round c (length l) s ≡ false → (record { cycle = c; going = s } ≡ went_of round c l s) × (l ≡ went_list round c l s)
  unfolding went_of went_list
  stands e = (rw e, rw e)

  module _ (e : may_go round c (length l) s ≡ true) where
    o : Orderly round c (length l) s
    o = goes round c (length l) s e

    pub inside : s.count ≤ length (rows_of l)
    inside = list-within l s.count (list-here o)

    pub fits_in : length (share_events round c l s) ≤ length (rows_of l)
    fits_in =
        let n = share-count (ask_for round c.target) (made_by round c s.left) c s.budget (events_of l s.count) in
        omega (arith, n, length-take-le s.count (rows_of l) inside, roomy round c (length l) s e, length-rows_of l)

    pub steps : went_of round c l s ≡ after s (share_of round c l s)
    unfolding went_of
    steps = rw e

    pub list-after : went_list round c l s ≡ flat numbers_of (put_first zero_event s.count (share_events round c l s) (rows_of l))
    unfolding went_list
    list-after = rw e

    -- as the code has it: what is asked is in hand
    module _ (ask : Ask) (q : ask ≡ ask_for round c.target) where
      pub ready : (ok_cycle c ≡ true) × (is_time ask.until ≡ true) × (s.count ≤ length (rows_of l)) × (length (ran_state ask (made ask s.left c) c s.budget (events_of l s.count)).events ≤ length (rows_of l))
      ready = rw q (o.well, o.timely, inside, fits_in)

-- what the run answers, its target's option asked for
module _ (round : Round) (c : Cycle) (l : List ℤ) (s : Going) (ask : Ask) (q : ask ≡ ask_for round c.target) where
  pub told : (r : Ran) (now : List Event) → r ≡ ran_of ask (made ask s.left c) c s.budget (events_of l s.count)
      → now ≡ put_first zero_event s.count (ran_state ask (made ask s.left c) c s.budget (events_of l s.count)).events (rows_of l)
      → (r ≡ share_of round c l s) × (now ≡ put_first zero_event s.count (share_events round c l s) (rows_of l))
  told r now e g = (rw q at e, rw q at g)
