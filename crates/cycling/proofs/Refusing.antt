-- The number of a cycle call: by division it is the same as by the list that would be left (`quick`), and what 0 tells.
use mathlib.Core.Path.{◌≡◌, refl, ap, ◌∙◌}
use mathlib.Core.Bool.{Bool, true, false, cond, ◌&&◌}
use mathlib.Core.List.{List, ◌++◌}
use Prim.Native.Nat.{ℕ, zero, suc, ◌+◌, ◌/◌, ◌≤◌}
use native.Mathlib.Omega.{arith}
use borrow.Author.Tests.{ne_eqb, eqb-true, ltb-false}
use lib.Dec.{eqb, ltb}
use lib.IntN.{ℤ}
use lib.ListN.{length, drop}
use lib.Seq.{length-take-le}
use Rattle.laws.specs.Lists.{put_first}
use Rattle.laws.specs.Rows.{flat}
use Rattle.laws.proofs.Ranges.{left, right}
use Rattle.numbers.specs.Limits.{places}
use Rattle.numbers.specs.Ranges.{is_time}
use Rattle.budget.specs.declared.Budget.{Budget}
use Rattle.budget.specs.Budgets.{ok_budget}
use Rattle.events.specs.declared.Event.{Event}
use Rattle.events.specs.Events.{zero_event}
use Rattle.eventlist.specs.Rows.{record_width, numbers_of, rows_of, events_of}
use Rattle.eventlist.specs.Sound.{is_list}
use Rattle.eventlist.proofs.EventRows.{length-rows_of}
use Rattle.eventlist.proofs.Sound.{list-within, Passed, passed, no_seven}
use Rattle.cycles.specs.declared.Cycle.{Cycle}
use Rattle.cycles.specs.Turns.{turn, option_of, called_state}
use Rattle.cycles.proofs.Push.{call-count}
use Rattle.state.specs.declared.Track.{Track}
use Rattle.state.specs.Tests.{ok_lent}
use Rattle.cycling.specs.declared.Cycled.{Cycled}
use Rattle.cycling.specs.Calls.{used_of, left_by, in_order, gains_of, cycle_refusal, quick_refusal, cycled_of, cycled_list}

-- ---- the first of its three tests
pub passed-1 : (p q r : Bool) → in_order p q r ≡ 0 → p ≡ true
passed-1 p q r e = (passed p q (cond r 7 0) e).list

-- the tests behind 4
module _ (a : Track) (cs : List Cycle) (until : ℤ) (b : Budget) (e : (is_time until && ok_lent a cs && ok_budget b) ≡ true) where
  pub is-time : is_time until ≡ true
  is-time = left (is_time until) (ok_lent a cs) (left (is_time until && ok_lent a cs) (ok_budget b) e)

  pub is-lent : ok_lent a cs ≡ true
  is-lent = right (is_time until) (ok_lent a cs) (left (is_time until && ok_lent a cs) (ok_budget b) e)

  pub is-budget : ok_budget b ≡ true
  is-budget = right (is_time until && ok_lent a cs) (ok_budget b) e

-- ---- the number

module _ (a : Track) (size : ℕ) (cs : List Cycle) (until : ℤ) (b : Budget) (l : List ℤ) (count : ℕ) where
  abbrev events : List Event
  events = (left_by a cs until b (events_of l count)).events

  pub left-length : is_list l count ≡ true → length events ≡ count + gains_of a cs until b
  unfolding called_state
  left-length e =
      call-count (turn (option_of a.options) a.channel) until (record { table = used_of a cs; budget = b; events = events_of l count })
      ∙ ap (λ (n : ℕ). n + gains_of a cs until b) (length-take-le count (rows_of l) (list-within l count e))

  -- 7 by division
  pub quick : cycle_refusal a size cs until b l count ≡ quick_refusal a size cs until b (length l) count
  unfolding cycle_refusal quick_refusal is_list
  quick = go (is_list l count) refl
    where
      go : (t : Bool) → is_list l count ≡ t → in_order (t && eqb size places) (is_time until && ok_lent a cs && ok_budget b) (ltb (length (rows_of l)) (length events))
          ≡ in_order (t && eqb size places) (is_time until && ok_lent a cs && ok_budget b) (ltb (length l / record_width) (count + gains_of a cs until b))
      go false e = refl
      go true e = rw (length-rows_of l, left-length e)

  -- in the answer
  pub numbered : (cycled_of a size cs until b l count).code ≡ cycle_refusal a size cs until b l count
  unfolding cycled_of
  numbered = go (cycle_refusal a size cs until b l count) _ _ refl refl
    where
      go : (n : ℕ) (x y : Cycled) → x.code ≡ 0 → y.code ≡ n → (cond (eqb n 0) x y).code ≡ n
      go zero x y p q = p
      go (suc n) x y p q = rw (ne_eqb (suc n) 0 (λ e. omega (arith, e))) q

  -- refused, all is as it was
  pub refused : (cycle_refusal a size cs until b l count ≡ 0 → ⊥)
      → (record { code = cycle_refusal a size cs until b l count; count = count; budget = b; cycles = cs } ≡ cycled_of a size cs until b l count)
      × (l ≡ cycled_list a size cs until b l count)
  unfolding cycled_of cycled_list
  refused h = let n = ne_eqb (cycle_refusal a size cs until b l count) 0 h in (rw n, rw n)

  module _ (e : cycle_refusal a size cs until b l count ≡ 0) where
    abbrev full : Bool
    full = ltb (length (rows_of l)) (length events)

    tests : Passed (is_list l count && eqb size places) (is_time until && ok_lent a cs && ok_budget b) (cond full 7 0)
    unfolding cycle_refusal
    tests = passed (is_list l count && eqb size places) (is_time until && ok_lent a cs && ok_budget b) (cond full 7 0) e

    pub listed : is_list l count ≡ true
    listed = left (is_list l count) (eqb size places) tests.list

    pub sixteen : size ≡ places
    sixteen = eqb-true size places (right (is_list l count) (eqb size places) tests.list)

    pub allowed : (is_time until && ok_lent a cs && ok_budget b) ≡ true
    allowed = tests.numbers

    pub roomy : length events ≤ length (rows_of l)
    roomy = ltb-false (length (rows_of l)) (length events) (no_seven full tests.rest)

    pub answer : cycled_of a size cs until b l count
        ≡ record { code = 0; count = length events; budget = (left_by a cs until b (events_of l count)).budget; cycles = (left_by a cs until b (events_of l count)).table ++ drop a.cycles cs }
    unfolding cycled_of
    answer = rw e

    pub list_left_lem : cycled_list a size cs until b l count ≡ flat numbers_of (put_first zero_event count events (rows_of l))
    unfolding cycled_list
    list_left_lem = rw e
