-- 02, k), of the call. The Rust's two loops with their count of 10,000 for each record, collected and then pushed, answer what
-- `write_cc_on_cycle` answers and leave what it leaves of the table, the budget, its seed and every number of the list, wherever it is
-- accepted (`request-k`); and it is accepted, or refused with the number that it has, by what the Rust would leave (`same_number`).
-- The turns k of a record's loop are any number from 10,000 on: they end nothing.
use mathlib.Core.Path.{◌≡◌, refl, sym, ap, ◌∙◌}
use mathlib.Core.Bool.{Bool, true, false, ◌&&◌}
use mathlib.Core.List.{List, ◌++◌}
use Prim.Native.Nat.{ℕ, ◌≤◌}
use lib.Dec.{eqb, ltb}
use lib.IntN.{ℤ}
use lib.ListN.{length, drop}
use Rattle.laws.specs.Lists.{put_first}
use Rattle.laws.specs.Rows.{flat}
use Rattle.numbers.specs.Limits.{places, cycle_writes}
use Rattle.numbers.specs.Ranges.{is_time}
use Rattle.budget.specs.declared.Budget.{Budget}
use Rattle.budget.specs.Budgets.{ok_budget}
use Rattle.events.specs.declared.Event.{Event}
use Rattle.events.specs.Events.{zero_event}
use Rattle.eventlist.specs.Rows.{numbers_of, rows_of, events_of}
use Rattle.eventlist.specs.Sound.{is_list}
use Rattle.cycles.specs.declared.Cycle.{Cycle}
use Rattle.cycles.specs.Calls.{State}
use Rattle.cycles.specs.Turns.{called_state}
use Rattle.cycles.proofs.Rules.{fine}
use Rattle.cycles.proofs.Loop.{rust-call}
use Rattle.state.specs.declared.Track.{Track}
use Rattle.state.specs.Tests.{ok_lent}
use Rattle.cycling.specs.Calls.{used_of, left_by, in_order, cycle_refusal, cycled_of, cycled_list}
use Rattle.cycling.specs.Series.{turn_on}
use Rattle.cycling.specs.Loop.{rust_left, rust_answer, rust_list, rust_number}
use Rattle.cycling.proofs.Refusing.{is-lent, numbered, allowed, answer, list_left_lem}
use Rattle.cycling.proofs.Keeping.{lent-rules}

module _ (k : ℕ) (turns : cycle_writes ≤ k) (a : Track) (cs : List Cycle) (until : ℤ) (b : Budget) (l : List ℤ) (count : ℕ) where
  -- a table that passes the tests
  left-same : ok_lent a cs ≡ true → left_by a cs until b (events_of l count) ≡ rust_left k a cs until b l count
  unfolding called_state
  left-same ok =
      sym (rust-call (turn_on a) k until (record { table = used_of a cs; budget = b; events = events_of l count }) turns (fine (used_of a cs) (lent-rules a cs ok)))

  module _ (size : ℕ) where
    same-refusal : cycle_refusal a size cs until b l count ≡ rust_number k a cs until b l count size
    unfolding cycle_refusal
    same-refusal = go (is_time until && ok_lent a cs && ok_budget b) refl
      where
        go : (t : Bool) → (is_time until && ok_lent a cs && ok_budget b) ≡ t
            → in_order (is_list l count && eqb size places) t (ltb (length (rows_of l)) (length (left_by a cs until b (events_of l count)).events))
            ≡ in_order (is_list l count && eqb size places) t (ltb (length (rows_of l)) (length (rust_left k a cs until b l count).events))
        go false e = refl
        go true e =
            ap (λ (s : State Event). in_order (is_list l count && eqb size places) true (ltb (length (rows_of l)) (length s.events)))
            (left-same (is-lent a cs until b e))

    pub same_number : (cycled_of a size cs until b l count).code ≡ rust_number k a cs until b l count size
    same_number = numbered a size cs until b l count ∙ same-refusal

    module _ (e : (cycled_of a size cs until b l count).code ≡ 0) where
      accepted : cycle_refusal a size cs until b l count ≡ 0
      accepted = sym (numbered a size cs until b l count) ∙ e

      same : left_by a cs until b (events_of l count) ≡ rust_left k a cs until b l count
      same = left-same (is-lent a cs until b (allowed a size cs until b l count accepted))

      pub request-k : (cycled_of a size cs until b l count ≡ rust_answer k a cs until b l count)
          × (cycled_list a size cs until b l count ≡ rust_list k a cs until b l count)
      request-k = (
        answer a size cs until b l count accepted
            ∙ ap (λ (s : State Event). record { code = 0; count = length s.events; budget = s.budget; cycles = s.table ++ drop a.cycles cs }) same,
        list_left_lem a size cs until b l count accepted
            ∙ ap (λ (s : State Event). flat numbers_of (put_first zero_event count s.events (rows_of l))) same,
      )
