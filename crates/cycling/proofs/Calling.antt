-- One call of a series: where it is accepted, the cycle rules' `call` is what is left of the used records, the budget and the
-- events (`seen_next`); where it is refused, all that was lent is left (`unmoved`).
use mathlib.Core.Path.{◌≡◌, sym, ap, ap₂, ◌∙◌}
use mathlib.Core.List.{List, ◌++◌, append-nil}
use Prim.Native.Nat.{ℕ, ◌≤◌}
use native.Mathlib.Omega.{arith}
use native.Mathlib.Decide.{dec_le}
use lib.IntN.{ℤ}
use lib.ListN.{length, take, drop, length-take, drop_of_length-le}
use lib.Seq.{take_at, take_all, take-append_seam}
use Rattle.laws.specs.Lists.{put_first}
use Rattle.numbers.specs.Limits.{places}
use Rattle.events.specs.declared.Event.{Event}
use Rattle.events.specs.Events.{zero_event}
use Rattle.eventlist.specs.Rows.{rows_of, events_of}
use Rattle.eventlist.proofs.EventRows.{rows_of-flat}
use Rattle.cycles.specs.declared.Cycle.{Cycle}
use Rattle.cycles.specs.Due.{leaves}
use Rattle.cycles.specs.Calls.{State, limit, call}
use Rattle.cycles.specs.Turns.{called_state}
use Rattle.cycles.proofs.Keeping.{length-leaves}
use Rattle.cycles.proofs.Placing.{whole}
use Rattle.state.specs.declared.Track.{Track}
use Rattle.cycling.specs.declared.Cycled.{Cycled}
use Rattle.cycling.specs.Calls.{used_of, round_of, left_by, cycle_refusal}
use Rattle.cycling.specs.Series.{Lent, answer_to, left_to, seen, turn_on}
use Rattle.cycling.proofs.Refusing.{numbered, answer, list_left_lem, refused}

-- ---- the first n of a list changed, as many as there were

module _ (n : ℕ) (cs x : List Cycle) (e : length x ≡ length (take n cs)) where
  pub front : take n (x ++ drop n cs) ≡ x
  front = go (dec_le n (length cs))
    where
      go : Dec (n ≤ length cs) → take n (x ++ drop n cs) ≡ x
      go (yes h) = take_at x (drop n cs) n (omega (arith, length-take n cs))
      go (no h) = rw (drop_of_length-le cs {i = n} (omega arith), append-nil) (take_all n x (omega (arith, length-take n cs)))

-- ---- the number in the answer

pub code_is : (a : Track) (u : ℤ) (s : Lent) → (answer_to a u s).code ≡ cycle_refusal a places s.cycles u s.budget s.list s.count
code_is a u s = numbered a places s.cycles u s.budget s.list s.count

module _ (a : Track) (u : ℤ) (s : Lent) where
  pub unmoved : ((answer_to a u s).code ≡ 0 → ⊥) → left_to a u s ≡ s
  unmoved h =
      let r = refused a places s.cycles u s.budget s.list s.count (λ z. h (code_is a u s ∙ z)) in
      ap₂ (λ (c : Cycled) (l : List ℤ). record { cycles = c.cycles; budget = c.budget; list = l; count = c.count }) (sym r.0) (sym r.1)

  module _ (e : (answer_to a u s).code ≡ 0) where
    pub accepted : cycle_refusal a places s.cycles u s.budget s.list s.count ≡ 0
    accepted = sym (code_is a u s) ∙ e

    abbrev pub left : State Event
    left = left_by a s.cycles u s.budget (events_of s.list s.count)

    -- the used records are advanced, by the rules
    pub left-table : left.table ≡ leaves (limit s.budget) u (used_of a s.cycles)
    left-table = ap (λ (x : State Event). x.table) (whole (round_of a u) a.cycles s.cycles s.budget (rows_of s.list) s.count)

    pub left-long : length left.table ≡ length (used_of a s.cycles)
    left-long = ap length left-table ∙ length-leaves (limit s.budget) u (used_of a s.cycles)

    pub cycles-next : (left_to a u s).cycles ≡ left.table ++ drop a.cycles s.cycles
    cycles-next = ap (λ (c : Cycled). c.cycles) (answer a places s.cycles u s.budget s.list s.count accepted)

    pub budget-next : (left_to a u s).budget ≡ left.budget
    budget-next = ap (λ (c : Cycled). c.budget) (answer a places s.cycles u s.budget s.list s.count accepted)

    pub count_next : (left_to a u s).count ≡ length left.events
    count_next = ap (λ (c : Cycled). c.count) (answer a places s.cycles u s.budget s.list s.count accepted)

    pub rows_next : rows_of (left_to a u s).list ≡ put_first zero_event s.count left.events (rows_of s.list)
    rows_next =
        ap rows_of (list_left_lem a places s.cycles u s.budget s.list s.count accepted)
        ∙ rows_of-flat (put_first zero_event s.count left.events (rows_of s.list))

    pub used-next : used_of a (left_to a u s).cycles ≡ left.table
    used-next = ap (take a.cycles) cycles-next ∙ front a.cycles s.cycles left.table left-long

    events-next : events_of (left_to a u s).list (left_to a u s).count ≡ left.events
    events-next = ap₂ take count_next rows_next ∙ take-append_seam left.events _

    pub seen_next : seen a (left_to a u s) ≡ call (turn_on a) u (seen a s)
    unfolding called_state
    seen_next = rw (used-next, budget-next, events-next)
