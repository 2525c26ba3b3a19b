-- What an accepted call leaves passes the tests of the next: the list, the budget, and the table with its track. So a series that
-- begins well can only be refused for a time out of range or for room.
use mathlib.Core.Path.{◌≡◌, ap, ap₂, ◌∙◌}
use mathlib.Core.Bool.{true, ◌&&◌}
use mathlib.Core.List.{List, [], ◌∷◌, ◌++◌}
use Prim.Native.Nat.{◌≤◌}
use lib.Dec.{leb}
use lib.IntN.{ℤ}
use lib.ListN.{length}
use Rattle.laws.specs.Keys.{distinct}
use Rattle.laws.specs.Lists.{all, counted}
use Rattle.laws.proofs.Ranges.{left}
use Rattle.numbers.specs.Limits.{places, value_bytes}
use Rattle.numbers.specs.Ranges.{is_time}
use Rattle.budget.specs.Budgets.{ok_budget}
use Rattle.budget.proofs.Spending.{keeps-ok}
use Rattle.events.specs.declared.Event.{Event}
use Rattle.eventlist.specs.Rows.{rows_of}
use Rattle.eventlist.specs.Sound.{is_list}
use Rattle.eventlist.proofs.Sound.{left-long, left-list}
use Rattle.cycles.specs.declared.Cycle.{Cycle}
use Rattle.cycles.specs.Due.{DueWrite, leaves}
use Rattle.cycles.specs.Rules.{ok_cycle, keys_of, ok_table}
use Rattle.cycles.specs.Calls.{State, Turn, seeded, limit, wrote, push_all, share, moved, call}
use Rattle.cycles.proofs.Keeping.{keys-leaves, table_kept}
use Rattle.cycles.proofs.Push.{call-one-pass}
use Rattle.tables.specs.Sixteen.{ok_sixteen}
use Rattle.tables.specs.Tables.{note_keys, wave_keys, sine_keys, ok_cycles, lone}
use Rattle.tables.proofs.Keeping.{cycle-rules}
use Rattle.state.specs.declared.Track.{Track}
use Rattle.state.specs.Track.{cycles_of}
use Rattle.state.specs.Tests.{ok_lent}
use Rattle.state.proofs.Lent.{lent-lone, lent-track, lent-cycles}
use Rattle.cycling.specs.Calls.{used_of}
use Rattle.cycling.specs.Series.{Lent, answer_to, left_to, seen, turn_on}
use Rattle.cycling.proofs.Refusing.{is-time, is-lent, is-budget, listed, allowed, roomy, list_left_lem}
use Rattle.cycling.proofs.Calling as C

-- ---- the budget

module _ {E : Type 0} (f : Turn E) where
  all-spent : (ws : List DueWrite) (s : State E) → ok_budget s.budget ≡ true → ok_budget (push_all f ws s).budget ≡ true
  unfolding push_all wrote ok_budget
  all-spent [] s e = e
  all-spent (w ∷ ws) s e = all-spent ws (wrote f w s) (keeps-ok value_bytes (seeded s.budget (f w s.budget.seed).1) e)

  pub budget-kept : (u : ℤ) (s : State E) → ok_budget s.budget ≡ true → ok_budget (call f u s).budget ≡ true
  unfolding moved
  budget-kept u s e = ap (λ (x : State E). ok_budget x.budget) (call-one-pass f u s) ∙ all-spent (share u s) (moved u s) e

-- ---- the table

-- the used records of one that is lent in order are in order
pub lent-rules : (a : Track) (cs : List Cycle) → ok_lent a cs ≡ true → ok_table (used_of a cs) ≡ true
lent-rules a cs e = cycle-rules a.notes a.waves a.sines (cycles_of a cs) (lent-lone a cs e) (lent-cycles a cs e)

-- a table whose used records have the keys that they had, each well
pub lent-kept : (a : Track) (cs cs' : List Cycle) → ok_lent a cs ≡ true → keys_of (used_of a cs') ≡ keys_of (used_of a cs) → all ok_cycle (used_of a cs') ≡ true → ok_lent a cs' ≡ true
unfolding ok_lent ok_sixteen counted lone
lent-kept a cs cs' e k o =
    let few : leb a.cycles places ≡ true = left (leb a.cycles places) (all ok_cycle (used_of a cs)) (unfold ok_sixteen counted in lent-cycles a cs e) in
    let once : distinct (note_keys a.notes ++ wave_keys a.waves ++ sine_keys a.sines ++ keys_of (used_of a cs)) ≡ true = unfold lone in lent-lone a cs e in
    rw (lent-track a cs e, few, o, k) once

-- ---- the call

pub record Well (a : Track) (s : Lent) : Type 0 where
  pub list : is_list s.list s.count ≡ true
  pub lent : ok_lent a s.cycles ≡ true
  pub budget : ok_budget s.budget ≡ true

module _ (a : Track) (u : ℤ) (s : Lent) (e : (answer_to a u s).code ≡ 0) where
  tests : (is_time u && ok_lent a s.cycles && ok_budget s.budget) ≡ true
  tests = allowed a places s.cycles u s.budget s.list s.count (C.accepted a u s e)

  pub was-well : Well a s
  was-well =
      record {
        list = listed a places s.cycles u s.budget s.list s.count (C.accepted a u s e);
        lent = is-lent a s.cycles u s.budget tests;
        budget = is-budget a s.cycles u s.budget tests;
      }

  pub rules : ok_table (used_of a s.cycles) ≡ true
  rules = lent-rules a s.cycles was-well.lent

  used-after : used_of a (left_to a u s).cycles ≡ leaves (limit s.budget) u (used_of a s.cycles)
  used-after = C.used-next a u s e ∙ C.left-table a u s e

  lent-next : ok_lent a (left_to a u s).cycles ≡ true
  unfolding ok_table
  lent-next =
      let tab = leaves (limit s.budget) u (used_of a s.cycles) in
      let ok = table_kept (limit s.budget) u (used_of a s.cycles) rules (is-time a s.cycles u s.budget tests) in
      lent-kept a s.cycles (left_to a u s).cycles was-well.lent
      (ap keys_of used-after ∙ keys-leaves (limit s.budget) u (used_of a s.cycles))
      (ap (all ok_cycle) used-after ∙ left (all ok_cycle tab) (distinct (keys_of tab)) (unfold ok_table in ok))

  room : length (C.left a u s e).events ≤ length (rows_of s.list)
  room = roomy a places s.cycles u s.budget s.list s.count (C.accepted a u s e)

  -- how many numbers there are does not change
  pub list-long : length (left_to a u s).list ≡ length s.list
  list-long =
      ap length (list_left_lem a places s.cycles u s.budget s.list s.count (C.accepted a u s e))
      ∙ left-long s.list s.count (C.left a u s e).events was-well.list room

  list-next : is_list (left_to a u s).list (left_to a u s).count ≡ true
  list-next =
      ap₂ is_list (list_left_lem a places s.cycles u s.budget s.list s.count (C.accepted a u s e)) (C.count_next a u s e)
      ∙ left-list s.list s.count (C.left a u s e).events was-well.list room

  pub well-next : Well a (left_to a u s)
  well-next =
      record {
        list = list-next;
        lent = lent-next;
        budget = ap (λ (x : State Event). ok_budget x.budget) (C.seen_next a u s e) ∙ budget-kept (turn_on a) u (seen a s) was-well.budget;
      }
