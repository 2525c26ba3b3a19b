-- Sound in, sound out: what an accepted `write_cc_on_cycle` leaves passes the tests of the next call. A due write stands at a time
-- that may be stored, never past `until`; its delay takes it no further than an event may stand.
--     run-stored, share-stored   the times of due writes
--     call-all                   what holds of each write's event holds of each event of the list
--     CycleSound, cycle-sound    the call
use mathlib.Core.Path.{◌≡◌, refl, sym, ap, ◌∙◌, subst}
use mathlib.Core.Bool.{Bool, true, false, cond, ◌&&◌}
use mathlib.Core.List.{List, [], ◌∷◌, ◌++◌}
use Prim.Native.Nat.{ℕ, zero, suc, ◌-◌, ◌≤◌, min}
use native.Mathlib.Omega.{arith}
use lib.Dec.{ltb}
use lib.IntN.{ℤ, pos}
use lib.Signed.{le_z}
use Rattle.laws.specs.Lists.{all}
use Rattle.laws.proofs.Ranges.{left, right}
use Rattle.laws.proofs.Parts.{all_append}
use Rattle.numbers.specs.Limits.{places, value_bytes}
use Rattle.numbers.specs.Ranges.{is_target, is_time, is_stored_time, is_length}
use Rattle.budget.specs.declared.Budget.{Budget}
use Rattle.budget.specs.Budgets.{ok_budget, fits}
use Rattle.counted.specs.Numbers.{ok_numbers}
use Rattle.events.specs.declared.Event.{Event}
use Rattle.events.specs.Events.{ok_event}
use Rattle.eventlist.specs.Sound.{is_list, ok_events}
use Rattle.values.proofs.Options.{option-at, option-delay}
use Rattle.values.proofs.Stored.{stored-near}
use Rattle.cycles.specs.declared.Cycle.{Cycle}
use Rattle.cycles.specs.Due.{DueWrite, write_of, advanced, run, due_count, takes, key}
use Rattle.cycles.specs.Rules.{ok_cycle, keys_of, ok_table}
use Rattle.cycles.specs.Calls.{State, Turn, limit, wrote, push_all, share, moved, call}
use Rattle.cycles.specs.Turns.{asked, offered, option_of, turn}
use Rattle.cycles.proofs.Count.{count-advanced}
use Rattle.cycles.proofs.Rules.{sound}
use Rattle.cycles.proofs.Fitting.{kept}
use Rattle.cycles.proofs.Keeping.{is-due}
use Rattle.cycles.proofs.Push.{call-one-pass}
use Rattle.laws.specs.Keys.{distinct}
use Rattle.state.specs.declared.Track.{Track}
use Rattle.state.specs.Tests.{ok_options, ok_lent}
use Rattle.state.proofs.Parts.{track-play, track-options}
use Rattle.state.proofs.Play.{play-channel}
use Rattle.state.proofs.Lent.{lent-track}
use Rattle.cycling.specs.Calls.{used_of, cycle_refusal, cycled_of, cycled_list}
use Rattle.cycling.specs.Series.{Lent, answer_to, left_to, seen, turn_on}
use Rattle.cycling.proofs.Refusing.{is-time, sixteen, allowed}
use Rattle.cycling.proofs.Calling as C
use Rattle.cycling.proofs.Keeping.{was-well, rules, well-next}

-- ---- the times of due writes
abbrev storable : DueWrite → Bool
storable w = is_stored_time w.time

next-stored : (c : Cycle) → ok_cycle c ≡ true → is_stored_time c.next ≡ true
unfolding ok_cycle
next-stored c e =
    let front = is_target c.target && le_z (pos 1) c.length && is_length c.length in
    right front (is_stored_time c.next)
    (left (front && is_stored_time c.next) (ok_numbers c.values)
    (left (front && is_stored_time c.next && ok_numbers c.values) (ltb c.index c.values.count) e))

module _ (u : ℤ) (b : is_time u ≡ true) where
  run-stored : (k : ℕ) (c : Cycle) → ok_cycle c ≡ true → k ≤ due_count u c → all storable (run k c) ≡ true
  unfolding all run write_of
  run-stored zero c e h = refl
  run-stored (suc k) c e h =
      rw (next-stored c e)
      (run-stored k (advanced c) (kept c u e b (is-due u c (omega arith))) (omega (arith, count-advanced u c (sound c e).forward)))

  takes-stored : (m : ℕ) (tab : List Cycle) → all ok_cycle tab ≡ true → all storable (takes m u tab) ≡ true
  unfolding all takes
  takes-stored m [] e = refl
  takes-stored m (c ∷ cs) e =
      all_append storable (run (min m (due_count u c)) c) (takes (m - due_count u c) u cs)
      (run-stored (min m (due_count u c)) c (left (ok_cycle c) (all ok_cycle cs) e) (omega arith))
      (takes-stored (m - due_count u c) cs (right (ok_cycle c) (all ok_cycle cs) e))

-- ---- what holds of each write's event
module _ {E : Type 0} (f : Turn E) (p : E → Bool) (q : DueWrite → Bool) (h : (w : DueWrite) (y : ℕ) → q w ≡ true → p (f w y).0 ≡ true) where
  wrote-all : (w : DueWrite) (s : State E) → q w ≡ true → all p s.events ≡ true → all p (wrote f w s).events ≡ true
  unfolding wrote all
  wrote-all w s e a = go (fits value_bytes s.budget)
    where
      x : E
      x = (f w s.budget.seed).0

      go : (t : Bool) → all p (cond t (s.events ++ (x ∷ [])) s.events) ≡ true
      go true = all_append p s.events (x ∷ []) a (rw (h w s.budget.seed e))
      go false = a

  push-all : (ws : List DueWrite) (s : State E) → all q ws ≡ true → all p s.events ≡ true → all p (push_all f ws s).events ≡ true
  unfolding push_all all
  push-all [] s e a = a
  push-all (w ∷ ws) s e a = push-all ws (wrote f w s) (right (q w) (all q ws) e) (wrote-all w s (left (q w) (all q ws) e) a)

  pub call-all : (u : ℤ) (s : State E) → all q (share u s) ≡ true → all p s.events ≡ true → all p (call f u s).events ≡ true
  unfolding moved
  call-all u s e a = ap (λ (x : State E). all p x.events) (call-one-pass f u s) ∙ push-all (share u s) (moved u s) e a

-- ---- a track's due write
module _ (store : ℕ) (a : Track) (cs : List Cycle) (ok : ok_lent a cs ≡ true) where
  turned : (w : DueWrite) (y : ℕ) → storable w ≡ true → ok_event store (turn_on a w y).0 ≡ true
  unfolding turn ok_options
  turned w y t =
      let track = lent-track a cs ok in
      let o = option_of a.options w.target in
      stored-near store (asked o a.channel w) (play-channel a (track-play a track)) (offered w) _ t
      (option-delay o (option-at a.options (key w.target) (track-options a track))) (omega arith)

-- ---- the call, as one of a series
module _ (a : Track) (u : ℤ) (s : Lent) (e : (answer_to a u s).code ≡ 0) where
  share-stored : all storable (share u (seen a s)) ≡ true
  unfolding share
  share-stored =
      let tab = used_of a s.cycles in
      takes-stored u (is-time a s.cycles u s.budget (allowed a places s.cycles u s.budget s.list s.count (C.accepted a u s e))) (limit s.budget) tab
      (left (all ok_cycle tab) (distinct (keys_of tab)) (unfold ok_table in rules a u s e))

  pub events-next : (store : ℕ) → ok_events store s.list s.count ≡ true → ok_events store (left_to a u s).list (left_to a u s).count ≡ true
  unfolding ok_events
  events-next store h =
      ap (λ (x : State Event). all (ok_event store) x.events) (C.seen_next a u s e)
      ∙ call-all (turn_on a) (ok_event store) storable (turned store a s.cycles (was-well a u s e).lent) u (seen a s) share-stored h

-- ---- the call
-- it only appends, so that the events that were there are not asked for
pub record CycleSound (a : Track) (size : ℕ) (cs : List Cycle) (until : ℤ) (b : Budget) (l : List ℤ) (count : ℕ) : Type 0 where
  pub list : is_list (cycled_list a size cs until b l count) (cycled_of a size cs until b l count).count ≡ true
  pub events : (store : ℕ) → ok_events store l count ≡ true → ok_events store (cycled_list a size cs until b l count) (cycled_of a size cs until b l count).count ≡ true
  pub budget : ok_budget (cycled_of a size cs until b l count).budget ≡ true
  pub lent : ok_lent a (cycled_of a size cs until b l count).cycles ≡ true

module _ (a : Track) (cs : List Cycle) (until : ℤ) (b : Budget) (l : List ℤ) (count : ℕ) where
  of-sixteen : cycle_refusal a places cs until b l count ≡ 0 → CycleSound a places cs until b l count
  of-sixteen e =
      let s : Lent = record { cycles = cs; budget = b; list = l; count = count } in
      let z : (answer_to a until s).code ≡ 0 = C.code_is a until s ∙ e in
      let w = well-next a until s z in
      record { list = w.list; events = events-next a until s z; budget = w.budget; lent = w.lent }

  pub cycle-sound : (size : ℕ) → cycle_refusal a size cs until b l count ≡ 0 → CycleSound a size cs until b l count
  cycle-sound size e =
      let n = sixteen a size cs until b l count e in
      subst (λ (m : ℕ). CycleSound a m cs until b l count) (sym n) (of-sixteen (subst (λ (m : ℕ). cycle_refusal a m cs until b l count ≡ 0) n e))
