-- One record's writes, taken one after the other: after k of them the record is `after k`, and budget and list are what k
-- writes leave (`Running`). A write that fits puts one event behind the list (`put`), one that does not changes no event
-- (`skip`); both advance the record.
use mathlib.Core.Path.{◌≡◌, refl, sym, ap, ◌∙◌}
use mathlib.Core.Bool.{Bool, true, false, cond, true≢false}
use mathlib.Core.Logic.{⊎_elim}
use mathlib.Core.List.{List, [], ◌∷◌, ◌++◌}
use Prim.Native.Nat.{ℕ, ◌+◌, ◌-◌, ◌≤◌, ◌<◌, max}
use native.Mathlib.Omega.{arith}
use lib.Dec.{T}
use lib.Signed.{le_z, lt_z}
use lib.ListN.{length, take, length-append, take-append-drop}
use lib.Seq.{length-take-le}
use Rattle.std.specs.Prelude.{Option, Some, None, is_some, unwrap_or}
use Rattle.laws.specs.Lists.{put_first}
use Rattle.laws.proofs.Bools.{which}
use Rattle.laws.proofs.Compact.{put_one}
use Rattle.laws.proofs.Firsts.{length-put_first}
use Rattle.numbers.specs.Limits.{value_bytes}
use Rattle.numbers.specs.Ranges.{is_time}
use Rattle.budget.specs.declared.Budget.{Budget}
use Rattle.budget.specs.Budgets.{fits}
use Rattle.events.specs.declared.Event.{Event}
use Rattle.events.specs.Events.{zero_event}
use Rattle.values.specs.Value.{wrote_of}
use Rattle.cycles.specs.declared.Cycle.{Cycle}
use Rattle.cycles.specs.declared.Ask.{Ask}
use Rattle.cycles.specs.Due.{DueWrite, write_of, advanced, run, after, due_count}
use Rattle.cycles.specs.Rules.{ok_cycle}
use Rattle.cycles.specs.Calls.{State, Turn, wrote, push_all}
use Rattle.cycles.specs.Turns.{turn, turn_of, step_of, made, ran_state, ran_of}
use Rattle.cycles.proofs.Count.{count-advanced, test-yes, test-no, after_more, run-add}
use Rattle.cycles.proofs.Rules.{sound}
use Rattle.cycles.proofs.Fitting.{late, early, kept}
use Rattle.cycles.proofs.Push.{push_all-append}

-- ---- an event that stands only where it fits
from_some : (t : Bool) (x e : Event) → cond t (Some x) None ≡ Some e → (t ≡ true) × (x ≡ e)
from_some true x e q = (refl, ap (λ (o : Option Event). unwrap_or o x) q)
from_some false x e q = absurd (true≢false (sym (ap (λ (o : Option Event). is_some o) q)))

from-none : (t : Bool) (x : Event) → cond t (Some x) None ≡ None → t ≡ false
from-none true x q = absurd (true≢false (ap (λ (o : Option Event). is_some o) q))
from-none false x q = refl

-- ---- events only come in behind

module _ {E : Type 0} (f : Turn E) where
  wrote-grows : (w : DueWrite) (s : State E) → length s.events ≤ length (wrote f w s).events
  unfolding wrote
  wrote-grows w s = go (fits value_bytes s.budget)
    where
      e : E
      e = (f w s.budget.seed).0

      go : (b : Bool) → length s.events ≤ length (cond b (s.events ++ (e ∷ [])) s.events)
      go true = rw length-append (omega arith)
      go false = omega arith

  pub push_all-grows : (ws : List DueWrite) (s : State E) → length s.events ≤ length (push_all f ws s).events
  unfolding push_all
  push_all-grows [] s = omega arith
  push_all-grows (w ∷ ws) s = omega (arith, wrote-grows w s, push_all-grows ws (wrote f w s))

module _ (ask : Ask) (c : Cycle) (b : Budget) (rs : List Event) (count : ℕ) where
  abbrev pub sofar : ℕ → State Event
  sofar k = ran_state ask k c b (take count rs)

  one_more : (k : ℕ) → sofar (k + 1) ≡ wrote (turn_of ask) (write_of (after k c)) (sofar k)
  unfolding ran_state push_all run
  one_more k =
      let s : State Event = record { table = []; budget = b; events = take count rs } in
      ap (λ (ws : List DueWrite). push_all (turn_of ask) ws s) (run-add k 1 c)
      ∙ push_all-append (turn_of ask) (run k c) (write_of (after k c) ∷ []) s

  pub grows : (j k : ℕ) → j ≤ k → length (sofar j).events ≤ length (sofar k).events
  unfolding ran_state
  grows j k h =
      let s : State Event = record { table = []; budget = b; events = take count rs } in
      let e : k ≡ j + (k - j) = omega arith in
      rw (e, run-add j (k - j) c, push_all-append (turn_of ask) (run j c) (run (k - j) (after j c)) s)
      (push_all-grows (turn_of ask) (run (k - j) (after j c)) (push_all (turn_of ask) (run j c) s))

  -- k writes are made, at most `most`: the record, the budget, the list and its count as they stand then
  pub record Running (most : ℕ) (cycle : Cycle) (budget : Budget) (now : List Event) (n k : ℕ) : Type 0 where
    pub ok : ok_cycle cycle ≡ true
    pub here : cycle ≡ after k c
    pub owes : k + due_count ask.until cycle ≡ due_count ask.until c
    pub upto : k ≤ most
    pub spent : budget ≡ (sofar k).budget
    pub counted : n ≡ length (sofar k).events
    pub rows : now ≡ put_first zero_event count (sofar k).events rs

  pub begun : (most : ℕ) → ok_cycle c ≡ true → count ≤ length rs → Running most c b rs count 0
  unfolding ran_state push_all run after
  begun most e h =
      let t = length-take-le count rs h in
      let m : max count (length (take count rs)) ≡ count = omega arith in
      let z : count - length (take count rs) ≡ 0 = omega arith in
      record {
        ok = e;
        here = refl;
        owes = omega arith;
        upto = omega arith;
        spent = refl;
        counted = sym t;
        rows = rw (z, m) (sym (take-append-drop count rs));
      }

  module _ (most : ℕ) (cycle : Cycle) (budget : Budget) (now : List Event) (n k : ℕ) (v : Running most cycle budget now n k) where
    -- the end: all that are due, at most `most`, are made
    pub ended : k ≡ made ask most c
        → (record { cycle = cycle; made = k; budget = budget; count = n } ≡ ran_of ask (made ask most c) c b (take count rs))
        × (now ≡ put_first zero_event count (sofar (made ask most c)).events rs)
    unfolding ran_of
    ended e = rw (← e) (rw (v.here, v.spent, v.counted), v.rows)

    module _ (some : k < made ask most c) where
      not_late : lt_z ask.until cycle.next ≡ false
      not_late =
          ⊎_elim (λ t. absurd (omega (arith, v.owes, test-no ask.until cycle (late cycle.next ask.until t)))) (λ t. t)
          (which (lt_z ask.until cycle.next))

      due : T (le_z cycle.next ask.until)
      due = early cycle.next ask.until not_late

      -- what the state of one more write is, by what the code's step gives
      next : wrote (turn_of ask) (write_of cycle) (sofar k) ≡ sofar (k + 1)
      next = rw v.here (sym (one_more k))

      spent-more : (step_of cycle ask budget).budget ≡ (sofar (k + 1)).budget
      unfolding step_of wrote_of wrote turn
      spent-more = rw v.spent (ap (λ (s : State Event). s.budget) next)

      -- the event that the code's step makes, where it fits
      abbrev event : Event
      event = ((turn_of ask) (write_of cycle) budget.seed).0

      events-put : {e : Event} → (step_of cycle ask budget).event ≡ Some e → (sofar (k + 1)).events ≡ (sofar k).events ++ (e ∷ [])
      unfolding step_of wrote_of wrote turn
      events-put {e} f =
          let h = from_some (fits value_bytes budget) event e f in
          let g : fits value_bytes (sofar k).budget ≡ true = rw v.spent at h.0 in
          ap (λ (s : State Event). s.events) (sym next) ∙ rw (g, ← v.spent, h.1)

      events-skip : (step_of cycle ask budget).event ≡ None → (sofar (k + 1)).events ≡ (sofar k).events
      unfolding step_of wrote_of wrote turn
      events-skip f =
          let n : fits value_bytes budget ≡ false = from-none (fits value_bytes budget) event f in
          let g : fits value_bytes (sofar k).budget ≡ false = rw v.spent at n in
          ap (λ (s : State Event). s.events) (sym next) ∙ rw g

      module _ (m : is_time ask.until ≡ true) where
        again : (n' : ℕ) (now' : List Event) → n' ≡ length (sofar (k + 1)).events → now' ≡ put_first zero_event count (sofar (k + 1)).events rs
            → Running most (step_of cycle ask budget).cycle (step_of cycle ask budget).budget now' n' (k + 1)
        unfolding step_of
        again n' now' q r =
            record {
              ok = kept cycle ask.until v.ok m due;
              here = ap advanced v.here ∙ sym (after_more k c);
              owes = omega (arith, v.owes, count-advanced ask.until cycle (sound cycle v.ok).forward, test-yes ask.until cycle due);
              upto = omega arith;
              spent = spent-more;
              counted = q;
              rows = r;
            }

        pub skip : (step_of cycle ask budget).event ≡ None
            → Running most (step_of cycle ask budget).cycle (step_of cycle ask budget).budget now n (k + 1)
        skip f =
            let e = events-skip f in
            again n now (rw e v.counted) (rw e v.rows)

        pub put : {e : Event} → (step_of cycle ask budget).event ≡ Some e → (now' : List Event)
            → now' ≡ put_first zero_event n (take n now ++ (e ∷ [])) now
            → Running most (step_of cycle ask budget).cycle (step_of cycle ask budget).budget now' (n + 1) (k + 1)
        put {e} f now' q =
            let g = events-put f in
            again (n + 1) now' (rw (g, length-append) (ap (λ (x : ℕ). x + 1) v.counted))
            (q ∙ rw (v.counted, v.rows, put_one zero_event e count (sofar k).events rs, g))

      -- there is room for an event that fits
      pub room : {e : Event} → (step_of cycle ask budget).event ≡ Some e → count ≤ length rs → length (sofar (made ask most c)).events ≤ length rs → n < length now
      room {e} f h q =
          let g = grows (k + 1) (made ask most c) (omega (arith, some)) in
          let l : length (sofar (k + 1)).events ≡ length (sofar k).events + 1 = ap length (events-put f) ∙ length-append (sofar k).events (e ∷ []) in
          let p : length now ≡ length rs = ap length v.rows ∙ length-put_first zero_event count (sofar k).events rs h (omega arith) in
          omega (arith, v.counted)
