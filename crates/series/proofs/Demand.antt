-- Demand 3 of the call with table, budget and list lent, and of the events in the list. The hypotheses are those of `cycling`'s theorem:
-- D is the number of writes due up to T; the free budget holds at least 8·D bytes, and every call was accepted, none past T, at
-- least D / 10,000 (rounded up) of them exactly at T. `settled` reads what is promised off the list and the budget that the last call
-- by value left; `lent-demand-3` and `lent-settled` say the same of every series of lent calls. No lent call of a series with room
-- for D more is refused with 7 (`lent-none-full`), and where sixteen records are lent, the first call is handed what passes the tests of 1 and 4 and
-- every time is within its range, all are accepted (`lent-all-accepted`).
use mathlib.Core.Path.{◌≡◌, refl, sym, ap, subst, ◌∙◌}
use mathlib.Core.Bool.{Bool, true, false, true≢false}
use mathlib.Core.List.{List, [], ◌∷◌, ◌++◌, map, append-nil}
use Prim.Native.Nat.{ℕ, ◌+◌, ◌-◌, ◌/◌, ◌≤◌}
use native.Mathlib.Omega.{arith}
use borrow.Author.Tests.{eqb-true, eq-eqb}
use lib.Dec.{eqb}
use lib.IntN.{ℤ, ◌+ℤ◌}
use lib.ListN.{length, drop, length-append, length-map, length-take, drop_of_length-le}
use lib.Seq.{length-take-le, drop_at}
use Rattle.laws.specs.Lists.{all}
use Rattle.numbers.specs.Limits.{places, cycle_writes}
use Rattle.numbers.specs.Ranges.{is_target, is_time}
use Rattle.events.specs.declared.Event.{Event}
use Rattle.eventlist.specs.Rows.{rows_of, events_of}
use Rattle.eventlist.specs.Sound.{is_list}
use Rattle.eventlist.proofs.Sound.{list-within}
use Rattle.cycles.specs.Due.{DueWrite, key}
use Rattle.cycles.specs.Calls.{State, series, made, Until, hits}
use Rattle.cycles.specs.Calls as rules
use Rattle.cycles.specs.Turns.{option_of}
use Rattle.cycles.specs.Promise.{InOrder, Done}
use Rattle.cycles.proofs.Series.{length-events_of}
use Rattle.writing.specs.Targets.{own_events}
use Rattle.state.specs.declared.Track.{Track}
use Rattle.cycling.specs.Series as value
use Rattle.cycling.specs.Series.{Lent, left_to, after, seen, turn_on}
use Rattle.cycling.proofs.Keeping.{Well, was-well, well-next}
use Rattle.cycling.proofs.Demand.{due, Funded, Roomy, demand-3, nothing-due, bytes-risen, events-made, none-full, all-accepted}
use Rattle.series.specs.Events.{added, times_of, Rising, events_at, seeds_for, dues_for, Own, Settled}
use Rattle.series.specs.Calls.{Call, Series, last, untils, Each, Accepted}
use Rattle.series.proofs.Times.{rising}
use Rattle.series.proofs.Own.{aimed-made, own-events, own-times}
use Rattle.series.proofs.ByValue.{by_value, each_lent, stuck}

module _ (a : Track) where
  -- the list that is left is one
  list-last : (u : ℤ) (us : List ℤ) (s : Lent) → value.Accepted a (u ∷ us) s → is_list (after a (u ∷ us) s).list (after a (u ∷ us) s).count ≡ true
  unfolding value.Each after
  list-last u [] s ok = (well-next a u s ok.0).list
  list-last u (v ∷ us) s ok = list-last v us (left_to a u s) ok.1

  -- the events of the writes that a series made
  abbrev newly : List ℤ → Lent → List Event
  newly us s = rules.events_of (turn_on a) (made (turn_on a) us (seen a s)) s.budget.seed

  behind : (us : List ℤ) (s : Lent) → value.Accepted a us s → drop s.count (events_of s.list s.count ++ newly us s) ≡ newly us s
  unfolding value.Each made rules.events_of
  behind [] s ok = rw append-nil (drop_of_length-le (events_of s.list s.count) {i = s.count} (omega (arith, length-take s.count (rows_of s.list))))
  behind (u ∷ us) s ok = drop_at (events_of s.list s.count) _ s.count (length-take-le s.count (rows_of s.list) (list-within s.list s.count (was-well a u s ok.0).list))

  counted : (us : List ℤ) (s : Lent) → value.Accepted a us s → length (events_of (after a us s).list (after a us s).count) ≡ length (events_of s.list s.count) + length (newly us s) → (after a us s).count ≡ s.count + length (newly us s)
  unfolding value.Each made rules.events_of after
  counted [] s ok e = omega arith
  counted (u ∷ us) s ok e =
      let x = length-take-le s.count (rows_of s.list) (list-within s.list s.count (was-well a u s ok.0).list) in
      let end = after a (u ∷ us) s in
      let y = length-take-le end.count (rows_of end.list) (list-within end.list end.count (list-last u us s ok)) in
      sym y ∙ e ∙ omega (arith, x)

module _ (a : Track) (t : ℤ) where
  -- ---- the events in the list

  module _ (us : List ℤ) (s : Lent) (ok : value.Accepted a us s) (none-past : Until t us) (funded : Funded a t s) (enough : (due a t s + (cycle_writes - 1)) / cycle_writes ≤ hits t us) where
    abbrev end : Lent
    end = after a us s

    done : Done (turn_on a) t us (seen a s)
    done = (demand-3 a t us s ok none-past funded enough).1

    new : added s end ≡ newly a us s
    new = ap (drop s.count) (events-made a t us s ok none-past funded enough) ∙ behind a us s ok

    module _ (target : ℤ) (p : is_target target ≡ true) where
      abbrev late : DueWrite → ℤ
      late w = w.time +ℤ (option_of a.options target).delay

      own-late : times_of (own_events target (added s end)) ≡ map late (dues_for a t s target)
      own-late =
          ap (λ (es : List Event). times_of (own_events target es)) new
          ∙ own-times a target p (made (turn_on a) us (seen a s)) s.budget.seed (aimed-made a us s ok)
          ∙ ap (map late) (done.each (key target))

      own : Own a t us s (added s end) target
      own =
          record {
            events =
                ap (own_events target) new
                ∙ own-events a target p (made (turn_on a) us (seen a s)) s.budget.seed (aimed-made a us s ok)
                ∙ ap (λ (ws : List DueWrite). events_at (turn_on a) ws (seeds_for (turn_on a) (key target) (made (turn_on a) us (seen a s)) s.budget.seed)) (done.each (key target));
            count =
                sym (length-map (own_events target (added s end)) (λ (e : Event). e.time))
                ∙ ap length own-late
                ∙ length-map (dues_for a t s target) late;
            times = own-late;
            order =
                subst (λ (zs : List ℤ). Rising zs) (sym own-late)
                (rising (option_of a.options target).delay (dues_for a t s target) (subst (λ (ws : List DueWrite). InOrder ws) (done.each (key target)) (done.order (key target))));
          }

    pub settled : Settled a t us s end
    settled =
        let same = (demand-3 a t us s ok none-past funded enough).0 in
        let made_all = events-made a t us s ok none-past funded enough in
        let many : length (newly a us s) ≡ due a t s = length-events_of (turn_on a) (made (turn_on a) us (seen a s)) s.budget.seed ∙ done.count in
        record {
          kept = made_all ∙ ap (λ (es : List Event). events_of s.list s.count ++ es) (sym new);
          count = counted a us s ok (ap length made_all ∙ length-append (events_of s.list s.count) (newly a us s)) ∙ ap (λ (n : ℕ). s.count + n) many;
          own = λ target p. own target p;
          rest = nothing-due a t us s ok none-past funded enough;
          bytes = bytes-risen a t us s ok none-past funded enough;
          maximum = ap (λ (x : State Event). x.budget.maximum) same ∙ done.maximum;
          flag = ap (λ (x : State Event). x.budget.over) same ∙ done.flag;
        }

  -- ---- lent

  module _ (cs : List Call) (s : Lent) (calls : Series a cs s) where
    module _ (ok : Accepted cs) (none-past : Until t (untils cs)) (funded : Funded a t s) (enough : (due a t s + (cycle_writes - 1)) / cycle_writes ≤ hits t (untils cs)) where
      pub lent-demand-3 : (seen a (last cs s) ≡ series (turn_on a) (untils cs) (seen a s)) × Done (turn_on a) t (untils cs) (seen a s)
      lent-demand-3 =
          let v = by_value a cs s calls ok in
          let r = demand-3 a t (untils cs) s v.0 none-past funded enough in
          (ap (seen a) v.1 ∙ r.0, r.1)

      pub lent-settled : Settled a t (untils cs) s (last cs s)
      lent-settled =
          let v = by_value a cs s calls ok in
          subst (λ (x : Lent). Settled a t (untils cs) s x) (sym v.1) (settled (untils cs) s v.0 none-past funded enough)

    module _ (none-past : Until t (untils cs)) (funded : Funded a t s) (roomy : Roomy a t s) where
      abbrev NotFull : ℕ → Type 0
      NotFull n = n ≡ 7 → ⊥

      pub lent-none-full : Each NotFull cs
      lent-none-full = go (eqb (length s.cycles) places) refl
        where
          go : (b : Bool) → eqb (length s.cycles) places ≡ b → Each (λ (n : ℕ). n ≡ 7 → ⊥) cs
          go true e = each_lent a NotFull cs s (eqb-true (length s.cycles) places e) calls (none-full a t (untils cs) s none-past funded roomy)
          go false e = stuck a NotFull (λ z. omega (arith, z)) cs s (λ z. true≢false (sym (eq-eqb (length s.cycles) places z) ∙ e)) calls

      pub lent-all-accepted : length s.cycles ≡ places → Well a s → all is_time (untils cs) ≡ true → Accepted cs
      lent-all-accepted e w m = each_lent a (λ (n : ℕ). n ≡ 0) cs s e calls (all-accepted a t (untils cs) s w m none-past funded roomy)
