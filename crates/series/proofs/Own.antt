-- The events of one target among those that a series of calls adds: one for each of its due writes (`own-events`), each at its write's
-- time and the target's delay (`own-times`). All writes of an accepted series have a target (`aimed-made`), and an event is a target's
-- own exactly where its write has the target's key (`is-own`).
use mathlib.Core.Path.{◌≡◌, refl, sym, ap, ap₂, ◌∙◌}
use mathlib.Core.Bool.{Bool, true, false, cond, not, ◌&&◌, ◌||◌, true≢false}
use mathlib.Core.List.{List, [], ◌∷◌, ◌++◌, map}
use Prim.Native.Nat.{ℕ, zero, suc, ◌-◌, min}
use native.Mathlib.Omega.{arith}
use borrow.Author.Tests.{leb-true, leb-false, le-leb, eqb-true, eq-eqb, ne_eqb}
use lib.Dec.{eqb, leb, ltb}
use lib.IntN.{ℤ, pos, negsuc, ◌+ℤ◌, +ℤ_idr}
use lib.Signed.{le_z}
use Rattle.laws.specs.Integers.{eq_z, inside, cut}
use Rattle.laws.specs.Lists.{all, unless}
use Rattle.laws.specs.Keys.{distinct}
use Rattle.laws.proofs.Ranges.{left, right}
use Rattle.numbers.specs.Ranges.{is_target, is_controller, is_length, is_stored_time}
use Rattle.counted.specs.Numbers.{ok_numbers}
use Rattle.events.specs.declared.Event.{Event}
use Rattle.events.specs.Kinds.{control_change, pitch_bend}
use Rattle.values.specs.Value.{kind_of, controller_event, bend_event, event_for, start_of, time_of, event_of_offer}
use Rattle.cycles.specs.declared.Cycle.{Cycle}
use Rattle.cycles.specs.Due.{DueWrite, write_of, advanced, run, due_count, takes, key, only, code_of}
use Rattle.cycles.specs.Rules.{ok_cycle, keys_of, ok_table}
use Rattle.cycles.specs.Calls.{limit, share, made, events_of}
use Rattle.cycles.specs.Turns.{turn, option_of}
use Rattle.writing.specs.Targets.{belongs, own_events}
use Rattle.state.specs.declared.Track.{Track}
use Rattle.cycling.specs.Calls.{used_of}
use Rattle.cycling.specs.Series.{Lent, left_to, Each, Accepted, seen, turn_on}
use Rattle.cycling.proofs.Calling.{seen_next}
use Rattle.cycling.proofs.Keeping.{rules}
use Rattle.series.specs.Events.{times_of, events_at, seeds_for}

-- ---- whose an event is

swapped : (m n : ℕ) → eqb n m ≡ eqb m n
swapped m n = go (eqb m n) refl
  where
    go : (b : Bool) → eqb m n ≡ b → eqb n m ≡ b
    go true e = eq-eqb n m (sym (eqb-true m n e))
    go false e = ne_eqb n m (λ h. true≢false (sym (eq-eqb m n (sym h)) ∙ e))

-- of a controller c and an event of a controller d, and their numbers
own-by : (m n : ℕ) (c d : Bool) → leb m 127 ≡ c → leb n 127 ≡ d → (time channel v : ℤ)
    → (eq_z (cond d (controller_event time channel (pos n) v) (bend_event time channel v)).kind (cond c control_change pitch_bend)
    && (not (eq_z (cond c control_change pitch_bend) control_change) || eq_z (cond d (controller_event time channel (pos n) v) (bend_event time channel v)).v1 (pos m)))
    ≡ eqb (min m 128) (min n 128)
own-by m n true true p q time channel v =
    let e : min m 128 ≡ m = omega (arith, leb-true m 127 p) in
    let f : min n 128 ≡ n = omega (arith, leb-true n 127 q) in
    swapped m n ∙ sym (ap₂ eqb e f)
own-by m n true false p q time channel v = sym (ne_eqb (min m 128) (min n 128) (λ h. omega (arith, h, leb-true m 127 p, leb-false n 127 q)))
own-by m n false true p q time channel v = sym (ne_eqb (min m 128) (min n 128) (λ h. omega (arith, h, leb-false m 127 p, leb-true n 127 q)))
own-by m n false false p q time channel v = sym (eq-eqb (min m 128) (min n 128) (omega (arith, leb-false m 127 p, leb-false n 127 q)))

-- a target's code is its number
code_is : (z : ℤ) → is_target z ≡ true → code_of z ≡ cut z
unfolding code_of
code_is z e = rw e

is-own : (target z : ℤ) → is_target target ≡ true → is_target z ≡ true → (time channel v : ℤ) → belongs target (event_for z time channel v) ≡ eqb (key target) (key z)
unfolding belongs event_for kind_of is_target is_controller inside
is-own (pos m) (pos n) p q time channel v =
    rw (code_is (pos m) p, code_is (pos n) q, le-leb 0 m (omega arith), le-leb 0 n (omega arith)) (own-by m n (leb m 127) (leb n 127) refl refl time channel v)
is-own (pos m) (negsuc n) p q time channel v = absurd (true≢false (sym q))
is-own (negsuc m) z p q time channel v = absurd (true≢false (sym p))

time-is : (z time channel v : ℤ) → (event_for z time channel v).time ≡ time
unfolding event_for
time-is z time channel v = go (is_controller z)
  where
    go : (b : Bool) → (cond b (controller_event time channel z v) (bend_event time channel v)).time ≡ time
    go true = refl
    go false = refl

-- ---- writes that have a target

abbrev Aimed : List DueWrite → Type 0
Aimed [] = Unit {0}
Aimed (w ∷ ws) = (is_target w.target ≡ true) × Aimed ws

aimed-append : (ws xs : List DueWrite) → Aimed ws → Aimed xs → Aimed (ws ++ xs)
aimed-append [] xs g h = h
aimed-append (w ∷ ws) xs g h = (g.0, aimed-append ws xs g.1 h)

aimed-run : (k : ℕ) (c : Cycle) → is_target c.target ≡ true → Aimed (run k c)
unfolding run write_of advanced
aimed-run zero c e = tt
aimed-run (suc k) c e = (e, aimed-run k (advanced c) e)

aim : (c : Cycle) → ok_cycle c ≡ true → is_target c.target ≡ true
unfolding ok_cycle
aim c e =
    let target = is_target c.target in
    let forward = le_z (pos 1) c.length in
    let short = is_length c.length in
    let near = is_stored_time c.next in
    let numbers = ok_numbers c.values in
    let placed = ltb c.index c.values.count in
    left target forward (left (target && forward) short (left (target && forward && short) near (left (target && forward && short && near) numbers (left (target && forward && short && near && numbers) placed e))))

aimed-takes : (m : ℕ) (u : ℤ) (tab : List Cycle) → all ok_cycle tab ≡ true → Aimed (takes m u tab)
unfolding takes all
aimed-takes m u [] e = tt
aimed-takes m u (c ∷ cs) e =
    aimed-append (run (min m (due_count u c)) c) (takes (m - due_count u c) u cs)
    (aimed-run (min m (due_count u c)) c (aim c (left (ok_cycle c) (all ok_cycle cs) e)))
    (aimed-takes (m - due_count u c) u cs (right (ok_cycle c) (all ok_cycle cs) e))

module _ (a : Track) where
  pub aimed-made : (us : List ℤ) (s : Lent) → Accepted a us s → Aimed (made (turn_on a) us (seen a s))
  unfolding made share Each ok_table
  aimed-made [] s ok = tt
  aimed-made (u ∷ us) s ok =
      let tab = used_of a s.cycles in
      let well = left (all ok_cycle tab) (distinct (keys_of tab)) (unfold ok_table in rules a u s ok.0) in
      aimed-append (share u (seen a s)) (made (turn_on a) us _) (aimed-takes (limit s.budget) u tab well)
      (rw (← seen_next a u s ok.0) (aimed-made us (left_to a u s) ok.1))

  -- ---- one target

  module _ (target : ℤ) (p : is_target target ≡ true) where
    whose : (w : DueWrite) (y : ℕ) → is_target w.target ≡ true → belongs target (turn_on a w y).0 ≡ eqb (key target) (key w.target)
    unfolding turn event_of_offer
    whose w y q = is-own target w.target p q _ _ _

    when : (w : DueWrite) (y : ℕ) → (turn_on a w y).0.time ≡ w.time +ℤ (option_of a.options w.target).delay
    unfolding turn event_of_offer time_of start_of
    when w y = time-is w.target _ _ _ ∙ +ℤ_idr (w.time +ℤ (option_of a.options w.target).delay)

    pub own-events : (ws : List DueWrite) (y : ℕ) → Aimed ws → own_events target (events_of (turn_on a) ws y) ≡ events_at (turn_on a) (only (key target) ws) (seeds_for (turn_on a) (key target) ws y)
    unfolding events_of events_at only seeds_for
    own-events [] y h = refl
    own-events (w ∷ ws) y h =
        let x : Event = (turn_on a w y).0 in
        let rest : List Event = own_events target (events_of (turn_on a) ws (turn_on a w y).1) in
        ap (λ (b : Bool). unless (not b) x rest) (whose w y h.0) ∙ go (eqb (key target) (key w.target)) (own-events ws (turn_on a w y).1 h.1)
      where
        z : ℕ
        z = (turn_on a w y).1

        go : (b : Bool) → own_events target (events_of (turn_on a) ws (turn_on a w y).1) ≡ events_at (turn_on a) (only (key target) ws) (seeds_for (turn_on a) (key target) ws (turn_on a w y).1)
            → unless (not b) (turn_on a w y).0 (own_events target (events_of (turn_on a) ws (turn_on a w y).1))
            ≡ events_at (turn_on a) (cond b (w ∷ only (key target) ws) (only (key target) ws)) (cond b (y ∷ seeds_for (turn_on a) (key target) ws (turn_on a w y).1) (seeds_for (turn_on a) (key target) ws (turn_on a w y).1))
        go true ih = ap (λ (es : List Event). (turn_on a w y).0 ∷ es) ih
        go false ih = ih

    abbrev late : DueWrite → ℤ
    late w = w.time +ℤ (option_of a.options target).delay

    pub own-times : (ws : List DueWrite) (y : ℕ) → Aimed ws → times_of (own_events target (events_of (turn_on a) ws y)) ≡ map late (only (key target) ws)
    unfolding events_of only
    own-times [] y h = refl
    own-times (w ∷ ws) y h =
        let x : Event = (turn_on a w y).0 in
        let rest : List Event = own_events target (events_of (turn_on a) ws (turn_on a w y).1) in
        ap (λ (b : Bool). times_of (unless (not b) x rest)) (whose w y h.0) ∙ go (eqb (key target) (key w.target)) refl (own-times ws (turn_on a w y).1 h.1)
      where
        go : (b : Bool) → eqb (key target) (key w.target) ≡ b → times_of (own_events target (events_of (turn_on a) ws (turn_on a w y).1)) ≡ map late (only (key target) ws)
            → times_of (unless (not b) (turn_on a w y).0 (own_events target (events_of (turn_on a) ws (turn_on a w y).1))) ≡ map late (cond b (w ∷ only (key target) ws) (only (key target) ws))
        go true e ih =
            let k = eqb-true (key target) (key w.target) e in
            ap₂ (λ (z : ℤ) (zs : List ℤ). z ∷ zs) (when w y ∙ rw (← k)) ih
        go false e ih = ih
