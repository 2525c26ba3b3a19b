-- The tables of a cut, which have a number of each controller: after one more event they have what counts then.
--     all_same       a table at the start
--     holds-stored   a number stored at one place
--     holds_more     the values in list order (`valued`)
--     holds-latest   by time, the values and the times
use mathlib.Core.Path.{◌≡◌, refl, sym, ap, ◌∙◌}
use mathlib.Core.Bool.{Bool, true, false, cond, ◌&&◌, true≢false}
use mathlib.Core.List.{List}
use mathlib.Core.Logic.{⊎_elim}
use Prim.Native.Nat.{ℕ, ◌+◌, ◌<◌, ◌^◌}
use native.Mathlib.Omega.{arith}
use borrow.Author.Tests.{eqb-false}
use lib.IntN.{ℤ, pos, negsuc}
use lib.ListN.{length, get_or, set, take, replicate, length-set, get_or-replicate}
use lib.Seq.{get_or-set_same, get_or-set_other}
use lib.Signed.{le_z}
use Rattle.laws.specs.Integers.{eq_z, inside, sized, cut}
use Rattle.laws.proofs.Bits.{eq_z-true}
use Rattle.laws.proofs.Bools.{which, and-on, and-off}
use Rattle.laws.proofs.Ranges.{left}
use Rattle.numbers.specs.Ranges.{is_controller, is_event_time}
use Rattle.events.specs.declared.Event.{Event}
use Rattle.events.specs.Events.{zero_event, ok_numbered}
use Rattle.events.specs.Kinds.{control_change}
use Rattle.sorting.specs.Stable.{stable_sort}
use Rattle.sorting.specs.Sorting.{earlier}
use Rattle.cutting.specs.Choice.{last_of}
use Rattle.cutting.specs.Cuts.{controllers, unset, folds, controls, control_at}
use Rattle.cutting.specs.Passes.{sound, Holds, stored, valued}
use Rattle.cutting.specs.ByTime.{earliest, time_at, dated}
use Rattle.cutting.proofs.Lasts.{last_more}
use Rattle.cutting.proofs.ByTime.{last-map, latest-more}
use Rattle.cutting.proofs.Stored.{numbered, sound-time, sound-number}

-- a table that has one number everywhere
pub all_same : (z : ℤ) → Holds (λ n. z) (replicate controllers z)
all_same z = record { long = refl; each = λ n h. get_or-replicate controllers n z (pos 0) h }

-- no time of an event is before the earliest
from-earliest : (t : ℤ) → is_event_time t ≡ true → le_z earliest t ≡ true
unfolding is_event_time sized inside
from-earliest t y = left (le_z earliest t) (le_z t (pos (2 ^ 42))) y

dated-folds : (at : ℤ) (times : List ℤ) (e : Event) → dated at times e ≡ true → folds control_change at e ≡ true
unfolding dated
dated-folds at times e q = left (folds control_change at e) (le_z (get_or times (cut e.v1) (pos 0)) e.time) q

-- a controller's number and its place
place : (z : ℤ) (n : ℕ) → is_controller z ≡ true → eq_z z (pos n) ≡ true → cut z ≡ n
place z n y e = rw (eq_z-true z (pos n) e)

other : (z : ℤ) (n : ℕ) → is_controller z ≡ true → eq_z z (pos n) ≡ false → n ≡ cut z → ⊥
unfolding is_controller inside
other (pos k) n y e q = eqb-false k n e (sym q)
other (negsuc k) n y e q = absurd (true≢false (sym y))

module _ (value : ℕ → ℤ) (table : List ℤ) (h : Holds value table) (z x : ℤ) where
  set_at : (n : ℕ) → n < controllers → is_controller z ≡ true → get_or (set table (cut z) x) n (pos 0) ≡ cond (eq_z z (pos n)) x (value n)
  set_at n b y =
      let long = h.long in
      ⊎_elim
      (λ (q : eq_z z (pos n) ≡ true). rw (q, place z n y q) (get_or-set_same table n x (pos 0) (omega arith)))
      (λ (q : eq_z z (pos n) ≡ false). rw q (get_or-set_other table (cut z) n x (pos 0) (other z n y q) ∙ h.each n b))
      (which (eq_z z (pos n)))

  pub holds-stored : (does : Bool) → (does ≡ true → is_controller z ≡ true) → (after : ℕ → ℤ)
      → ((n : ℕ) → n < controllers → after n ≡ cond (does && eq_z z (pos n)) x (value n)) → Holds after (stored does z x table)
  holds-stored true y after q = record { long = length-set table (cut z) x ∙ h.long; each = λ n b. set_at n b (y refl) ∙ sym (q n b) }
  holds-stored false y after q = record { long = h.long; each = λ n b. h.each n b ∙ sym (q n b) }

-- ---- in list order
module _ (at : ℤ) (l : List Event) (i : ℕ) (h : i < length l) (table : List ℤ) where
  pub holds_more : Holds (control_at at (take i l)) table → ok_numbered (get_or l i zero_event) ≡ true → Holds (control_at at (take (i + 1) l)) (valued at table (get_or l i zero_event))
  unfolding valued
  holds_more v y =
      let e = get_or l i zero_event in
      holds-stored (control_at at (take i l)) table v e.v1 e.v2 (folds control_change at e) (numbered at e y) (control_at at (take (i + 1) l))
      (λ n b. last_more (controls at n) (λ x. x.v2) unset l i zero_event h)

-- ---- by time: the table of times says whether the event counts
module _ (at : ℤ) (l : List Event) (i : ℕ) (h : i < length l) (times : List ℤ) where
  abbrev e : Event
  e = get_or l i zero_event

  abbrev so_far : List Event
  so_far = stable_sort earlier (take i l)

  abbrev further : List Event
  further = stable_sort earlier (take (i + 1) l)

  module _ (y : sound (get_or l i zero_event) ≡ true) (v : Holds (time_at at (stable_sort earlier (take i l))) times) where
    dated-is : (n : ℕ) → n < controllers → (controls at n e && last_of (controls at n) (λ x. le_z x.time e.time) true so_far) ≡ (dated at times e && eq_z e.v1 (pos n))
    unfolding dated
    dated-is n b =
        ⊎_elim
        (λ (f : folds control_change at e ≡ true).
        ⊎_elim
        (λ (q : eq_z e.v1 (pos n) ≡ true).
        let k = place e.v1 n (numbered at e (sound-number e y) f) q in
        let t = last-map (λ (z : ℤ). le_z z e.time) (controls at n) (λ x. x.time) earliest so_far in
        rw (f, q, k, v.each n b, t, from-earliest e.time (sound-time e y), and-on))
        (λ (q : eq_z e.v1 (pos n) ≡ false). rw (f, q, and-off))
        (which (eq_z e.v1 (pos n))))
        (λ (f : folds control_change at e ≡ false). rw f)
        (which (folds control_change at e))

    -- so of values, and of the times themselves
    pub holds-latest : (f : Event → ℤ) (d : ℤ) (table : List ℤ) → Holds (λ n. last_of (controls at n) f d (stable_sort earlier (take i l))) table
        → Holds (λ n. last_of (controls at n) f d (stable_sort earlier (take (i + 1) l))) (stored (dated at times (get_or l i zero_event)) (get_or l i zero_event).v1 (f (get_or l i zero_event)) table)
    holds-latest f d table w =
        holds-stored (λ n. last_of (controls at n) f d so_far) table w e.v1 (f e) (dated at times e)
        (λ q. numbered at e (sound-number e y) (dated-folds at times e q)) (λ n. last_of (controls at n) f d further)
        (λ n b. latest-more (controls at n) f l i h d ∙ ap (λ (t : Bool). cond t (f e) (last_of (controls at n) f d so_far)) (dated-is n b))
