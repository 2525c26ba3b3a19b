-- The answers of `write_cc_on_note_wave`, read off its tests in their order.
use mathlib.Core.Path.{◌≡◌, refl, sym}
use mathlib.Core.Bool.{Bool, true, false, cond, ◌&&◌}
use mathlib.Core.List.{List}
use Prim.Native.Nat.{ℕ, ◌≤◌, ◌^◌}
use borrow.Author.Tests.{leb-true}
use lib.Dec.{eqb, leb}
use lib.IntN.{ℤ}
use Rattle.laws.specs.Lists.{put_first}
use Rattle.laws.specs.Rows.{flat}
use Rattle.laws.proofs.Ranges.{left}
use Rattle.numbers.specs.Limits.{byte_limit}
use Rattle.numbers.specs.Ranges.{is_time, is_bytes}
use Rattle.budget.specs.declared.Budget.{Budget}
use Rattle.budget.specs.Budgets.{ok_budget}
use Rattle.events.specs.declared.Event.{Event}
use Rattle.events.specs.Events.{zero_event}
use Rattle.eventlist.specs.Rows.{numbers_of, rows_of, events_of, Whole}
use Rattle.eventlist.specs.Sound.{is_list, ok_events}
use Rattle.eventlist.proofs.EventRows.{flat-rows_of}
use Rattle.state.specs.declared.Track.{Track}
use Rattle.state.specs.Tests.{ok_track}
use Rattle.waving.specs.Calls.{Stand, answer_of, rows_left, room_refusal, after_note, note_refusal}
use Rattle.drawing.specs.Calls.{in_order}
use Rattle.waving.specs.Passes.{unstored}

-- a budget that passes its test
pub budget-small : (b : Budget) → ok_budget b ≡ true → b.maximum ≤ 2 ^ 26
unfolding ok_budget is_bytes
budget-small b e = leb-true b.maximum byte_limit (left (is_bytes b.maximum) (is_bytes b.used) (left (is_bytes b.maximum && is_bytes b.used) (leb b.over 1) e))

module _ (store : ℕ) (a : Track) (start : ℤ) (b : Budget) (l : List ℤ) (count : ℕ) where
  module _ (list : is_list l count ≡ true) where
    -- the records decide, and then the room
    pub numbers-well : (is_time start && ok_track a && ok_budget b) ≡ true
        → note_refusal store a start b l count ≡ cond (ok_events store l count) (room_refusal (after_note a start b (events_of l count)) (rows_of l)) 4
    unfolding note_refusal
    numbers-well e = rw (list, e)

  -- what is asked before the records decides where it refuses
  pub refused-first : {n : ℕ} → n ≡ in_order (is_list l count) true true (is_time start && ok_track a && ok_budget b) 0 → (n ≡ 0 → ⊥) → note_refusal store a start b l count ≡ n
  unfolding note_refusal in_order
  refused-first {n} e h = go (is_list l count) (is_time start && ok_track a && ok_budget b) (ok_events store l count) (room_refusal (after_note a start b (events_of l count)) (rows_of l)) e
    where
      go : (p q r : Bool) (k : ℕ) → n ≡ in_order p true true q 0 → cond p (cond (q && r) k 4) 1 ≡ n
      go true true r k e = absurd (h e)
      go true false r k e = sym e
      go false q r k e = sym e

-- 4 where the records t fail, and else as n says
pub answer-tested : (t : Bool) (n count : ℕ) (b : Budget) (s : Stand) → cond t (answer_of n count b s) (unstored count b) ≡ answer_of (cond t n 4) count b s
answer-tested true n count b s = refl
answer-tested false n count b s = refl

pub rows-tested : (t : Bool) (n count : ℕ) (s : Stand) (R : List Event) → cond t (rows_left n count s R) R ≡ rows_left (cond t n 4) count s R
rows-tested true n count s R = refl
rows-tested false n count s R = refl

-- the numbers of the rows that are left
pub numbers-left : (l : List ℤ) → Whole l → (n count : ℕ) (s : Stand) → flat numbers_of (rows_left n count s (rows_of l)) ≡ cond (eqb n 0) (flat numbers_of (put_first zero_event count s.events (rows_of l))) l
numbers-left l w n count s = go (eqb n 0)
  where
    go : (t : Bool) → flat numbers_of (cond t (put_first zero_event count s.events (rows_of l)) (rows_of l)) ≡ cond t (flat numbers_of (put_first zero_event count s.events (rows_of l))) l
    go true = refl
    go false = flat-rows_of l w
