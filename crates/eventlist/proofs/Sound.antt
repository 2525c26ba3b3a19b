-- What a list that was tested is: a whole number of records, its count within them. And what a call leaves that puts events
-- first: as many numbers as before, those events below its count, so that the next call's tests of 1 and 4 pass where each of
-- them may be stored.
--     list-whole, list-within                         a list that was tested
--     Passed, passed, no_seven                        what 0 tells of a call's tests
--     SoundList                                       what 1 and 4 ask of a list
--     left-long, left-list, left-events, left-sound   a list whose first are others now
use mathlib.Core.Path.{◌≡◌, refl, ap, ◌∙◌}
use mathlib.Core.Bool.{Bool, true, false, cond}
use mathlib.Core.List.{List}
use Prim.Native.Nat.{ℕ, ◌/◌, ◌%◌, ◌≤◌}
use native.Mathlib.Omega.{arith}
use borrow.Author.Tests.{eqb-true, leb-true, eq-eqb, le-leb}
use lib.Dec.{eqb, leb}
use lib.IntN.{ℤ}
use lib.ListN.{length, take}
use Rattle.laws.specs.Lists.{all, put_first}
use Rattle.laws.specs.Rows.{flat}
use Rattle.laws.proofs.Ranges.{left, right}
use Rattle.laws.proofs.Tests.{both}
use Rattle.laws.proofs.Rows.{length-flat}
use Rattle.laws.proofs.Firsts.{shown, length-put_first}
use Rattle.events.specs.declared.Event.{Event}
use Rattle.events.specs.Events.{zero_event, ok_event}
use Rattle.eventlist.specs.Rows.{record_width, event_of, numbers_of, rows_of, events_of, Whole}
use Rattle.eventlist.specs.Sound.{is_list, ok_events}
use Rattle.eventlist.proofs.EventRows.{length-rows_of, rows_of-flat}

module _ (l : List ℤ) (count : ℕ) (e : is_list l count ≡ true) where
  abbrev whole : ℕ
  whole = length l % record_width

  pub list-whole : Whole l
  unfolding is_list Whole
  list-whole =
      let r = length-rows_of l in
      let z = eqb-true whole 0 (left (eqb whole 0) (leb count (length l / record_width)) e) in
      omega arith

  pub list-within : count ≤ length (rows_of l)
  unfolding is_list
  list-within =
      let r = length-rows_of l in
      let h = leb-true count (length l / record_width) (right (eqb whole 0) (leb count (length l / record_width)) e) in
      omega arith

-- ---- a call that asks 1, then 4, then what gives n, and is not refused
pub record Passed (listed allowed : Bool) (n : ℕ) : Type 0 where
  pub list : listed ≡ true
  pub numbers : allowed ≡ true
  pub rest : n ≡ 0

pub passed : (listed allowed : Bool) (n : ℕ) → cond listed (cond allowed n 4) 1 ≡ 0 → Passed listed allowed n
passed true true n e = record { list = refl; numbers = refl; rest = e }
passed true false n e = absurd (omega arith)
passed false allowed n e = absurd (omega arith)

pub no_seven : (full : Bool) → ◌≡◌ {A = ℕ} (cond full 7 0) 0 → full ≡ false
no_seven true e = absurd (omega arith)
no_seven false e = refl

-- ---- what 1 and 4 ask of a list
pub record SoundList (store : ℕ) (l : List ℤ) (count : ℕ) : Type 0 where
  pub list : is_list l count ≡ true
  pub events : ok_events store l count ≡ true

-- ---- the events `now` stand first, and fit
module _ (l : List ℤ) (count : ℕ) (now : List Event) where
  abbrev after : List ℤ
  after = flat numbers_of (put_first zero_event count now (rows_of l))

  pub left-events : events_of (flat numbers_of (put_first zero_event count now (rows_of l))) (length now) ≡ now
  left-events = ap (take (length now)) (rows_of-flat (put_first zero_event count now (rows_of l))) ∙ shown zero_event count (rows_of l) now

  module _ (e : is_list l count ≡ true) (fit : length now ≤ length (rows_of l)) where
    pub left-long : length (flat numbers_of (put_first zero_event count now (rows_of l))) ≡ length l
    unfolding Whole
    left-long =
        length-flat record_width event_of numbers_of (λ r. refl) (put_first zero_event count now (rows_of l))
        ∙ omega (arith, length-put_first zero_event count now (rows_of l) (list-within l count e) fit, list-whole l count e)

    pub left-list : is_list (flat numbers_of (put_first zero_event count now (rows_of l))) (length now) ≡ true
    unfolding is_list Whole
    left-list =
        let n = left-long in
        let w = list-whole l count e in
        let r = length-rows_of l in
        both (eq-eqb (length after % record_width) 0 (omega arith)) (le-leb (length now) (length after / record_width) (omega arith))

    pub left-sound : (store : ℕ) → all (ok_event store) now ≡ true → SoundList store (flat numbers_of (put_first zero_event count now (rows_of l))) (length now)
    unfolding ok_events
    left-sound store h = record { list = left-list; events = ap (all (ok_event store)) left-events ∙ h }
