-- 02, j): the two calls, of a list that is lent beside a store of so many bytes.
use Rattle.std.specs.Prelude.{cond, ◌&&◌, List, ◌≡◌, ℕ, eqb, ℤ, length}
use Rattle.laws.specs.Lists.{all, put_first}
use Rattle.laws.specs.Rows.{flat}
use Rattle.events.specs.declared.Event.{Event}
use Rattle.events.specs.Events.{zero_event}
use Rattle.eventlist.specs.declared.Taken.{Taken}
use Rattle.eventlist.specs.Rows.{rows_of, events_of, numbers_of}
use Rattle.eventlist.specs.Sound.{is_list, ok_events}
use Rattle.profile.specs.declared.ProfileAnswer.{ProfileAnswer}
use Rattle.profile.specs.Profile.{one_channel, from_zero, passes, fitted}

-- ---- the check: 1, then 4
unfoldable pub check_refusal : ℕ → List ℤ → ℕ → ℕ
check_refusal store l count = cond (is_list l count) (cond (ok_events store l count) 0 4) 1

-- "a check that says yes exactly for such lists": 1 is yes
abbrev pub check_answer : ℕ → List ℤ → ℕ → ProfileAnswer
check_answer store l count =
    record {
      code = check_refusal store l count;
      yes = cond (eqb (check_refusal store l count) 0 && passes (events_of l count)) 1 0;
    }

-- ---- fitting: 1, then 4, then "17, after 7, more than one channel; 18, after 17, a negative time"
-- what is asked of sound events, as they are handed in
abbrev pub unfitted : List Event → ℕ
unfitted es = cond (one_channel es) (cond (all from_zero es) 0 18) 17

unfoldable pub fit_refusal : ℕ → List ℤ → ℕ → ℕ
fit_refusal store l count = cond (is_list l count) (cond (ok_events store l count) (unfitted (events_of l count)) 4) 1

abbrev pub fit_taken : ℕ → List ℤ → ℕ → Taken
fit_taken store l count =
    record {
      code = fit_refusal store l count;
      count = cond (eqb (fit_refusal store l count) 0) (length (fitted (events_of l count))) count;
    }

-- every number of the list afterwards: what is fitted first, places that fall vacant zeroed, what stands past the count untouched
abbrev pub fit_left : ℕ → List ℤ → ℕ → List ℤ
fit_left store l count =
    cond (eqb (fit_refusal store l count) 0) (flat numbers_of (put_first zero_event count (fitted (events_of l count)) (rows_of l))) l

-- `fit_profile`, called on the first `count` events of l, answered 0 and `left`, and left the list l': its contract, with the number 0
pub record FitOut (store : ℕ) (l : List ℤ) (count left : ℕ) (l' : List ℤ) : Type 0 where
  pub answer : ◌≡◌ {A = Taken} (record { code = 0; count = left }) (fit_taken store l count)
  pub list : l' ≡ fit_left store l count
