-- A series of cycle calls over one track, "each handed what the one before left, nothing else between": what they are lent, what
-- they leave, and that all were accepted.
use Rattle.std.specs.Prelude.{◌≡◌, List, [], ◌∷◌, ℕ, ℤ}
use Rattle.numbers.specs.Limits.{places}
use Rattle.budget.specs.declared.Budget.{Budget}
use Rattle.events.specs.declared.Event.{Event}
use Rattle.eventlist.specs.Rows.{events_of}
use Rattle.cycles.specs.declared.Cycle.{Cycle}
use Rattle.cycles.specs.Calls.{State, Turn}
use Rattle.cycles.specs.Turns.{turn, option_of}
use Rattle.state.specs.declared.Track.{Track}
use Rattle.cycling.specs.declared.Cycled.{Cycled}
use Rattle.cycling.specs.Calls.{used_of, cycled_of, cycled_list}

-- sixteen records, the budget, every number of the list and its count
pub record Lent : Type 0 where
  pub cycles : List Cycle
  pub budget : Budget
  pub list : List ℤ
  pub count : ℕ

module _ (a : Track) where
  -- one call up to u: its answer, and what is lent to the next
  abbrev pub answer_to : ℤ → Lent → Cycled
  answer_to u s = cycled_of a places s.cycles u s.budget s.list s.count

  abbrev pub left_to : ℤ → Lent → Lent
  left_to u s =
      record {
        cycles = (answer_to u s).cycles;
        budget = (answer_to u s).budget;
        list = cycled_list a places s.cycles u s.budget s.list s.count;
        count = (answer_to u s).count;
      }

  unfoldable pub after : List ℤ → Lent → Lent
  after [] s = s
  after (u ∷ us) s = after us (left_to u s)

  -- of each call's number P holds
  unfoldable pub Each : (ℕ → Type 0) → List ℤ → Lent → Type 0
  Each P [] s = Unit {0}
  Each P (u ∷ us) s = P (answer_to u s).code × Each P us (left_to u s)

  abbrev pub Accepted : List ℤ → Lent → Type 0
  Accepted us s = Each (λ (n : ℕ). n ≡ 0) us s

  -- as the cycle rules see it: the used records, the budget, the events below the count
  abbrev pub seen : Lent → State Event
  seen s = record { table = used_of a s.cycles; budget = s.budget; events = events_of s.list s.count }

  -- what a due write becomes on this track
  abbrev pub turn_on : Turn Event
  turn_on = turn (option_of a.options) a.channel
