-- A series of cycle calls over a lent table, a lent budget and a lent list, by the contract of `lending::write_cc_on_cycle`: any answers, and
-- anything left of what was lent, that the contract admits. The next call is handed what the one before left, and the count that it answered.
use Rattle.std.specs.Prelude.{◌≡◌, List, [], ◌∷◌, map, ℕ, ℤ, length}
use Rattle.state.specs.declared.Track.{Track}
use Rattle.cycling.specs.declared.Cycled.{Cycled}
use Rattle.cycling.specs.Calls.{cycled_of, cycled_list}
use Rattle.cycling.specs.Series.{Lent}
use Rattle.lending.specs.declared.Answer.{Answer}
use Rattle.lending.specs.Writing.{answer_of}

-- one call: up to when, what it answered, and what the next is lent
pub record Call : Type 0 where
  pub until : ℤ
  pub answer : Answer
  pub hands : Lent

module _ (a : Track) where
  -- the number of records is the length of what was lent
  abbrev pub cycled_by : ℤ → Lent → Cycled
  cycled_by u s = cycled_of a (length s.cycles) s.cycles u s.budget s.list s.count

  -- the contract of the call, handed s
  pub record Contract (s : Lent) (c : Call) : Type 0 where
    pub answer : c.answer ≡ answer_of (cycled_by c.until s)
    pub cycles : c.hands.cycles ≡ (cycled_by c.until s).cycles
    pub budget : c.hands.budget ≡ (cycled_by c.until s).budget
    pub list : c.hands.list ≡ cycled_list a (length s.cycles) s.cycles c.until s.budget s.list s.count
    pub count : c.hands.count ≡ c.answer.count

  unfoldable pub Series : List Call → Lent → Type 0
  Series [] s = Unit {0}
  Series (c ∷ cs) s = Contract s c × Series cs c.hands

  -- the outcome that the contract names, and those of calls up to any times
  abbrev pub call_to : ℤ → Lent → Call
  call_to u s =
      record {
        until = u;
        answer = answer_of (cycled_by u s);
        hands = record {
          cycles = (cycled_by u s).cycles;
          budget = (cycled_by u s).budget;
          list = cycled_list a (length s.cycles) s.cycles u s.budget s.list s.count;
          count = (cycled_by u s).count;
        };
      }

  unfoldable pub calls_to : List ℤ → Lent → List Call
  calls_to [] s = []
  calls_to (u ∷ us) s = call_to u s ∷ calls_to us (call_to u s).hands

-- what the last call left
unfoldable pub last : List Call → Lent → Lent
last [] s = s
last (c ∷ cs) s = last cs c.hands

abbrev pub untils : List Call → List ℤ
untils cs = map (λ (c : Call). c.until) cs

-- of each call's number P holds
unfoldable pub Each : (ℕ → Type 0) → List Call → Type 0
Each P [] = Unit {0}
Each P (c ∷ cs) = P c.answer.code × Each P cs

abbrev pub Accepted : List Call → Type 0
Accepted cs = Each (λ (n : ℕ). n ≡ 0) cs
