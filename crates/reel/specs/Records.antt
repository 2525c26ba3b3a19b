-- 01, "The tape program": what stands at a place of a tape. "Inside a record, numbers missing before the list give 8, then
-- 2 and 3 are asked, then a short list gives 8, then the call's own numbers." How many numbers a list may have comes first
-- in the definitions ..By; those that the code is held to are these at `list_limit`.
use Rattle.std.specs.Prelude.{Bool, cond, Option, Some, None, Result, Ok, Err, List, ℕ, ◌+◌, ◌*◌, ◌-◌, leb, ltb, ℤ, pos, length}
use Rattle.laws.specs.Integers.{inside, cut}
use Rattle.numbers.specs.Limits.{list_limit}
use Rattle.numbers.specs.Ranges.{is_target}
use Rattle.numbers.specs.Refusals.{number_of}
use Rattle.numbers.specs.declared.refusals.Refusal.{Refusal}
use Rattle.numbers.specs.declared.refusals.Refusal.TheVariants.{NoTarget, TooMany, TapeFault}
use Rattle.counted.specs.Numbers.{numbers}
use Rattle.text.specs.Little.{number_at}
use Rattle.reel.specs.Marks.{mark_of, width_of, has_list, is_due}
use Rattle.reel.specs.Numbers.{letters_at, numbers_at}
use Rattle.reel.specs.declared.marks.Mark.{Mark}
use Rattle.reel.specs.declared.records.Record.{Record}

-- the place behind the numbers of a mark at p
abbrev pub behind : ℕ → Mark → ℕ
behind p m = p + 2 + 4 * width_of m

-- a mark, if all its numbers are there
abbrev pub mark_in : List ℕ → ℕ → Option Mark → Option Mark
mark_in s p None = None
mark_in s p (Some m) = cond (leb (behind p m) (length s)) (Some m) None

-- the mark at p, if all its numbers are there
unfoldable pub mark_at : List ℕ → ℕ → Option Mark
mark_at s p = mark_in s p (mark_of (letters_at s p))

-- the second number, where there is one
unfoldable pub second_at : List ℕ → ℕ → Mark → ℤ
second_at s p m = cond (ltb 1 (width_of m)) (number_at s (p + 6)) (pos 0)

-- the last number before a list, by which it is counted
unfoldable pub last_at : List ℕ → ℕ → Mark → ℤ
last_at s p m = number_at s (p + 2 + 4 * (width_of m - 1))

-- "n outside 0..192 gives 3" (02, c)
unfoldable pub is_count_by : ℕ → ℤ → Bool
is_count_by limit n = inside (pos 0) (pos limit) n

abbrev pub is_count : ℤ → Bool
is_count = is_count_by list_limit

-- a list of n numbers from p on, for a target
unfoldable pub list_fault_by : ℕ → List ℕ → ℕ → ℤ → ℤ → Result Unit Refusal
list_fault_by limit s p target n =
    cond (is_target target)
    (cond (is_count_by limit n) (cond (leb (p + 4 * cut n) (length s)) (Ok tt) (Err TapeFault)) (Err TooMany))
    (Err NoTarget)

abbrev pub list_fault : List ℕ → ℕ → ℤ → ℤ → Result Unit Refusal
list_fault = list_fault_by list_limit

-- the record of a mark at p, where so many of TK and MX were read before it
unfoldable pub mark_fault_by : ℕ → List ℕ → ℕ → ℕ → Mark → Result Unit Refusal
mark_fault_by limit s p due m =
    cond (is_due due m)
    (cond (has_list m) (list_fault_by limit s (behind p m) (number_at s (p + 2)) (last_at s p m)) (Ok tt))
    (Err TapeFault)

abbrev pub mark_fault : List ℕ → ℕ → ℕ → Mark → Result Unit Refusal
mark_fault = mark_fault_by list_limit

-- the same, where the mark may be missing
abbrev pub fault_in : ℕ → List ℕ → ℕ → ℕ → Option Mark → Result Unit Refusal
fault_in limit s p due None = Err TapeFault
fault_in limit s p due (Some m) = mark_fault_by limit s p due m

-- the record at p
unfoldable pub fault_by : ℕ → List ℕ → ℕ → ℕ → Result Unit Refusal
fault_by limit s p due = fault_in limit s p due (mark_at s p)

abbrev pub fault : List ℕ → ℕ → ℕ → Result Unit Refusal
fault = fault_by list_limit

-- how many numbers its list has
unfoldable pub count_at : List ℕ → ℕ → Mark → ℕ
count_at s p m = cond (has_list m) (cut (last_at s p m)) 0

-- a sound record of mark m at p, with a list of n numbers
abbrev pub sound : List ℕ → ℕ → Mark → ℕ → Record
sound s p m n =
    record {
      mark = m;
      x = number_at s (p + 2);
      y = second_at s p m;
      list = numbers (numbers_at s (behind p m) n);
      next = behind p m + 4 * n;
    }

-- the record, or why it is refused
abbrev pub if_asked : Result Unit Refusal → Record → Result Record Refusal
if_asked (Ok _) r = Ok r
if_asked (Err e) r = Err e

abbrev pub record_in : ℕ → List ℕ → ℕ → ℕ → Option Mark → Result Record Refusal
record_in limit s p due None = Err TapeFault
record_in limit s p due (Some m) = if_asked (mark_fault_by limit s p due m) (sound s p m (count_at s p m))

unfoldable pub record_by : ℕ → List ℕ → ℕ → ℕ → Result Record Refusal
record_by limit s p due = record_in limit s p due (mark_at s p)

abbrev pub record_at : List ℕ → ℕ → ℕ → Result Record Refusal
record_at = record_by list_limit

-- the number of a record: 0 where it is sound
abbrev pub number_told : Result Record Refusal → ℕ
number_told (Ok _) = 0
number_told (Err e) = number_of e
