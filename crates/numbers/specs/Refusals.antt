-- 01, the table of refusals, and what 02, b), e) and j) add to it.
use Rattle.std.specs.Prelude.{Bool, cond, ℕ, Result, Ok, Err}
use Rattle.numbers.specs.declared.refusals.Refusal.{Refusal}
use Rattle.numbers.specs.declared.refusals.Refusal.TheVariants.{NotAList, NoTarget, TooMany, OutOfRange, NoLayer, NoPlace, NoRoom, TapeFault, OutOfOrder, Unwritable, OutputShort, NoChunk, EventBroken, NoEnd, TwoChannels, BeforeStart}

abbrev pub number_of : Refusal → ℕ
number_of NotAList = 1
number_of NoTarget = 2
number_of TooMany = 3
number_of OutOfRange = 4
number_of NoLayer = 5
number_of NoPlace = 6
number_of NoRoom = 7
number_of TapeFault = 8
number_of OutOfOrder = 10
number_of Unwritable = 11
number_of OutputShort = 12
number_of NoChunk = 13
number_of EventBroken = 14
number_of NoEnd = 15
number_of TwoChannels = 17
number_of BeforeStart = 18

-- what a call answers that was asked so: 0, or why it refuses
abbrev pub told : Result Unit Refusal → ℕ
told (Ok _) = 0
told (Err r) = number_of r

abbrev pub asked : Bool → Refusal → Result Unit Refusal
asked holds r = cond holds (Ok tt) (Err r)
