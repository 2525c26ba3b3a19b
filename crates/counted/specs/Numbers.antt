-- 01, "Numbers a caller may hand in": a list has at most 192 numbers (02, c), each within ±2^22.
use Rattle.std.specs.Prelude.{Bool, cond, List, ◌++◌, ℕ, leb, ltb, ℤ, pos, Option, Some, None, Result, Ok, Err, length, get_or, take, drop, replicate}
use Rattle.laws.specs.Lists.{counted}
use Rattle.numbers.specs.Limits.{list_limit}
use Rattle.numbers.specs.Ranges.{is_number}
use Rattle.numbers.specs.declared.refusals.Refusal.{Refusal}
use Rattle.numbers.specs.declared.refusals.Refusal.TheVariants.{TooMany}
use Rattle.counted.specs.declared.Numbers.{Numbers}

unfoldable pub zeros : List ℤ
zeros = replicate list_limit (pos 0)

-- v as a counted list: zeros behind it
abbrev pub numbers : List ℤ → Numbers
numbers v = record { count = length v; items = v ++ drop (length v) zeros }

abbrev pub none : Numbers
none = record { count = 0; items = zeros }

-- the numbers that count
abbrev pub shown : Numbers → List ℤ
shown a = take a.count a.items

-- refused where there are more numbers than a list may have
abbrev pub numbers_of : List ℤ → Result Numbers Refusal
numbers_of v = cond (ltb list_limit (length v)) (Err TooMany) (Ok (numbers v))

-- at most as many as a list may have, each in range
unfoldable pub ok_numbers : Numbers → Bool
ok_numbers a = counted a.count list_limit is_number a.items

-- the number at place i, if so many count
abbrev pub got_at : Numbers → ℕ → Option ℤ
got_at a i = cond (leb a.count i) None (Some (get_or a.items i (pos 0)))
