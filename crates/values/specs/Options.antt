-- 01, "Numbers a caller may hand in": a target's option, its ranges, and what it does to a value.
use Rattle.std.specs.Prelude.{Bool, cond, ◌&&◌, ℕ, eqb, leb, ℤ, pos, Option, Some, None}
use Rattle.laws.specs.Integers.{range_of}
use Rattle.numbers.specs.Ranges.{is_length, is_random, is_number, absent_or}
use Rattle.numbers.specs.Random.{spread}
use Rattle.values.specs.declared.WriteOption.{WriteOption}

abbrev pub new_option : WriteOption
new_option = record { delay = pos 0; random = pos 0; ranged = 0; low = pos 0; high = pos 0; repeat = 0 }

-- "delay ±2^20; random at most 2^20; range ends ±2^22"; "a range may be absent"
unfoldable pub ok_option : WriteOption → Bool
ok_option o =
    leb o.ranged 1 && leb o.repeat 1 && absent_or o.ranged (is_number o.low && is_number o.high)
    && is_length o.delay && is_random o.random

-- the range that an option has, if it has one
unfoldable pub range_in : WriteOption → Option (ℤ × ℤ)
range_in o = cond (eqb o.ranged 0) None (Some (o.low, o.high))

abbrev pub limited : Option (ℤ × ℤ) → ℤ → ℤ
limited None v = v
limited (Some (low, high)) v = range_of low v high

-- "random, then the option's range", y being the seed, already stepped
unfoldable pub moved : WriteOption → ℤ → ℕ → ℤ
moved o v y = limited (range_in o) (spread v o.random y)
