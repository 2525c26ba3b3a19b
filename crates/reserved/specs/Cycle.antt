-- 01, item 4 and "Values per note": the value of a cycle at a time, and what the answer's cases stand for.
use Rattle.std.specs.Prelude.{Bool, cond, ◌&&◌, ◌||◌, List, [], ◌∷◌, ℕ, ◌/◌, ◌%◌, eqb, Option, Some, None, Result, Ok, Err, ℤ, pos, ◌-ℤ◌, get_or}
use Rattle.std.specs.Int.Signed.{lt_z}
use Rattle.laws.specs.Integers.{cut}
use Rattle.laws.specs.Answers.{Said}
use Rattle.numbers.specs.Ranges.{is_time, is_stored_time, is_length}
use Rattle.numbers.specs.Refusals.{number_of}
use Rattle.numbers.specs.declared.refusals.Refusal.{Refusal}
use Rattle.counted.specs.Numbers.{ok_numbers}
use Rattle.reserved.specs.declared.OnCycleTime.{OnCycleTime}

-- how many steps something has been going on that began at `start`, if it has begun
abbrev pub since_of : ℤ → ℤ → Option ℕ
since_of start t = cond (lt_z t start) None (Some (cut (t -ℤ start)))

-- 01, "Numbers a caller may hand in": a start, a length, a list; the length may be 0 or less
unfoldable pub ok_cycle : OnCycleTime → Bool
ok_cycle c = is_stored_time c.start && is_length c.length && ok_numbers c.values

-- every `length` steps the next value, round and round
abbrev pub cycle_from : OnCycleTime → Option ℕ → List ℤ
cycle_from c None = []
cycle_from c (Some k) =
    cond (eqb (cut c.length) 0 || eqb c.values.count 0) []
    (get_or c.values.items (k / cut c.length % c.values.count) (pos 0) ∷ [])

unfoldable pub cycle_at : OnCycleTime → ℤ → List ℤ
cycle_at c t = cycle_from c (since_of c.start t)

abbrev pub value_list : Option ℤ → List ℤ
value_list (Some v) = v ∷ []
value_list None = []

-- 01, "What each place should look like": the paper's number and values for each case of the answer
abbrev pub said : Result (Option ℤ) Refusal → Said
said (Ok value) = record { number = 0; values = value_list value }
said (Err r) = record { number = number_of r; values = [] }

unfoldable pub calc_of : OnCycleTime → ℤ → Said
calc_of c t = cond (ok_cycle c && is_time t) (record { number = 0; values = cycle_at c t }) (record { number = 4; values = [] })
