-- What setting a reservation asks and makes, for a parameter and a layer alike.
use Rattle.std.specs.Prelude.{Bool, cond, ◌&&◌, List, ℕ, eqb, leb, ltb, ℤ, pos, ◌+ℤ◌, Result, Ok, Err, length, get_or, drop}
use Rattle.laws.specs.Lists.{all}
use Rattle.numbers.specs.Limits.{list_limit}
use Rattle.numbers.specs.Ranges.{is_time, is_number, is_length}
use Rattle.numbers.specs.declared.refusals.Refusal.{Refusal}
use Rattle.numbers.specs.declared.refusals.Refusal.TheVariants.{TooMany, OutOfRange}
use Rattle.counted.specs.declared.Numbers.{Numbers}
use Rattle.counted.specs.Numbers.{none, numbers}
use Rattle.counted.specs.Curves.{is_curve}
use Rattle.reserved.specs.declared.Reserve.{Reserve}
use Rattle.reserved.specs.declared.OnCycleTime.{OnCycleTime}
use Rattle.reserved.specs.declared.CycleTimeAnswer.{CycleTimeAnswer}
use Rattle.reserved.specs.Cycle.{ok_cycle}
use Rattle.reserved.specs.Reserve.{idle, curve_from, cycle_over, notes_from}

-- 01, "Numbers that come back": 4 where a number is against its range, 3 before it where a list is too long
abbrev pub demand : Bool → ℕ
demand ok = cond ok 0 4

abbrev pub list_demand : List ℤ → ℕ → ℕ
list_demand v n = cond (ltb list_limit (length v)) 3 n

-- 01, "Cycles": a parameter's or layer's cycle takes its length from the first argument; the rest are its values
abbrev pub length_of : List ℤ → ℤ
length_of v = get_or v 0 (pos 0)

abbrev pub rest_of : List ℤ → List ℤ
rest_of v = drop 1 v

unfoldable pub cycle_args : List ℤ → Result (ℤ × Numbers) Refusal
cycle_args v = cond (ltb list_limit (length v)) (Err TooMany) (Ok (length_of v, numbers (rest_of v)))

-- without a value there is no cycle
abbrev pub cycle_for : ℤ → ℤ → Numbers → Reserve
cycle_for s n v = cond (eqb v.count 0) idle (cycle_over s n v)

-- ---- what a setter of a parameter or of a layer reserves, from its arguments
abbrev pub made_of : List ℤ → Bool → Reserve → Result Reserve Refusal
made_of v ok r = cond (ltb list_limit (length v)) (Err TooMany) (cond ok (Ok r) (Err OutOfRange))

-- starts take the delay
unfoldable pub curve_asked : ℤ → ℤ → List ℤ → Result Reserve Refusal
curve_asked t d v = made_of v (is_time t && is_length d && is_curve v) (curve_from (t +ℤ d) (numbers v))

unfoldable pub cycle_asked : ℤ → ℤ → List ℤ → Result Reserve Refusal
cycle_asked t d v =
    made_of v (is_time t && is_length d && is_length (length_of v) && all is_number (rest_of v))
    (cycle_for (t +ℤ d) (length_of v) (numbers (rest_of v)))

-- on-note lists go round only if the repeat stood when they were set
unfoldable pub notes_asked : ℕ → List ℤ → Result Reserve Refusal
notes_asked p v = made_of v (leb p 1 && all is_number v) (notes_from p (numbers v))

-- a cycle over time of its own; refused, a cycle of zeros
abbrev pub cycle_time : ℤ → ℤ → Numbers → OnCycleTime
cycle_time s n v = record { start = s; length = n; values = v }

abbrev pub no_cycle_time : OnCycleTime
no_cycle_time = cycle_time (pos 0) (pos 0) none

abbrev pub cycle_made : ℤ → ℤ → List ℤ → Result OnCycleTime Refusal
cycle_made s n v =
    cond (ltb list_limit (length v)) (Err TooMany)
    (cond (ok_cycle (cycle_time s n (numbers v))) (Ok (cycle_time s n (numbers v))) (Err OutOfRange))

abbrev pub time_answer : ℕ → OnCycleTime → CycleTimeAnswer
time_answer n c = cond (eqb n 0) (record { code = 0; cycle = c }) (record { code = n; cycle = no_cycle_time })

unfoldable pub new_cycle_time : ℤ → ℤ → List ℤ → CycleTimeAnswer
new_cycle_time s n v = time_answer (list_demand v (demand (ok_cycle (cycle_time s n (numbers v))))) (cycle_time s n (numbers v))
