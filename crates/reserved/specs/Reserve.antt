-- 01, "Values per note": what a note parameter or a velocity layer has reserved, and what a note takes of it.
use Rattle.std.specs.Prelude.{Bool, cond, ◌&&◌, List, [], ◌∷◌, ℕ, ◌+◌, eqb, leb, ℤ, pos, Option, Some, None}
use Rattle.numbers.specs.Ranges.{is_stored_time, is_length}
use Rattle.counted.specs.declared.Numbers.{Numbers}
use Rattle.counted.specs.Numbers.{none, shown, ok_numbers, got_at}
use Rattle.counted.specs.Curves.{triples, ok_curve}
use Rattle.reserved.specs.declared.OnCycleTime.{OnCycleTime}
use Rattle.reserved.specs.declared.Reserve.{Reserve}
use Rattle.reserved.specs.declared.Taken.{Taken}
use Rattle.reserved.specs.Cycle.{since_of, calc_of}
use Rattle.reserved.specs.Curve.{curve_at}

-- the tags of what is reserved: nothing, a curve, a cycle, values for notes
abbrev pub nothing : ℕ
nothing = 0

abbrev pub on_time : ℕ
on_time = 1

abbrev pub on_cycle : ℕ
on_cycle = 2

abbrev pub on_note : ℕ
on_note = 3

abbrev pub reserved : ℕ → ℕ → ℤ → ℤ → ℕ → Numbers → Reserve
reserved k c s n i v = record { kind = k; cycling = c; start = s; length = n; index = i; values = v }

abbrev pub idle : Reserve
idle = reserved nothing 0 (pos 0) (pos 0) 0 none

abbrev pub curve_from : ℤ → Numbers → Reserve
curve_from s v = reserved on_time 0 s (pos 0) 0 v

abbrev pub cycle_over : ℤ → ℤ → Numbers → Reserve
cycle_over s n v = reserved on_cycle 0 s n 0 v

-- `cycling` is the repeat that stood when the values were set
abbrev pub notes_from : ℕ → Numbers → Reserve
notes_from c v = reserved on_note c (pos 0) (pos 0) 0 v

-- 01, "Numbers a caller may hand in": a stored start, a length, a position of at most the count, a list
unfoldable pub ok_values : ℕ → Numbers → Bool
ok_values k v = cond (eqb k on_time) (ok_curve v) (ok_numbers v)

unfoldable pub ok_reserve : Reserve → Bool
ok_reserve r =
    leb r.kind 3 && leb r.cycling 1 && is_stored_time r.start && is_length r.length && leb r.index r.values.count
    && ok_values r.kind r.values

-- a value, and what is then reserved
abbrev pub taken : ℤ → Reserve → Taken
taken v r = record { value = v; reserve = r }

abbrev pub cycle_of : Reserve → OnCycleTime
cycle_of r = record { start = r.start; length = r.length; values = r.values }

abbrev pub first_or : ℤ → List ℤ → ℤ
first_or def [] = def
first_or def (v ∷ l) = v

-- a curve that is over goes
abbrev pub from_curve : Reserve → ℤ → Option ℤ → Taken
from_curve r def (Some v) = taken v r
from_curve r def None = taken def idle

-- a curve that is yet to begin stays
abbrev pub from_since : Reserve → ℤ → Option ℕ → Taken
from_since r def None = taken def r
from_since r def (Some k) = from_curve r def (curve_at (triples (shown r.values)) k)

-- what a curve or a cycle gives at a time
unfoldable pub timed : Reserve → ℤ → ℤ → Taken
timed r t def =
    cond (eqb r.kind on_cycle) (taken (first_or def (calc_of (cycle_of r) t).values) r)
    (cond (eqb r.kind on_time) (from_since r def (since_of r.start t)) (taken def r))

-- a list that goes round is at its first place again once it is spent
abbrev pub place : Reserve → ℕ
place r = cond (leb r.values.count r.index && eqb r.cycling 1) 0 r.index

abbrev pub from_list : Reserve → ℕ → ℤ → Option ℤ → Taken
from_list r i def (Some v) = taken v (reserved r.kind r.cycling r.start r.length (i + 1) r.values)
from_list r i def None = taken def idle

-- what the next note takes of a list; a spent one goes
unfoldable pub noted : Reserve → ℤ → Taken
noted r def = cond (eqb r.kind on_note) (from_list r (place r) def (got_at r.values (place r))) (taken def r)
