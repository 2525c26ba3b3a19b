-- 01, "Values per note" and "Numbers that come back": what each call on a parameter answers and leaves. The tests give the
-- number, and by it the answer is chosen; refused, the parameter is the one that was given.
use Rattle.std.specs.Prelude.{Bool, cond, ◌&&◌, List, ℕ, eqb, ℤ, pos, ◌+ℤ◌, Option, Some, None, Result, Ok, Err}
use Rattle.laws.specs.Lists.{all}
use Rattle.numbers.specs.Ranges.{is_time, is_number, is_length, is_random}
use Rattle.numbers.specs.Refusals.{number_of}
use Rattle.numbers.specs.declared.refusals.Refusal.{Refusal}
use Rattle.counted.specs.Numbers.{numbers}
use Rattle.counted.specs.Curves.{is_curve}
use Rattle.reserved.specs.declared.Reserve.{Reserve}
use Rattle.reserved.specs.declared.Taken.{Taken}
use Rattle.reserved.specs.Reserve.{idle, curve_from, notes_from, timed, noted}
use Rattle.reserved.specs.Setting.{demand, list_demand, length_of, rest_of, cycle_for}
use Rattle.params.specs.declared.NoteParam.{NoteParam}
use Rattle.params.specs.declared.ParamAnswer.{ParamAnswer}
use Rattle.params.specs.declared.ParamValue.{ParamValue}
use Rattle.params.specs.declared.Told.{Told}
use Rattle.params.specs.Param.{with_reserve, with_random, with_range, with_delay, with_max, with_repeat, is_flag, ok_param, limited, max_for, max_or}

-- what is left by number n: the parameter b where it is 0
unfoldable pub answered : ℕ → NoteParam → NoteParam → ParamAnswer
answered n a b = cond (eqb n 0) (record { code = 0; param = b }) (record { code = n; param = a })

-- the same with the value that was taken
unfoldable pub given : ℕ → NoteParam → Taken → ParamValue
given n a t =
    cond (eqb n 0) (record { code = 0; value = t.value; param = with_reserve a t.reserve }) (record { code = n; value = pos 0; param = a })

unfoldable pub told : ℕ → ℤ → Told
told n v = cond (eqb n 0) (record { code = 0; value = v }) (record { code = n; value = pos 0 })

-- by whether the parameter is in range, and what is to be reserved or why it is not; by what a note took, or 4
abbrev pub reserving : Bool → NoteParam → Result Reserve Refusal → ParamAnswer
reserving ok a (Ok r) = answered (demand ok) a (with_reserve a r)
reserving ok a (Err e) = record { code = number_of e; param = a }

abbrev pub taking : NoteParam → Option Taken → ParamValue
taking a (Some t) = record { code = 0; value = t.value; param = with_reserve a t.reserve }
taking a None = record { code = 4; value = pos 0; param = a }

-- ---- reserving: starts take the delay; on-note lists go round only if repeat stood when they were set
abbrev pub clear_reserve : NoteParam → ParamAnswer
clear_reserve a = answered (demand (ok_param a)) a (with_reserve a idle)

abbrev pub set_on_time : NoteParam → ℤ → List ℤ → ParamAnswer
set_on_time a t v =
    answered (list_demand v (demand (ok_param a && is_time t && is_curve v))) a (with_reserve a (curve_from (t +ℤ a.delay) (numbers v)))

abbrev pub set_on_cycle : NoteParam → ℤ → List ℤ → ParamAnswer
set_on_cycle a t v =
    answered (list_demand v (demand (ok_param a && is_time t && is_length (length_of v) && all is_number (rest_of v)))) a
    (with_reserve a (cycle_for (t +ℤ a.delay) (length_of v) (numbers (rest_of v))))

abbrev pub set_on_note : NoteParam → List ℤ → ParamAnswer
set_on_note a v =
    answered (list_demand v (demand (ok_param a && all is_number v))) a (with_reserve a (notes_from a.repeat (numbers v)))

-- ---- taking: the parameter comes back advanced
abbrev pub calc_on_time : NoteParam → ℤ → ℤ → ParamValue
calc_on_time a t def = given (demand (ok_param a && is_time t && is_number def)) a (timed a.reserve t def)

abbrev pub calc_on_note : NoteParam → ℤ → ParamValue
calc_on_note a def = given (demand (ok_param a && is_number def)) a (noted a.reserve def)

-- ---- asking
abbrev pub has_reserve : NoteParam → Told
has_reserve a = told (demand (ok_param a)) (cond (eqb a.reserve.kind 0) (pos 0) (pos 1))

abbrev pub apply_limit : NoteParam → ℤ → Told
apply_limit a v = told (demand (ok_param a && is_number v)) (limited a v)

abbrev pub maximum_or : NoteParam → ℤ → Told
maximum_or a def = told (demand (ok_param a && is_number def)) (max_or (max_for a) def)

-- ---- options
abbrev pub set_random : NoteParam → ℤ → ParamAnswer
set_random a n = answered (demand (ok_param a && is_random n)) a (with_random a n)

abbrev pub set_range : NoteParam → ℤ → ℤ → ParamAnswer
set_range a l h = answered (demand (ok_param a && is_number l && is_number h)) a (with_range a 1 l h)

abbrev pub clear_range : NoteParam → ParamAnswer
clear_range a = answered (demand (ok_param a)) a (with_range a 0 (pos 0) (pos 0))

abbrev pub set_delay : NoteParam → ℤ → ParamAnswer
set_delay a d = answered (demand (ok_param a && is_length d)) a (with_delay a d)

abbrev pub set_max : NoteParam → ℤ → ParamAnswer
set_max a x = answered (demand (ok_param a && is_number x)) a (with_max a 1 x)

abbrev pub clear_max : NoteParam → ParamAnswer
clear_max a = answered (demand (ok_param a)) a (with_max a 0 (pos 0))

abbrev pub set_repeat : NoteParam → ℕ → ParamAnswer
set_repeat a p = answered (demand (ok_param a && is_flag p)) a (with_repeat a p)
