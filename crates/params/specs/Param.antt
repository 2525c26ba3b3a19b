-- 01, item 4: a note parameter, the ranges of its numbers, and its limits.
use Rattle.std.specs.Prelude.{Bool, cond, ◌&&◌, ℕ, eqb, leb, ℤ, pos, Option, Some, None}
use Rattle.std.specs.Int.Signed.{lt_z}
use Rattle.laws.specs.Integers.{range_of}
use Rattle.numbers.specs.Ranges.{is_number, is_length, is_random, absent_or}
use Rattle.reserved.specs.declared.Reserve.{Reserve}
use Rattle.reserved.specs.Reserve.{ok_reserve, idle}
use Rattle.params.specs.declared.NoteParam.{NoteParam}

abbrev pub param : Reserve → ℤ → ℕ → ℤ → ℤ → ℤ → ℕ → ℤ → ℕ → NoteParam
param r n g l h d m x p =
    record { reserve = r; random = n; ranged = g; low = l; high = h; delay = d; maxed = m; max = x; repeat = p }

abbrev pub with_reserve : NoteParam → Reserve → NoteParam
with_reserve a r = param r a.random a.ranged a.low a.high a.delay a.maxed a.max a.repeat

abbrev pub with_random : NoteParam → ℤ → NoteParam
with_random a n = param a.reserve n a.ranged a.low a.high a.delay a.maxed a.max a.repeat

abbrev pub with_range : NoteParam → ℕ → ℤ → ℤ → NoteParam
with_range a g l h = param a.reserve a.random g l h a.delay a.maxed a.max a.repeat

abbrev pub with_delay : NoteParam → ℤ → NoteParam
with_delay a d = param a.reserve a.random a.ranged a.low a.high d a.maxed a.max a.repeat

abbrev pub with_max : NoteParam → ℕ → ℤ → NoteParam
with_max a m x = param a.reserve a.random a.ranged a.low a.high a.delay m x a.repeat

abbrev pub with_repeat : NoteParam → ℕ → NoteParam
with_repeat a p = param a.reserve a.random a.ranged a.low a.high a.delay a.maxed a.max p

-- nothing reserved, no option set
abbrev pub fresh : NoteParam
fresh = param idle (pos 0) 0 (pos 0) (pos 0) (pos 0) 0 (pos 0) 0

-- ---- 01, "Numbers a caller may hand in"
abbrev pub is_flag : ℕ → Bool
is_flag n = leb n 1

unfoldable pub ok_limits : NoteParam → Bool
ok_limits a =
    is_random a.random && is_flag a.ranged && absent_or a.ranged (is_number a.low && is_number a.high) && is_flag a.maxed
    && absent_or a.maxed (is_number a.max) && is_flag a.repeat

unfoldable pub ok_param : NoteParam → Bool
ok_param a = ok_reserve a.reserve && is_length a.delay && ok_limits a

-- ---- limits: first the range, then the maximum, where there is one
abbrev pub range_for : NoteParam → Option (ℤ × ℤ)
range_for a = cond (eqb a.ranged 0) None (Some (a.low, a.high))

abbrev pub max_for : NoteParam → Option ℤ
max_for a = cond (eqb a.maxed 0) None (Some a.max)

abbrev pub in_range : Option (ℤ × ℤ) → ℤ → ℤ
in_range None v = v
in_range (Some (low, high)) v = range_of low v high

abbrev pub under_max : Option ℤ → ℤ → ℤ
under_max None v = v
under_max (Some top) v = cond (lt_z top v) top v

abbrev pub max_or : Option ℤ → ℤ → ℤ
max_or None def = def
max_or (Some top) def = top

unfoldable pub limited : NoteParam → ℤ → ℤ
limited a v = under_max (max_for a) (in_range (range_for a) v)
