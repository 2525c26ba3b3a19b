-- 01, "Numbers a caller may hand in": what may be stored for a target's notes.
use Rattle.std.specs.Prelude.{Bool, not, ◌&&◌, ◌||◌, ℕ, leb, eqb, pos}
use Rattle.std.specs.Int.Signed.{lt_z}
use Rattle.laws.specs.Lists.{all}
use Rattle.numbers.specs.Ranges.{is_target, is_sine_end, is_length}
use Rattle.counted.specs.Numbers.{shown, ok_numbers}
use Rattle.counted.specs.Curves.{Triple, triples, ok_curve}
use Rattle.tables.specs.declared.OnNoteValues.{OnNoteValues}
use Rattle.tables.specs.declared.OnNoteWave.{OnNoteWave}
use Rattle.tables.specs.declared.OnNoteSine.{OnNoteSine}

-- the modes of a wave: Normal 0, Expand 1, Repeat 2
abbrev pub expand : ℕ
expand = 1

abbrev pub repeat : ℕ
repeat = 2

-- "a stored list's position is 0 to its count"
unfoldable pub ok_values : OnNoteValues → Bool
ok_values e = is_target e.target && leb e.index e.values.count && leb e.cycling 1 && ok_numbers e.values

unfoldable pub forward : Triple → Bool
forward t = not (lt_z t.length (pos 0))

-- "in wave lists the third of each triple within ±2^20; an Expand wave's lengths are 0 or more"
unfoldable pub ok_wave : OnNoteWave → Bool
ok_wave e =
    ok_curve e.values
    && (is_target e.target && leb e.mode repeat && (not (eqb e.mode expand) || all forward (triples (shown e.values))))

-- "low and high within ±16,383; length and times within ±2^20"
unfoldable pub ok_sine : OnNoteSine → Bool
ok_sine e =
    is_target e.target && leb e.shape 2 && is_sine_end e.low && is_sine_end e.high && is_length e.length
    && is_length e.times
