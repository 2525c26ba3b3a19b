-- 01, "Forms that must change": "one setter per field" of a target's option; "both bends share one option".
use Rattle.std.specs.Prelude.{Bool, true, cond, ◌&&◌, map, ℕ, eqb, leb, ℤ, pos, get_or, set}
use Rattle.laws.specs.Lists.{over}
use Rattle.numbers.specs.Ranges.{is_target, is_number, is_length, is_random}
use Rattle.reserved.specs.Setting.{demand}
use Rattle.values.specs.declared.WriteOption.{WriteOption}
use Rattle.values.specs.Options.{new_option}
use Rattle.cycles.specs.Due.{key}
use Rattle.tables.specs.declared.OnNoteValues.{OnNoteValues}
use Rattle.tables.specs.declared.NoteTable.{NoteTable}
use Rattle.tables.specs.Tables.{note_at}
use Rattle.state.specs.declared.Track.{Track}
use Rattle.state.specs.declared.TrackAnswer.{TrackAnswer}
use Rattle.state.specs.Track.{with_options, with_tables}
use Rattle.state.specs.Tests.{ok_track}
use Rattle.state.specs.Calls.{answered}
use Rattle.drawing.specs.declared.OptionAnswer.{OptionAnswer}

-- 2, then 4
abbrev pub for_target : ℤ → Bool → ℕ
for_target target well = cond (is_target target) (demand well) 2

unfoldable pub target_refusal : Track → ℤ → Bool → ℕ
target_refusal a target ok = for_target target (ok_track a && ok)

-- ---- the option of a target, and the track with another one
unfoldable pub option_of : Track → ℤ → WriteOption
option_of a target = get_or a.options (key target) new_option

unfoldable pub with_option : Track → ℤ → WriteOption → Track
with_option a target o = with_options a (set a.options (key target) o)

-- refused, there is none to hand out: nothing is set in the one that comes
abbrev pub answer_option : ℕ → WriteOption → OptionAnswer
answer_option n o = record { code = n; option = cond (eqb n 0) o new_option }

unfoldable pub option_for : Track → ℤ → OptionAnswer
option_for a target = answer_option (target_refusal a target true) (option_of a target)

-- what every setter leaves: the target's option is o, where what was handed in is allowed
unfoldable pub left : Track → ℤ → WriteOption → Bool → TrackAnswer
left a target o ok = answered (target_refusal a target ok) a (with_option a target o)

-- ---- an option with one thing changed
abbrev pub with_delay : WriteOption → ℤ → WriteOption
with_delay o x = record { delay = x; random = o.random; ranged = o.ranged; low = o.low; high = o.high; repeat = o.repeat }

abbrev pub with_random : WriteOption → ℤ → WriteOption
with_random o x = record { delay = o.delay; random = x; ranged = o.ranged; low = o.low; high = o.high; repeat = o.repeat }

abbrev pub with_range : WriteOption → ℕ → ℤ → ℤ → WriteOption
with_range o n low high = record { delay = o.delay; random = o.random; ranged = n; low = low; high = high; repeat = o.repeat }

abbrev pub with_repeat : WriteOption → ℕ → WriteOption
with_repeat o n = record { delay = o.delay; random = o.random; ranged = o.ranged; low = o.low; high = o.high; repeat = n }

-- ---- the setters
-- "delay ±2^20; random at most 2^20; range ends ±2^22"; "a range may be absent"
abbrev pub set_delay : Track → ℤ → ℤ → TrackAnswer
set_delay a target x = left a target (with_delay (option_of a target) x) (is_length x)

abbrev pub set_random : Track → ℤ → ℤ → TrackAnswer
set_random a target x = left a target (with_random (option_of a target) x) (is_random x)

abbrev pub set_range : Track → ℤ → ℤ → ℤ → TrackAnswer
set_range a target low high = left a target (with_range (option_of a target) 1 low high) (is_number low && is_number high)

abbrev pub clear_range : Track → ℤ → TrackAnswer
clear_range a target = left a target (with_range (option_of a target) 0 (pos 0) (pos 0)) true

-- ---- repeat, which "stands now (for target reservations)": the list that is stored for the target follows it
unfoldable pub turned : ℕ → ℕ → OnNoteValues → OnNoteValues
turned k n e = record { target = e.target; index = e.index; cycling = cond (note_at k e) n e.cycling; values = e.values }

unfoldable pub notes_turned : NoteTable → ℕ → ℕ → NoteTable
notes_turned t k n = record { count = t.count; items = over t.items (map (turned k n) t.items) t.count }

abbrev pub with_repeating : Track → ℤ → ℕ → Track
with_repeating a target n =
    with_tables (with_option a target (with_repeat (option_of a target) n)) (notes_turned a.notes (key target) n) a.waves a.sines a.cycles

unfoldable pub set_repeat : Track → ℤ → ℕ → TrackAnswer
set_repeat a target n = answered (target_refusal a target (leb n 1)) a (with_repeating a target n)
