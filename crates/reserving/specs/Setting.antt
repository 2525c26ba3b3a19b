-- 01, item 7: the setters of a target's reservations. Each says when its numbers are allowed (4), whether a place is left (6)
-- and what it puts there; the rest is one definition (Clearing).
use Rattle.std.specs.Prelude.{Bool, true, cond, ◌&&◌, ◌||◌, List, ℕ, eqb, leb, ltb, ℤ, pos, length}
use Rattle.std.specs.Int.Signed.{le_z}
use Rattle.numbers.specs.Limits.{list_limit, places}
use Rattle.numbers.specs.Ranges.{is_length}
use Rattle.counted.specs.declared.Numbers.{Numbers}
use Rattle.counted.specs.Numbers.{numbers, ok_numbers}
use Rattle.cycles.specs.declared.Cycle.{Cycle}
use Rattle.cycles.specs.Due.{key}
use Rattle.cycles.specs.Turns.{option_of}
use Rattle.tables.specs.declared.OnNoteValues.{OnNoteValues}
use Rattle.tables.specs.declared.OnNoteWave.{OnNoteWave}
use Rattle.tables.specs.declared.OnNoteSine.{OnNoteSine}
use Rattle.tables.specs.Reservations.{ok_values, ok_wave, ok_sine}
use Rattle.tables.specs.Tables.{notes_with, waves_with, sines_with, cycles_with}
use Rattle.state.specs.declared.Track.{Track}
use Rattle.state.specs.Track.{cycles_of, with_tables}
use Rattle.reserving.specs.declared.Kept.{Kept}
use Rattle.reserving.specs.Clearing.{answer, reserving, freed}

-- "a list has at most 192 numbers" (02, c)
abbrev pub is_short : List ℤ → Bool
is_short v = leb (length v) list_limit

-- ---- what is put in
-- a list goes round if repeat "stands now (for target reservations)": it takes over the repeat of the target's option
abbrev pub repeat_of : Track → ℤ → ℕ
repeat_of a target = (option_of a.options target).repeat

abbrev pub note_of : ℤ → ℕ → Numbers → OnNoteValues
note_of target n v = record { target = target; index = 0; cycling = n; values = v }

abbrev pub wave_of : ℤ → ℕ → Numbers → OnNoteWave
wave_of target mode v = record { target = target; mode = mode; values = v }

-- the first write stands at the track's own time, the delay being added to a write
abbrev pub cycle_of : ℤ → ℤ → ℤ → Numbers → Cycle
cycle_of target n t v = record { target = target; length = n; next = t; index = 0; values = v }

-- ---- where: "sixteen reservations of each kind"
abbrev pub note_room : Kept → Bool
note_room f = ltb f.track.notes.count places

abbrev pub wave_room : Kept → Bool
wave_room f = ltb f.track.waves.count places

abbrev pub sine_room : Kept → Bool
sine_room f = ltb f.track.sines.count places

abbrev pub cycle_room : Kept → Bool
cycle_room f = ltb f.track.cycles places

abbrev pub with_note : OnNoteValues → Kept → Kept
with_note e f =
    let a = f.track in
    answer 0 (with_tables a (notes_with a.notes e) a.waves a.sines a.cycles) f.cycles

abbrev pub with_wave : OnNoteWave → Kept → Kept
with_wave e f =
    let a = f.track in
    answer 0 (with_tables a a.notes (waves_with a.waves e) a.sines a.cycles) f.cycles

abbrev pub with_sine : OnNoteSine → Kept → Kept
with_sine e f =
    let a = f.track in
    answer 0 (with_tables a a.notes a.waves (sines_with a.sines e) a.cycles) f.cycles

abbrev pub with_cycle : Cycle → Kept → Kept
with_cycle e f =
    let a = f.track in
    let c = cycles_with (cycles_of a f.cycles) e in
    answer 0 (with_tables a a.notes a.waves a.sines c.count) c.items

-- ---- the calls
unfoldable pub remove_reserve : Track → ℕ → List Cycle → ℤ → Kept
remove_reserve a size cs target = freed a size cs target true true

unfoldable pub set_on_note : Track → ℕ → List Cycle → ℤ → List ℤ → Kept
set_on_note a size cs target v =
    let e = note_of target (repeat_of a target) (numbers v) in
    reserving a size cs target (is_short v) (ok_values e) note_room (with_note e)

-- "an Expand wave's lengths are 0 or more"; any other mode than the three is none
unfoldable pub set_on_note_wave : Track → ℕ → List Cycle → ℤ → ℕ → List ℤ → Kept
set_on_note_wave a size cs target mode v =
    let e = wave_of target mode (numbers v) in
    reserving a size cs target (is_short v) (ok_wave e) wave_room (with_wave e)

-- "a sine names the target it is set for", "both bends being one target"
unfoldable pub set_on_note_sine : Track → ℕ → List Cycle → ℤ → OnNoteSine → Kept
set_on_note_sine a size cs target e =
    reserving a size cs target true (ok_sine e && eqb (key e.target) (key target)) sine_room (with_sine e)

-- "length 0 or less, or no data, only removes it"
abbrev pub only_removes : ℤ → Numbers → Bool
only_removes n v = le_z n (pos 0) || eqb v.count 0

unfoldable pub set_on_cycle : Track → ℕ → List Cycle → ℤ → ℤ → List ℤ → Kept
set_on_cycle a size cs target n v =
    let e = cycle_of target n a.timepos (numbers v) in
    let gone = only_removes n (numbers v) in
    reserving a size cs target (is_short v) (is_length n && ok_numbers (numbers v)) (λ (f : Kept). gone || cycle_room f)
    (λ (f : Kept). cond gone f (with_cycle e f))
