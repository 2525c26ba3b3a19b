-- 01, "Numbers a caller may hand in": the four tables of sixteen, and the keys of all their targets.
use Rattle.std.specs.Prelude.{Bool, cond, List, [], ◌∷◌, ◌++◌, ℕ, ◌+◌, ◌*◌, ℤ, pos, length, take, drop}
use Rattle.laws.specs.Lists.{put_first}
use Rattle.laws.specs.Keys.{distinct}
use Rattle.numbers.specs.Limits.{places}
use Rattle.numbers.specs.Ranges.{is_target}
use Rattle.counted.specs.Numbers.{none}
use Rattle.cycles.specs.declared.Cycle.{Cycle}
use Rattle.cycles.specs.Due.{key}
use Rattle.cycles.specs.Rules.{no_cycle, ok_cycle}
use Rattle.tables.specs.declared.OnNoteValues.{OnNoteValues}
use Rattle.tables.specs.declared.OnNoteWave.{OnNoteWave}
use Rattle.tables.specs.declared.OnNoteSine.{OnNoteSine}
use Rattle.tables.specs.declared.SineAnswer.{SineAnswer}
use Rattle.tables.specs.declared.NoteTable.{NoteTable}
use Rattle.tables.specs.declared.WaveTable.{WaveTable}
use Rattle.tables.specs.declared.SineTable.{SineTable}
use Rattle.tables.specs.declared.CycleTable.{CycleTable}
use Rattle.tables.specs.declared.Keys.{Keys}
use Rattle.tables.specs.Reservations.{ok_values, ok_wave, ok_sine}
use Rattle.tables.specs.Sixteen.{keyed, left, ok_sixteen, keys_of}

-- ---- unused places
abbrev pub no_note : OnNoteValues
no_note = record { target = pos 0; index = 0; cycling = 0; values = none }

abbrev pub no_wave : OnNoteWave
no_wave = record { target = pos 0; mode = 0; values = none }

abbrev pub no_sine : OnNoteSine
no_sine = record { target = pos 0; shape = 0; low = pos 0; high = pos 0; length = pos 0; times = pos 0 }

-- ---- what tells a record apart: its target's key
abbrev pub note_key : OnNoteValues → ℕ
note_key e = key e.target

abbrev pub wave_key : OnNoteWave → ℕ
wave_key e = key e.target

abbrev pub sine_key : OnNoteSine → ℕ
sine_key e = key e.target

abbrev pub cycle_key : Cycle → ℕ
cycle_key e = key e.target

-- ---- lists for notes
abbrev pub note_at : ℕ → OnNoteValues → Bool
note_at = keyed note_key

abbrev pub notes_left : NoteTable → ℕ → List OnNoteValues
notes_left t k = left note_key t.count t.items k

abbrev pub notes_without : NoteTable → ℕ → NoteTable
notes_without t k = record { count = length (notes_left t k); items = put_first no_note t.count (notes_left t k) t.items }

abbrev pub notes_with : NoteTable → OnNoteValues → NoteTable
notes_with t e = record { count = t.count + 1; items = put_first no_note t.count (take t.count t.items ++ (e ∷ [])) t.items }

abbrev pub ok_notes : NoteTable → Bool
ok_notes t = ok_sixteen ok_values t.count t.items

abbrev pub note_keys : NoteTable → List ℕ
note_keys t = keys_of note_key t.count t.items

-- ---- waves for notes
abbrev pub wave_at : ℕ → OnNoteWave → Bool
wave_at = keyed wave_key

abbrev pub waves_left : WaveTable → ℕ → List OnNoteWave
waves_left t k = left wave_key t.count t.items k

abbrev pub waves_without : WaveTable → ℕ → WaveTable
waves_without t k = record { count = length (waves_left t k); items = put_first no_wave t.count (waves_left t k) t.items }

abbrev pub waves_with : WaveTable → OnNoteWave → WaveTable
waves_with t e = record { count = t.count + 1; items = put_first no_wave t.count (take t.count t.items ++ (e ∷ [])) t.items }

abbrev pub ok_waves : WaveTable → Bool
ok_waves t = ok_sixteen ok_wave t.count t.items

abbrev pub wave_keys : WaveTable → List ℕ
wave_keys t = keys_of wave_key t.count t.items

-- ---- sines for notes
abbrev pub sine_at : ℕ → OnNoteSine → Bool
sine_at = keyed sine_key

abbrev pub sines_left : SineTable → ℕ → List OnNoteSine
sines_left t k = left sine_key t.count t.items k

abbrev pub sines_without : SineTable → ℕ → SineTable
sines_without t k = record { count = length (sines_left t k); items = put_first no_sine t.count (sines_left t k) t.items }

abbrev pub sines_with : SineTable → OnNoteSine → SineTable
sines_with t e = record { count = t.count + 1; items = put_first no_sine t.count (take t.count t.items ++ (e ∷ [])) t.items }

abbrev pub ok_sines : SineTable → Bool
ok_sines t = ok_sixteen ok_sine t.count t.items

abbrev pub sine_keys : SineTable → List ℕ
sine_keys t = keys_of sine_key t.count t.items

-- a sine of its own; 2 and then 4 give a sine of zeros
abbrev pub sine_of : ℤ → ℕ → ℤ → ℤ → ℤ → ℤ → OnNoteSine
sine_of t s l h n k = record { target = t; shape = s; low = l; high = h; length = n; times = k }

unfoldable pub new_sine : ℤ → ℕ → ℤ → ℤ → ℤ → ℤ → SineAnswer
new_sine t s l h n k =
    cond (is_target t)
    (cond (ok_sine (sine_of t s l h n k)) (record { code = 0; sine = sine_of t s l h n k }) (record { code = 4; sine = no_sine }))
    (record { code = 2; sine = no_sine })

-- ---- cycles
abbrev pub cycle_at : ℕ → Cycle → Bool
cycle_at = keyed cycle_key

abbrev pub cycles_left : CycleTable → ℕ → List Cycle
cycles_left t k = left cycle_key t.count t.items k

abbrev pub cycles_without : CycleTable → ℕ → CycleTable
cycles_without t k = record { count = length (cycles_left t k); items = put_first no_cycle t.count (cycles_left t k) t.items }

abbrev pub cycles_with : CycleTable → Cycle → CycleTable
cycles_with t e = record { count = t.count + 1; items = put_first no_cycle t.count (take t.count t.items ++ (e ∷ [])) t.items }

abbrev pub ok_cycles : CycleTable → Bool
ok_cycles t = ok_sixteen ok_cycle t.count t.items

abbrev pub cycle_keys : CycleTable → List ℕ
cycle_keys t = keys_of cycle_key t.count t.items

-- ---- all four
-- how many keys there may be: four tables of sixteen
abbrev pub key_limit : ℕ
key_limit = 4 * places

abbrev pub keys_shown : Keys → List ℕ
keys_shown a = take a.count a.items

-- the keys gathered so far, and ks behind them
abbrev pub keys_with : Keys → List ℕ → Keys
keys_with a ks = record { count = a.count + length ks; items = take a.count a.items ++ (ks ++ drop (a.count + length ks) a.items) }

-- "a target has at most one reservation over all four kinds, both bends being one target"
unfoldable pub lone : NoteTable → WaveTable → SineTable → CycleTable → Bool
lone n w s c = distinct (note_keys n ++ wave_keys w ++ sine_keys s ++ cycle_keys c)
