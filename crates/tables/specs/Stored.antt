-- The tables that a track holds.
use Rattle.std.specs.Prelude.{Bool, ◌&&◌, ◌++◌}
use Rattle.laws.specs.Keys.{distinct}
use Rattle.tables.specs.declared.NoteTable.{NoteTable}
use Rattle.tables.specs.declared.WaveTable.{WaveTable}
use Rattle.tables.specs.declared.SineTable.{SineTable}
use Rattle.tables.specs.Tables.{ok_notes, ok_waves, ok_sines, note_keys, wave_keys, sine_keys}

-- "sixteen reservations of each kind; a target has at most one reservation": over these three kinds
unfoldable pub ok_stored : NoteTable → WaveTable → SineTable → Bool
ok_stored n w s = ok_notes n && ok_waves w && ok_sines s && distinct (note_keys n ++ wave_keys w ++ sine_keys s)
