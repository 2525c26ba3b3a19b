-- `tables_ok` asks the tables at once. A cycle table that holds nothing adds no key.
use mathlib.Core.Path.{◌≡◌, sym, ap, ◌∙◌}
use mathlib.Core.Bool.{◌&&◌}
use mathlib.Core.List.{List, ◌++◌, append-nil}
use Prim.Native.Nat.{ℕ}
use Rattle.laws.specs.Keys.{distinct}
use Rattle.tables.specs.declared.NoteTable.{NoteTable}
use Rattle.tables.specs.declared.WaveTable.{WaveTable}
use Rattle.tables.specs.declared.SineTable.{SineTable}
use Rattle.tables.specs.Tables.{ok_notes, ok_waves, ok_sines, note_keys, wave_keys, sine_keys, lone}
use Rattle.tables.specs.Stored.{ok_stored}
use Rattle.state.specs.Tests.{ok_tables}
use Rattle.state.proofs.tables_ok.Goals as goal

stored-tables : (n : NoteTable) (w : WaveTable) (s : SineTable) → ok_stored n w s ≡ ok_tables n w s
unfolding ok_stored ok_tables lone
stored-tables n w s =
    ap (λ (l : List ℕ). ok_notes n && ok_waves w && ok_sines s && distinct l) (sym (append-nil (note_keys n ++ wave_keys w ++ sine_keys s)))

pub returns : goal.returns
returns c =
    let a = c.args in
    c.stored_ok.ensures ∙ stored-tables a.notes a.waves a.sines
