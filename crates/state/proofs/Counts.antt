-- A table that passes its test counts at most its places.
use mathlib.Core.Path.{◌≡◌}
use mathlib.Core.Bool.{true}
use Prim.Native.Nat.{◌≤◌}
use Rattle.numbers.specs.Limits.{places}
use Rattle.tables.specs.Sixteen.{ok_sixteen}
use Rattle.tables.specs.declared.NoteTable.{NoteTable}
use Rattle.tables.specs.declared.WaveTable.{WaveTable}
use Rattle.tables.specs.declared.SineTable.{SineTable}
use Rattle.tables.specs.declared.CycleTable.{CycleTable}
use Rattle.cycles.specs.Rules.{ok_cycle}
use Rattle.tables.specs.Reservations.{ok_values, ok_wave, ok_sine}
use Rattle.tables.specs.Tables.{ok_notes, ok_waves, ok_sines, ok_cycles}
use Rattle.tables.proofs.Testing.{counted-few}

pub few-notes : (t : NoteTable) → ok_notes t ≡ true → t.count ≤ places
unfolding ok_sixteen
few-notes t e = counted-few t.count places ok_values t.items e

pub few-waves : (t : WaveTable) → ok_waves t ≡ true → t.count ≤ places
unfolding ok_sixteen
few-waves t e = counted-few t.count places ok_wave t.items e

pub few-sines : (t : SineTable) → ok_sines t ≡ true → t.count ≤ places
unfolding ok_sixteen
few-sines t e = counted-few t.count places ok_sine t.items e

pub few-cycles : (t : CycleTable) → ok_cycles t ≡ true → t.count ≤ places
unfolding ok_sixteen
few-cycles t e = counted-few t.count places ok_cycle t.items e
