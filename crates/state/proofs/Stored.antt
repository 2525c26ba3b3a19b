-- What the tables of a track that passes its test hold: each passes its own, and counts at most its places.
use mathlib.Core.Path.{◌≡◌}
use mathlib.Core.Bool.{Bool, true, ◌&&◌}
use Prim.Native.Nat.{◌≤◌}
use Rattle.laws.proofs.Ranges.{left, right}
use Rattle.numbers.specs.Limits.{places}
use Rattle.tables.specs.Tables.{ok_notes, ok_waves, ok_sines, lone}
use Rattle.state.specs.declared.Track.{Track}
use Rattle.state.specs.Track.{no_cycles}
use Rattle.state.specs.Tests.{ok_tables, ok_track}
use Rattle.state.proofs.Parts.{track-tables}
use Rattle.state.proofs.Counts.{few-notes, few-waves, few-sines}

module _ (a : Track) (e : ok_track a ≡ true) where
  abbrev notes : Bool
  notes = ok_notes a.notes

  abbrev waves : Bool
  waves = ok_waves a.waves

  abbrev sines : Bool
  sines = ok_sines a.sines

  three : (notes && waves && sines) ≡ true
  unfolding ok_tables
  three = left (notes && waves && sines) (lone a.notes a.waves a.sines no_cycles) (track-tables a e)

  pub stored-lone : lone a.notes a.waves a.sines no_cycles ≡ true
  unfolding ok_tables
  stored-lone = right (notes && waves && sines) (lone a.notes a.waves a.sines no_cycles) (track-tables a e)

  pub stored-sines : ok_sines a.sines ≡ true
  stored-sines = right (notes && waves) sines three

  pub stored-waves : ok_waves a.waves ≡ true
  stored-waves = right notes waves (left (notes && waves) sines three)

  pub stored-notes : ok_notes a.notes ≡ true
  stored-notes = left notes waves (left (notes && waves) sines three)

  pub notes-few : a.notes.count ≤ places
  notes-few = few-notes a.notes stored-notes

  pub waves-few : a.waves.count ≤ places
  waves-few = few-waves a.waves stored-waves

  pub sines-few : a.sines.count ≤ places
  sines-few = few-sines a.sines stored-sines
