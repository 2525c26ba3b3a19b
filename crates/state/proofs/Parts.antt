-- What the test of a track says of its parts, and back.
--     track-play .. track-cycles   the parts
--     whole                        all of them make a track that passes
use mathlib.Core.Path.{◌≡◌}
use mathlib.Core.Bool.{Bool, true, ◌&&◌}
use lib.Dec.{leb}
use Rattle.laws.proofs.Ranges.{left, right}
use Rattle.numbers.specs.Limits.{places}
use Rattle.layers.specs.Layers.{ok_layers}
use Rattle.state.specs.declared.Track.{Track}
use Rattle.state.specs.Tests.{ok_play, ok_params, ok_options, ok_tables, ok_track}

module _ (a : Track) where
  abbrev params : Bool
  params = ok_params a.v a.q a.t a.o a.l

  abbrev tables : Bool
  tables = ok_tables a.notes a.waves a.sines

  abbrev two : Bool
  two = ok_play a && params

  abbrev three : Bool
  three = two && ok_layers a.layers

  abbrev four : Bool
  four = three && ok_options a.options

  abbrev five : Bool
  five = four && tables

  pub whole : ok_play a ≡ true → params ≡ true → ok_layers a.layers ≡ true → ok_options a.options ≡ true → tables ≡ true → leb a.cycles places ≡ true → ok_track a ≡ true
  unfolding ok_track
  whole p q r s t u = rw (p, q, r, s, t, u)

  module _ (e : ok_track a ≡ true) where
    to-five : five ≡ true
    unfolding ok_track
    to-five = left five (leb a.cycles places) e

    to-four : four ≡ true
    to-four = left four tables to-five

    to-three : three ≡ true
    to-three = left three (ok_options a.options) to-four

    to-two : two ≡ true
    to-two = left two (ok_layers a.layers) to-three

    pub track-play : ok_play a ≡ true
    track-play = left (ok_play a) params to-two

    pub track-params : ok_params a.v a.q a.t a.o a.l ≡ true
    track-params = right (ok_play a) params to-two

    pub track-layers : ok_layers a.layers ≡ true
    track-layers = right two (ok_layers a.layers) to-three

    pub track-options : ok_options a.options ≡ true
    track-options = right three (ok_options a.options) to-four

    pub track-tables : ok_tables a.notes a.waves a.sines ≡ true
    track-tables = right four tables to-five

    pub track-cycles : leb a.cycles places ≡ true
    unfolding ok_track
    track-cycles = right five (leb a.cycles places) e
