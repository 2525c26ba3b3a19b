-- A track that was made passes the test of a track, whatever its channel; the one that a refusal hands back does not.
use mathlib.Core.Path.{◌≡◌, refl}
use mathlib.Core.Bool.{true, false}
use lib.IntN.{ℤ, pos}
use Rattle.laws.specs.Integers.{inside, sized}
use Rattle.laws.specs.Keys.{distinct}
use Rattle.laws.specs.Lists.{all, counted}
use Rattle.numbers.specs.Ranges.{is_time, is_stored_time, is_number, is_length, is_random, is_channel, is_timebase}
use Rattle.counted.specs.Numbers.{ok_numbers}
use Rattle.reserved.specs.Reserve.{ok_values, ok_reserve}
use Rattle.params.specs.Param.{fresh, ok_limits, ok_param}
use Rattle.params.proofs.Limits.{range_inside}
use Rattle.layers.specs.Layers.{one_layer, ok_layer, ok_layers}
use Rattle.values.specs.Options.{ok_option}
use Rattle.tables.specs.Sixteen.{ok_sixteen}
use Rattle.tables.specs.Tables.{ok_notes, ok_waves, ok_sines, lone}
use Rattle.state.specs.Track.{no_notes, no_waves, no_sines, new_track}
use Rattle.state.specs.Tests.{ok_play, ok_params, ok_options, ok_tables, ok_track}
use Rattle.state.specs.Calls.{on_channel}
use Rattle.state.proofs.Parts.{whole}

fresh_ok : ok_param fresh ≡ true
unfolding ok_param ok_reserve ok_values ok_numbers counted all ok_limits is_stored_time is_length is_random is_number sized inside
fresh_ok = refl

channel-ok : (c : ℤ) → is_channel (on_channel c) ≡ true
unfolding is_channel
channel-ok c = range_inside (pos 0) c (pos 15) refl

module _ (b c : ℤ) (e : is_timebase b ≡ true) where
  play-ok : ok_play (new_track b (on_channel c)) ≡ true
  unfolding ok_play new_track is_time is_length is_number sized inside
  play-ok = rw (e, channel-ok c)

params_ok : ok_params fresh fresh fresh fresh fresh ≡ true
unfolding ok_params
params_ok = rw fresh_ok

layers-ok : ok_layers one_layer ≡ true
unfolding ok_layers counted all ok_layer ok_reserve ok_values ok_numbers is_stored_time is_length is_random is_number sized inside
layers-ok = refl

options-ok : ok_options (new_track (pos 0) (pos 0)).options ≡ true
unfolding ok_options new_track all ok_option is_length is_random sized inside
options-ok = refl

tables-ok : ok_tables no_notes no_waves no_sines ≡ true
unfolding ok_tables ok_sixteen counted all lone distinct
tables-ok = refl

-- 01, "Numbers a caller may hand in": "timebase 1 to 32,767, channel clamped to 0..15 on creation"
pub new-passes : (b c : ℤ) → is_timebase b ≡ true → ok_track (new_track b (on_channel c)) ≡ true
unfolding new_track
new-passes b c e = whole (new_track b (on_channel c)) (play-ok b c e) params_ok layers-ok options-ok tables-ok refl

pub refused-fails : ok_track (new_track (pos 0) (pos 0)) ≡ false
unfolding ok_track ok_play new_track is_timebase inside
refused-fails = refl
