-- What the setters of a track's own numbers leave passes the test of a track, so that the next call does not refuse it.
use mathlib.Core.Path.{◌≡◌}
use mathlib.Core.Bool.{true}
use Prim.Native.Nat.{ℕ}
use lib.IntN.{ℤ}
use Rattle.numbers.specs.Ranges.{is_time, is_length, is_channel}
use Rattle.state.specs.declared.Track.{Track}
use Rattle.state.specs.Track.{with_play, with_timepos, with_channel, with_cc_freq, with_pb_freq}
use Rattle.state.specs.Tests.{ok_play, ok_track}
use Rattle.state.proofs.Parts.{whole, track-play, track-params, track-layers, track-options, track-tables, track-cycles}
use Rattle.state.proofs.Play.{play-whole, play-timebase, play-time, play-channel, play-ccfreq, play-pbfreq, play-velocity, play-timing, play-octave, play-qlen, play-step}

module _ (a : Track) (e : ok_track a ≡ true) where
  pub kept : (tp ch cf pf ve ti oc ql : ℤ) (st : ℕ) → ok_play (with_play a tp ch cf pf ve ti oc ql st) ≡ true → ok_track (with_play a tp ch cf pf ve ti oc ql st) ≡ true
  kept tp ch cf pf ve ti oc ql st p =
      whole (with_play a tp ch cf pf ve ti oc ql st) p (track-params a e) (track-layers a e) (track-options a e) (track-tables a e) (track-cycles a e)

  p : ok_play a ≡ true
  p = track-play a e

  pub timepos-kept : (x : ℤ) → is_time x ≡ true → ok_track (with_timepos a x) ≡ true
  timepos-kept x h =
      kept x a.channel a.ccfreq a.pbfreq a.velocity a.timing a.octave a.qlen a.step
      (play-whole (with_timepos a x) (play-timebase a p) h (play-channel a p) (play-ccfreq a p) (play-pbfreq a p) (play-velocity a p) (play-timing a p) (play-octave a p) (play-qlen a p) (play-step a p))

  pub channel-kept : (x : ℤ) → is_channel x ≡ true → ok_track (with_channel a x) ≡ true
  channel-kept x h =
      kept a.timepos x a.ccfreq a.pbfreq a.velocity a.timing a.octave a.qlen a.step
      (play-whole (with_channel a x) (play-timebase a p) (play-time a p) h (play-ccfreq a p) (play-pbfreq a p) (play-velocity a p) (play-timing a p) (play-octave a p) (play-qlen a p) (play-step a p))

  pub ccfreq-kept : (x : ℤ) → is_length x ≡ true → ok_track (with_cc_freq a x) ≡ true
  ccfreq-kept x h =
      kept a.timepos a.channel x a.pbfreq a.velocity a.timing a.octave a.qlen a.step
      (play-whole (with_cc_freq a x) (play-timebase a p) (play-time a p) (play-channel a p) h (play-pbfreq a p) (play-velocity a p) (play-timing a p) (play-octave a p) (play-qlen a p) (play-step a p))

  pub pbfreq-kept : (x : ℤ) → is_length x ≡ true → ok_track (with_pb_freq a x) ≡ true
  pbfreq-kept x h =
      kept a.timepos a.channel a.ccfreq x a.velocity a.timing a.octave a.qlen a.step
      (play-whole (with_pb_freq a x) (play-timebase a p) (play-time a p) (play-channel a p) (play-ccfreq a p) h (play-velocity a p) (play-timing a p) (play-octave a p) (play-qlen a p) (play-step a p))
