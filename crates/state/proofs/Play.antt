-- What the test of a track's own numbers says of each, and back.
--     play-timebase .. play-step   each
--     play-whole                   all ten make numbers that pass
use mathlib.Core.Path.{◌≡◌}
use mathlib.Core.Bool.{Bool, true, ◌&&◌}
use Rattle.laws.proofs.Ranges.{left, right}
use Rattle.numbers.specs.Ranges.{is_time, is_number, is_length, is_channel, is_timebase}
use Rattle.params.specs.Param.{is_flag}
use Rattle.state.specs.declared.Track.{Track}
use Rattle.state.specs.Tests.{ok_play}

module _ (a : Track) where
  abbrev two : Bool
  two = is_timebase a.timebase && is_time a.timepos

  abbrev three : Bool
  three = two && is_channel a.channel

  abbrev four : Bool
  four = three && is_length a.ccfreq

  abbrev five : Bool
  five = four && is_length a.pbfreq

  abbrev six : Bool
  six = five && is_number a.velocity

  abbrev seven : Bool
  seven = six && is_number a.timing

  abbrev eight : Bool
  eight = seven && is_number a.octave

  abbrev nine : Bool
  nine = eight && is_number a.qlen

  pub play-whole : is_timebase a.timebase ≡ true → is_time a.timepos ≡ true → is_channel a.channel ≡ true → is_length a.ccfreq ≡ true → is_length a.pbfreq ≡ true → is_number a.velocity ≡ true → is_number a.timing ≡ true → is_number a.octave ≡ true → is_number a.qlen ≡ true → is_flag a.step ≡ true → ok_play a ≡ true
  unfolding ok_play
  play-whole b t c d e f g h i j = rw (b, t, c, d, e, f, g, h, i, j)

  module _ (e : ok_play a ≡ true) where
    to-nine : nine ≡ true
    unfolding ok_play
    to-nine = left nine (is_flag a.step) e

    to-eight : eight ≡ true
    to-eight = left eight (is_number a.qlen) to-nine

    to-seven : seven ≡ true
    to-seven = left seven (is_number a.octave) to-eight

    to-six : six ≡ true
    to-six = left six (is_number a.timing) to-seven

    to-five : five ≡ true
    to-five = left five (is_number a.velocity) to-six

    to-four : four ≡ true
    to-four = left four (is_length a.pbfreq) to-five

    to-three : three ≡ true
    to-three = left three (is_length a.ccfreq) to-four

    to-two : two ≡ true
    to-two = left two (is_channel a.channel) to-three

    pub play-timebase : is_timebase a.timebase ≡ true
    play-timebase = left (is_timebase a.timebase) (is_time a.timepos) to-two

    pub play-time : is_time a.timepos ≡ true
    play-time = right (is_timebase a.timebase) (is_time a.timepos) to-two

    pub play-channel : is_channel a.channel ≡ true
    play-channel = right two (is_channel a.channel) to-three

    pub play-ccfreq : is_length a.ccfreq ≡ true
    play-ccfreq = right three (is_length a.ccfreq) to-four

    pub play-pbfreq : is_length a.pbfreq ≡ true
    play-pbfreq = right four (is_length a.pbfreq) to-five

    pub play-velocity : is_number a.velocity ≡ true
    play-velocity = right five (is_number a.velocity) to-six

    pub play-timing : is_number a.timing ≡ true
    play-timing = right six (is_number a.timing) to-seven

    pub play-octave : is_number a.octave ≡ true
    play-octave = right seven (is_number a.octave) to-eight

    pub play-qlen : is_number a.qlen ≡ true
    play-qlen = right eight (is_number a.qlen) to-nine

    pub play-step : is_flag a.step ≡ true
    unfolding ok_play
    play-step = right nine (is_flag a.step) e
