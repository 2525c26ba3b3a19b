-- 01, "Numbers that come back": what the making of a track and the calls on its own numbers answer and leave.
use Rattle.std.specs.Prelude.{cond, ◌&&◌, ℕ, eqb, ℤ, pos}
use Rattle.laws.specs.Integers.{range_of}
use Rattle.numbers.specs.Ranges.{is_time, is_length, is_channel, is_timebase}
use Rattle.reserved.specs.Setting.{demand}
use Rattle.state.specs.declared.Track.{Track}
use Rattle.state.specs.declared.TrackAnswer.{TrackAnswer}
use Rattle.state.specs.Track.{new_track, with_timepos, with_channel, with_cc_freq, with_pb_freq}
use Rattle.state.specs.Tests.{ok_track}

abbrev pub answer : ℕ → Track → TrackAnswer
answer n a = record { code = n; track = a }

-- what is left by number n: the track b where it is 0, else the one that was given
unfoldable pub answered : ℕ → Track → Track → TrackAnswer
answered n a b = cond (eqb n 0) (answer 0 b) (answer n a)

-- "channel clamped to 0..15 on creation, refused outside it later"
abbrev pub on_channel : ℤ → ℤ
on_channel c = range_of (pos 0) c (pos 15)

-- refused, there is no track to hand back: the one of timebase 0 passes no test
unfoldable pub new_of : ℤ → ℤ → TrackAnswer
new_of b c = answered (demand (is_timebase b)) (new_track (pos 0) (pos 0)) (new_track b (on_channel c))

abbrev pub set_timepos : Track → ℤ → TrackAnswer
set_timepos a x = answered (demand (ok_track a && is_time x)) a (with_timepos a x)

abbrev pub set_channel : Track → ℤ → TrackAnswer
set_channel a x = answered (demand (ok_track a && is_channel x)) a (with_channel a x)

abbrev pub set_cc_freq : Track → ℤ → TrackAnswer
set_cc_freq a x = answered (demand (ok_track a && is_length x)) a (with_cc_freq a x)

abbrev pub set_pb_freq : Track → ℤ → TrackAnswer
set_pb_freq a x = answered (demand (ok_track a && is_length x)) a (with_pb_freq a x)
