-- `dollavir_set_pb_on_time_freq` is `state::set_pb_on_time_freq`: what it answers and leaves is what that says.
use mir.Facts.{to_z-of_z}
use Rattle.ctrack.proofs.dollavir_set_pb_on_time_freq.Goals as goal

pub returns : goal.returns
returns c = rw (c.set_pb_on_time_freq.ensures, to_z-of_z c.ranges.freq) at c.leave_track.ensures
