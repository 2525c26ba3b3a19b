-- `dollavir_set_param_range` is `playing::set_param_range`: what it answers and leaves is what that says.
use mir.Facts.{to_z-of_z}
use Rattle.ctrack.proofs.dollavir_set_param_range.Goals as goal

pub returns : goal.returns
returns c = rw (c.set_param_range.ensures, to_z-of_z c.ranges.low, to_z-of_z c.ranges.high) at c.leave_track.ensures
