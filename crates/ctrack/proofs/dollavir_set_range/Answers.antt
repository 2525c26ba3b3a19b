-- `dollavir_set_range` is `drawing::set_range`: what it answers and leaves is what that says.
use mir.Facts.{to_z-of_z}
use Rattle.ctrack.proofs.dollavir_set_range.Goals as goal

pub returns : goal.returns
returns c = rw (c.set_range.ensures, to_z-of_z c.ranges.target, to_z-of_z c.ranges.low, to_z-of_z c.ranges.high) at c.leave_track.ensures
