-- `dollavir_clear_range` is `drawing::clear_range`: what it answers and leaves is what that says.
use mir.Facts.{to_z-of_z}
use Rattle.ctrack.proofs.dollavir_clear_range.Goals as goal

pub returns : goal.returns
returns c = rw (c.clear_range.ensures, to_z-of_z c.ranges.target) at c.leave_track.ensures
