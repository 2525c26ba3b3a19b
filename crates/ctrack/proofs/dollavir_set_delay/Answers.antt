-- `dollavir_set_delay` is `drawing::set_delay`: what it answers and leaves is what that says.
use mir.Facts.{to_z-of_z}
use Rattle.ctrack.proofs.dollavir_set_delay.Goals as goal

pub returns : goal.returns
returns c = rw (c.set_delay.ensures, to_z-of_z c.ranges.target, to_z-of_z c.ranges.delay) at c.leave_track.ensures
