-- `dollavir_set_repeat` is `drawing::set_repeat`: what it answers and leaves is what that says.
use mir.Facts.{to_z-of_z}
use Rattle.ctrack.proofs.dollavir_set_repeat.Goals as goal

pub returns : goal.returns
returns c = rw (c.set_repeat.ensures, to_z-of_z c.ranges.target) at c.leave_track.ensures
