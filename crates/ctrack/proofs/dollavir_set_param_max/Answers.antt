-- `dollavir_set_param_max` is `playing::set_param_max`: what it answers and leaves is what that says.
use mir.Facts.{to_z-of_z}
use Rattle.ctrack.proofs.dollavir_set_param_max.Goals as goal

pub returns : goal.returns
returns c = rw (c.set_param_max.ensures, to_z-of_z c.ranges.max) at c.leave_track.ensures
