-- `dollavir_set_random` is `drawing::set_random`: what it answers and leaves is what that says.
use mir.Facts.{to_z-of_z}
use Rattle.ctrack.proofs.dollavir_set_random.Goals as goal

pub returns : goal.returns
returns c = rw (c.set_random.ensures, to_z-of_z c.ranges.target, to_z-of_z c.ranges.random) at c.leave_track.ensures
