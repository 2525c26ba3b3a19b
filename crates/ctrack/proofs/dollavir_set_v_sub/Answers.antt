-- `dollavir_set_v_sub` is `playing::set_v_sub`: what it answers and leaves is what that says.
use mir.Facts.{to_z-of_z}
use Rattle.ctrack.proofs.dollavir_set_v_sub.Goals as goal

pub returns : goal.returns
returns c = rw (c.set_v_sub.ensures, to_z-of_z c.ranges.velocity) at c.leave_track.ensures
