-- `dollavir_set_timepos` is `state::set_timepos`: what it answers and leaves is what that says.
use mir.Facts.{to_z-of_z}
use Rattle.ctrack.proofs.dollavir_set_timepos.Goals as goal

pub returns : goal.returns
returns c = rw (c.set_timepos.ensures, to_z-of_z c.ranges.timepos) at c.leave_track.ensures
