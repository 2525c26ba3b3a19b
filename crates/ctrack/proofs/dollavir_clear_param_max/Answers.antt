-- `dollavir_clear_param_max` is `playing::clear_param_max`: what it answers and leaves is what that says.
use Rattle.ctrack.proofs.dollavir_clear_param_max.Goals as goal

pub returns : goal.returns
returns c = rw (c.clear_param_max.ensures) at c.leave_track.ensures
