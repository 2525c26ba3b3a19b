-- `dollavir_set_param_on_time` is `playing::set_param_on_time`: what it answers and leaves is what that says.
use Rattle.ctrack.proofs.dollavir_set_param_on_time.Goals as goal

pub returns : goal.returns
returns c = rw (c.set_param_on_time.ensures) at c.leave_track.ensures
