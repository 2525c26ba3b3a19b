-- `dollavir_set_param_repeat` is `playing::set_param_repeat`: what it answers and leaves is what that says.
use Rattle.ctrack.proofs.dollavir_set_param_repeat.Goals as goal

pub returns : goal.returns
returns c = rw (c.set_param_repeat.ensures) at c.leave_track.ensures
