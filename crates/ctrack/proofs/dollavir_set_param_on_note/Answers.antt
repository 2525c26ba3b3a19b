-- `dollavir_set_param_on_note` is `playing::set_param_on_note`: what it answers and leaves is what that says.
use Rattle.ctrack.proofs.dollavir_set_param_on_note.Goals as goal

pub returns : goal.returns
returns c = rw (c.set_param_on_note.ensures) at c.leave_track.ensures
