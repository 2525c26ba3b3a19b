-- `dollavir_set_v_sub_on_note` is `playing::set_v_sub_on_note`: what it answers and leaves is what that says.
use Rattle.ctrack.proofs.dollavir_set_v_sub_on_note.Goals as goal

pub returns : goal.returns
returns c = rw (c.set_v_sub_on_note.ensures) at c.leave_track.ensures
