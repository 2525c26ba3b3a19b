-- `dollavir_set_v_sub_on_cycle` is `playing::set_v_sub_on_cycle`: what it answers and leaves is what that says.
use Rattle.ctrack.proofs.dollavir_set_v_sub_on_cycle.Goals as goal

pub returns : goal.returns
returns c = rw (c.set_v_sub_on_cycle.ensures) at c.leave_track.ensures
