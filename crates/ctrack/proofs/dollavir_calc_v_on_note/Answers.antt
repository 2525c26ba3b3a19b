-- `dollavir_calc_v_on_note` is `playing::calc_v_on_note`: what it answers and leaves is what that says.
use mir.Facts.{to_z-of_z}
use Rattle.ctrack.proofs.dollavir_calc_v_on_note.Goals as goal

pub returns : goal.returns
returns c = rw (c.calc_v_on_note.ensures, to_z-of_z c.ranges.def) at c.leave_value.ensures
