-- `dollavir_remove_cc_on_note` is `reserving::remove_cc_on_note`: what it answers and leaves is what that says.
use mir.Facts.{to_z-of_z}
use Rattle.ctrack.proofs.dollavir_remove_cc_on_note.Goals as goal

pub returns : goal.returns
returns c = rw (c.remove_cc_on_note.ensures, to_z-of_z c.ranges.number) at c.leave_track.ensures
