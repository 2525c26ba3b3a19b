-- `dollavir_remove_cc_on_note_wave` is `reserving::remove_cc_on_note_wave`: what it answers and leaves is what that says.
use mir.Facts.{to_z-of_z}
use Rattle.ctrack.proofs.dollavir_remove_cc_on_note_wave.Goals as goal

pub returns : goal.returns
returns c = rw (c.remove_cc_on_note_wave.ensures, to_z-of_z c.ranges.number) at c.leave_track.ensures
