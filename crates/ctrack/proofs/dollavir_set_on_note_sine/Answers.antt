-- `dollavir_set_on_note_sine` is `loans::set_on_note_sine`: what it answers and leaves is what that says.
use mir.Facts.{to_z-of_z}
use Rattle.ctrack.proofs.dollavir_set_on_note_sine.Goals as goal

pub returns : goal.returns
returns c =
    let e = rw (to_z-of_z c.ranges.target) at c.set_on_note_sine.ensures in
    let t = rw (e.answer) at c.leave_track.ensures in
    record { code = t.code; track = t.track; cycles = e.left }
