-- `dollavir_remove_pb_on_note_wave` is `loans::remove_reserve`: what it answers and leaves is what that says.
use Rattle.ctrack.proofs.dollavir_remove_pb_on_note_wave.Goals as goal

pub returns : goal.returns
returns c =
    let e = c.remove_reserve.ensures in
    let t = rw (e.answer) at c.leave_track.ensures in
    record { code = t.code; track = t.track; cycles = e.left }
