-- `dollavir_set_pb_on_note_wave` is `loans::set_on_note_wave`: what it answers and leaves is what that says.
use borrow.Author.Rules.{sfits_of}
use mir.Facts.{to_z-of_z}
use mir.Syntax.{w32}
use Rattle.ctrack.proofs.dollavir_set_pb_on_note_wave.Goals as goal

pub returns : goal.returns
returns c =
    let e = rw (to_z-of_z {w = w32} (sfits_of c.pb_target.type_inv), c.pb_target.ensures, to_z-of_z c.ranges.big) at c.set_on_note_wave-r.ensures in
    let t = rw (e.answer) at c.leave_track.ensures in
    record { code = t.code; track = t.track; cycles = e.left }
