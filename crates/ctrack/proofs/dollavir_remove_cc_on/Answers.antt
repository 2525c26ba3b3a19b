-- `dollavir_remove_cc_on` is `loans::remove_reserve`: what it answers and leaves is what that says.
use borrow.Author.Rules.{sfits_of}
use mir.Facts.{to_z-of_z}
use mir.Syntax.{w32}
use Rattle.ctrack.proofs.dollavir_remove_cc_on.Goals as goal

pub returns : goal.returns
returns c =
    let e = rw (to_z-of_z {w = w32} (sfits_of c.cc_target.type_inv), c.cc_target.ensures, to_z-of_z c.ranges.number) at c.remove_reserve-r.ensures in
    let t = rw (e.answer) at c.leave_track.ensures in
    record { code = t.code; track = t.track; cycles = e.left }
