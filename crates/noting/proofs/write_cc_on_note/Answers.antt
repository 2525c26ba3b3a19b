-- `write_cc_on_note`: the lists that the call leaves go back into the track, which is all that it changes there.
use Rattle.std.proofs.Common.{sym, ap, ◌∙◌, to_z-of_z}
use Rattle.noting.specs.Listed.{noted_by}
use Rattle.noting.proofs.write_cc_on_note.Goals as goal

pub returns-in-Ok : goal.returns-in-Ok
returns-in-Ok c =
    let x = c.args in
    let e = rw (to_z-of_z c.ranges.start) at c.write_lists.ensures in
    (ap (noted_by x.track x.budget x.count) (sym c.in-Ok.is) ∙ e.0, e.1)

pub returns-in-Err : goal.returns-in-Err
returns-in-Err c =
    let x = c.args in
    let e = rw (to_z-of_z c.ranges.start) at c.write_lists.ensures in
    rw c.number.ensures (ap (noted_by x.track x.budget x.count) (sym c.in-Err.is) ∙ e.0, e.1)
