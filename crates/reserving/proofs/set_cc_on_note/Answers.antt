-- `set_cc_on_note`: `set_on_note` of the number as a target.
use mathlib.Core.Path.{ap, ◌∙◌}
use lib.IntN.{ℤ}
use mir.Syntax.{w32}
use Rattle.reserving.specs.Setting.{set_on_note}
use Rattle.drawing.specs.Calls.{cc_target}
use Rattle.reserving.proofs.Handing.{handed}
use Rattle.reserving.proofs.set_cc_on_note.Goals as goal

pub returns : goal.returns
returns c =
    c.set_on_note.ensures
    ∙ ap (λ (z : ℤ). set_on_note c.args.track c.args.size c.args.cycles z c.args.list.now) (handed w32 cc_target c.cc_target.type_inv c.ranges.number c.cc_target.ensures)
