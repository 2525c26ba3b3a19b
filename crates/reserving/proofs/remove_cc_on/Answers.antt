-- `remove_cc_on`: `remove_reserve` of the number as a target.
use mathlib.Core.Path.{ap, ◌∙◌}
use lib.IntN.{ℤ}
use mir.Syntax.{w32}
use Rattle.reserving.specs.Setting.{remove_reserve}
use Rattle.drawing.specs.Calls.{cc_target}
use Rattle.reserving.proofs.Handing.{handed}
use Rattle.reserving.proofs.remove_cc_on.Goals as goal

pub returns : goal.returns
returns c =
    c.remove_reserve.ensures
    ∙ ap (λ (z : ℤ). remove_reserve c.args.track c.args.size c.args.cycles z) (handed w32 cc_target c.cc_target.type_inv c.ranges.number c.cc_target.ensures)
