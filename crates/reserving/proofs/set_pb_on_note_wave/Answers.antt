-- `set_pb_on_note_wave`: `set_on_note_wave` of the bend as a target.
use mathlib.Core.Path.{ap, ◌∙◌}
use lib.IntN.{ℤ}
use mir.Syntax.{w32}
use Rattle.reserving.specs.Setting.{set_on_note_wave}
use Rattle.drawing.specs.Calls.{pb_target}
use Rattle.reserving.proofs.Handing.{handed}
use Rattle.reserving.proofs.set_pb_on_note_wave.Goals as goal

pub returns : goal.returns
returns c =
    c.set_on_note_wave.ensures
    ∙ ap (λ (z : ℤ). set_on_note_wave c.args.track c.args.size c.args.cycles z 0 c.args.list.now) (handed w32 pb_target c.pb_target.type_inv c.ranges.big c.pb_target.ensures)
