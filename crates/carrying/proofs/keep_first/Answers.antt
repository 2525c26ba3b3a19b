use mathlib.Core.Path.{ap, sym, ◌∙◌}
use mir.Facts.{to_z-of_z}
use lib.Seq.{length-take-le}
use Rattle.carrying.specs.Carry.{kept_to}
use Rattle.carrying.proofs.Carrying.{refuses, goes-on}
use Rattle.carrying.proofs.keep_first.Goals as goal

pub slice_bounds-set_on_cycle-end : goal.slice_bounds-set_on_cycle-end
slice_bounds-set_on_cycle-end c = sym (length-take-le _ _ c.requires)

pub returns-then-k-ne0 : goal.returns-then-k-ne0
returns-then-k-ne0 c =
    let x = to_z-of_z c.ranges.target in
    let y = to_z-of_z c.ranges.len in
    refuses c.set_on_cycle-k.result.code _ c.if-k-ne0.true ∙ ap (kept_to c.args.state) (c.set_on_cycle-k.ensures ∙ rw (x, y))

pub returns : goal.returns
returns c =
    let x = to_z-of_z c.ranges.target in
    let y = to_z-of_z c.ranges.len in
    goes-on c.set_on_cycle-k.result.code _ c.if-k-ne0.false ∙ ap (kept_to c.args.state) (c.set_on_cycle-k.ensures ∙ rw (x, y))
