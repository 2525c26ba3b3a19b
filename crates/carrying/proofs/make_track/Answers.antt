use mathlib.Core.Path.{ap, ◌∙◌}
use native.Mathlib.Omega.{arith}
use mir.Syntax.{w32}
use Rattle.laws.proofs.Fitting.{back}
use Rattle.carrying.specs.Carry.{track_answered, make_track}
use Rattle.carrying.proofs.Carrying.{refuses, goes-on}
use Rattle.carrying.proofs.make_track.Goals as goal

pub returns-then-t-ne0 : goal.returns-then-t-ne0
unfolding make_track
returns-then-t-ne0 c =
    let a = c.args in
    let x = back w32 a.r.x (omega arith) in
    let y = back w32 a.r.y (omega arith) in
    refuses c.new-t.result.code _ c.if-t-ne0.true ∙ ap (track_answered a.state) (c.new-t.ensures ∙ rw (x, y))

pub returns : goal.returns
unfolding make_track
returns c =
    let a = c.args in
    let x = back w32 a.r.x (omega arith) in
    let y = back w32 a.r.y (omega arith) in
    goes-on c.new-t.result.code _ c.if-t-ne0.false ∙ ap (track_answered a.state) (c.new-t.ensures ∙ rw (x, y))
