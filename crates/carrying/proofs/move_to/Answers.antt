use mathlib.Core.Path.{ap, ◌∙◌}
use native.Mathlib.Omega.{arith}
use mir.Syntax.{w32, w64}
use Rattle.laws.proofs.Fitting.{back}
use Rattle.carrying.specs.Carry.{track_answered, move_to}
use Rattle.state.specs.Calls.{set_timepos}
use Rattle.carrying.proofs.Carrying.{refuses, goes-on}
use Rattle.carrying.proofs.move_to.Goals as goal

pub returns-then-t-ne0 : goal.returns-then-t-ne0
unfolding move_to
returns-then-t-ne0 c =
    let a = c.args in
    let x = back w64 c.widened.result c.widened.type_inv ∙ c.widened.ensures.0 ∙ (back w32 a.r.x (omega arith)) in
    refuses c.set_timepos-t.result.code _ c.if-t-ne0.true ∙ ap (track_answered a.state) (c.set_timepos-t.ensures ∙ ap (set_timepos a.state.track) x)

pub returns : goal.returns
unfolding move_to
returns c =
    let a = c.args in
    let x = back w64 c.widened.result c.widened.type_inv ∙ c.widened.ensures.0 ∙ (back w32 a.r.x (omega arith)) in
    goes-on c.set_timepos-t.result.code _ c.if-t-ne0.false ∙ ap (track_answered a.state) (c.set_timepos-t.ensures ∙ ap (set_timepos a.state.track) x)
