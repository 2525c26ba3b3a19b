use mathlib.Core.Path.{ap, ◌∙◌}
use native.Mathlib.Omega.{arith}
use mir.Syntax.{w32}
use Rattle.laws.proofs.Fitting.{back}
use Rattle.carrying.specs.Carry.{track_answered, set_freqs}
use Rattle.carrying.proofs.Carrying.{refuses, goes-on}
use Rattle.carrying.proofs.set_freqs.Goals as goal

pub returns-then-t-ne0 : goal.returns-then-t-ne0
unfolding set_freqs
returns-then-t-ne0 c =
    let a = c.args in
    let x = back w32 a.r.x (omega arith) in
    let y = back w32 a.r.y (omega arith) in
    refuses c.both_freqs-t.result.code _ c.if-t-ne0.true ∙ ap (track_answered a.state) (c.both_freqs-t.ensures ∙ rw (x, y))

pub returns : goal.returns
unfolding set_freqs
returns c =
    let a = c.args in
    let x = back w32 a.r.x (omega arith) in
    let y = back w32 a.r.y (omega arith) in
    goes-on c.both_freqs-t.result.code _ c.if-t-ne0.false ∙ ap (track_answered a.state) (c.both_freqs-t.ensures ∙ rw (x, y))
