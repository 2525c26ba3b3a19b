use mathlib.Core.Path.{ap, ◌∙◌}
use lib.IntN.{ℤ}
use native.Mathlib.Omega.{arith}
use mir.Syntax.{w32, w64}
use Rattle.laws.proofs.Fitting.{back}
use Rattle.carrying.specs.Carry.{cut_to}
use Rattle.cutting.specs.Cuts.{plain, cut_taken, cut_left}
use Rattle.carrying.proofs.Carrying.{refuses, goes-on}
use Rattle.carrying.proofs.cut.Goals as goal

pub returns-then-t-ne0 : goal.returns-then-t-ne0
returns-then-t-ne0 c =
    let a = c.args in
    let x = back w64 c.widened-at.result c.widened-at.type_inv ∙ c.widened-at.ensures.0 ∙ (back w32 a.r.x (omega arith)) in
    let l = a.events.now in
    let n = a.state.count in
    let e = c.play_from-t.ensures in
    (refuses c.play_from-t.result.code _ c.if-t-ne0.true ∙ ap (cut_to a.state) (e.0 ∙ ap (λ (z : ℤ). cut_taken 0 l n (plain z)) x), e.1 ∙ ap (λ (z : ℤ). cut_left 0 l n (plain z)) x)

pub returns : goal.returns
returns c =
    let a = c.args in
    let x = back w64 c.widened-at.result c.widened-at.type_inv ∙ c.widened-at.ensures.0 ∙ (back w32 a.r.x (omega arith)) in
    let l = a.events.now in
    let n = a.state.count in
    let e = c.play_from-t.ensures in
    (goes-on c.play_from-t.result.code _ c.if-t-ne0.false ∙ ap (cut_to a.state) (e.0 ∙ ap (λ (z : ℤ). cut_taken 0 l n (plain z)) x), e.1 ∙ ap (λ (z : ℤ). cut_left 0 l n (plain z)) x)
