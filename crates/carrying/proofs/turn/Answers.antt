use mathlib.Core.Path.{ap, ◌∙◌}
use lib.IntN.{ℤ}
use native.Mathlib.Omega.{arith}
use mir.Syntax.{w32, w64}
use Rattle.laws.proofs.Fitting.{back}
use Rattle.carrying.specs.Carry.{cycled_to, turn_answer, turn_list}
use Rattle.cycling.specs.Calls.{cycled_of, cycled_list}
use Rattle.numbers.specs.Limits.{places}
use Rattle.carrying.proofs.Carrying.{refuses, goes-on}
use Rattle.carrying.proofs.turn.Goals as goal

pub returns-then-k-ne0 : goal.returns-then-k-ne0
unfolding turn_answer turn_list
returns-then-k-ne0 c =
    let a = c.args in
    let x = back w64 c.widened-until.result c.widened-until.type_inv ∙ c.widened-until.ensures.0 ∙ (back w32 a.r.x (omega arith)) in
    let l = a.events.now in
    let s = a.state in
    let e = c.write_cc_on_cycle-k.ensures in
    (refuses c.write_cc_on_cycle-k.result.code _ c.if-k-ne0.true ∙ ap (cycled_to s) (e.0 ∙ ap (λ (z : ℤ). cycled_of s.track places s.cycles z s.budget l s.count) x), e.1 ∙ ap (λ (z : ℤ). cycled_list s.track places s.cycles z s.budget l s.count) x)

pub returns : goal.returns
unfolding turn_answer turn_list
returns c =
    let a = c.args in
    let x = back w64 c.widened-until.result c.widened-until.type_inv ∙ c.widened-until.ensures.0 ∙ (back w32 a.r.x (omega arith)) in
    let l = a.events.now in
    let s = a.state in
    let e = c.write_cc_on_cycle-k.ensures in
    (goes-on c.write_cc_on_cycle-k.result.code _ c.if-k-ne0.false ∙ ap (cycled_to s) (e.0 ∙ ap (λ (z : ℤ). cycled_of s.track places s.cycles z s.budget l s.count) x), e.1 ∙ ap (λ (z : ℤ). cycled_list s.track places s.cycles z s.budget l s.count) x)
