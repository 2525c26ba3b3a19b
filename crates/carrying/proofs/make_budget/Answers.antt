use mathlib.Core.Path.{ap, ap₂, ◌∙◌}
use native.Mathlib.Omega.{arith}
use mir.Syntax.{w32}
use Rattle.laws.proofs.Fitting.{back}
use Rattle.budget.specs.Budgets.{new_budget}
use Rattle.carrying.specs.Carry.{budget_answered, make_budget}
use Rattle.carrying.proofs.Carrying.{refuses, goes-on}
use Rattle.carrying.proofs.make_budget.Goals as goal

pub returns-then-b-ne0 : goal.returns-then-b-ne0
unfolding make_budget
returns-then-b-ne0 c =
    let a = c.args in
    let x = back w32 a.r.x (omega arith) in
    let y = back w32 a.r.y (omega arith) in
    refuses c.new-b.result.code _ c.if-b-ne0.true ∙ ap (budget_answered a.state) (c.new-b.ensures ∙ ap₂ new_budget (c.bits_of-seed.ensures ∙ rw y) (c.bits_of-maximum.ensures ∙ rw x))

pub returns : goal.returns
unfolding make_budget
returns c =
    let a = c.args in
    let x = back w32 a.r.x (omega arith) in
    let y = back w32 a.r.y (omega arith) in
    goes-on c.new-b.result.code _ c.if-b-ne0.false ∙ ap (budget_answered a.state) (c.new-b.ensures ∙ ap₂ new_budget (c.bits_of-seed.ensures ∙ rw y) (c.bits_of-maximum.ensures ∙ rw x))
