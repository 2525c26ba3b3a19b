-- The counting run, at the step budget, comes to the budget of the closed form; the two flags are set besides.
use mathlib.Core.Path.{◌≡◌, ap, ◌∙◌}
use Rattle.budget.specs.declared.Budget.{Budget}
use Rattle.budget.specs.Budgets.{step_budget}
use Rattle.offers.specs.Rules.{flagged}
use Rattle.offers.specs.Pieces.{offers, total}
use Rattle.offers.specs.Waves.{triples}
use Rattle.writing.specs.Origins.{pieces_of}
use Rattle.writing.specs.Figures.{budget_for}
use Rattle.writing.proofs.Calling.{budget-end}
use Rattle.writing.proofs.foresee.Goals as goal

pub returns : goal.returns
returns c =
    let A = c.args in
    let ts = pieces_of (triples A.numbers.now) A.figure.origin in
    let all = offers A.w.freq ts (step_budget A.b) 0 in
    let g = c.from-limit.ensures ∙ c.safe_iteration_limit.ensures in
    let walk = c.count_run.ensures.0 in
    let rest : c.flag_if.result ≡ budget_for A.w A.b ts =
    budget-end {k = c.count_run.result.walk} A.w A.b all (total ts) c.flag_if.ensures walk g c.requires.1.long in
    c.flag_if-2.ensures ∙ ap (λ (x : Budget). flagged x A.figure.cut) rest
