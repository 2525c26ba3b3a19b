-- At the step budget a run comes to the walk of the closed form, and counts its events: never more than there are steps.
use mathlib.Core.Path.{◌≡◌, ap, ◌∙◌}
use mathlib.Core.List.{List}
use native.Mathlib.Omega.{arith}
use Prim.Native.Nat.{ℕ}
use lib.ListN.{length}
use Rattle.budget.specs.Budgets.{step_budget}
use Rattle.offers.specs.declared.Piece.{Piece}
use Rattle.offers.specs.Rules.{rule_of}
use Rattle.offers.specs.Walks.{walked}
use Rattle.offers.specs.Pieces.{offers}
use Rattle.offers.specs.Waves.{triples}
use Rattle.writing.specs.Origins.{pieces_of}
use Rattle.writing.proofs.Calling.{from, appends, few-new}
use Rattle.writing.proofs.count_run.Goals.{After-from-limit}
use Rattle.writing.proofs.count_run.Goals as goal

module _ (c : After-from-limit) where
  abbrev ts : List Piece
  ts = pieces_of (triples c.args.numbers.now) c.args.origin

  limit-is : c.from-limit.result ≡ step_budget c.args.b
  limit-is = c.from-limit.ensures ∙ c.safe_iteration_limit.ensures

pub run_origin-requires-clause-counted : goal.run_origin-requires-clause-counted
run_origin-requires-clause-counted c =
    let s = (goal.at.run_origin-requires-clause-counted c).After-from-limit in
    let e = ap length (appends c.args.w c.args.b (ts s) c.from-limit.result (limit-is s)) in
    let g = c.safe_iteration_limit.ensures in
    omega (arith, few-new c.args.w c.args.b (ts s))

pub returns : goal.returns
returns c =
    let s = (goal.at.returns c).After-from-limit in
    let w = c.run_origin.ensures in
    let e = ap length (appends c.args.w c.args.b (ts s) c.from-limit.result (limit-is s)) in (
      w.0 ∙ ap (λ (n : ℕ). walked (rule_of c.args.w) (from c.args.w c.args.b (offers c.args.w.freq (ts s) n 0)) (offers c.args.w.freq (ts s) n 0)) (limit-is s),
      omega (arith, w.1),
    )
