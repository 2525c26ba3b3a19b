-- The writing run, at the step budget, appends the events of the closed form and comes to its budget.
use mathlib.Core.Path.{◌≡◌, ap, ap₂, ◌∙◌}
use mathlib.Core.List.{List}
use Prim.Native.Nat.{ℕ, ◌+◌}
use lib.ListN.{length}
use Rattle.budget.specs.declared.Budget.{Budget}
use Rattle.budget.specs.Budgets.{step_budget}
use Rattle.events.specs.declared.Event.{Event}
use Rattle.eventlist.specs.Rows.{rows_of}
use Rattle.values.specs.declared.Offer.{Offer}
use Rattle.offers.specs.declared.Piece.{Piece}
use Rattle.offers.specs.Rules.{rule_of, flagged}
use Rattle.offers.specs.Walks.{walked, append}
use Rattle.offers.specs.Pieces.{offers, total}
use Rattle.offers.specs.Waves.{triples}
use Rattle.writing.specs.declared.Outcome.{Outcome}
use Rattle.writing.specs.Origins.{pieces_of}
use Rattle.writing.specs.Figures.{budget_for}
use native.Mathlib.Omega.{arith}
use Rattle.eventlist.proofs.EventRows.{length-rows_of}
use Rattle.writing.proofs.Calling.{appends, from, budget-end}
use Rattle.writing.proofs.add_figure.Goals.{Start}
use Rattle.writing.proofs.add_figure.Goals as goal

abbrev ts : Start → List Piece
ts s = pieces_of (triples s.args.numbers.now) s.args.figure.origin

-- the offers in so many steps, and within the step budget
abbrev within : Start → ℕ → List Offer
within s n = offers s.args.w.freq (ts s) n 0

abbrev all : Start → List Offer
all s = within s (step_budget s.args.b)

abbrev done : ℕ → Budget → Outcome
done n b = record { code = 0; count = n; budget = b }

pub run_origin-done-requires-clause-counted : goal.run_origin-done-requires-clause-counted
run_origin-done-requires-clause-counted c =
    let s = (goal.at.run_origin-done-requires-clause-counted c).Start in
    let g = c.from-limit.ensures ∙ c.safe_iteration_limit.ensures in
    let fits = c.well_formed in
    rw (appends c.args.w c.args.b (ts s) c.from-limit.result g) (omega (arith, c.requires.3, length-rows_of c.args.events.now))

pub returns : goal.returns
returns c =
    let s = (goal.at.returns c).Start in
    let A = c.args in
    let g = c.from-limit.ensures ∙ c.safe_iteration_limit.ensures in
    let p = appends c.args.w c.args.b (ts s) c.from-limit.result g in
    let w = c.run_origin-done.ensures in
    let walk = w.0 ∙ ap (λ (n : ℕ). walked (rule_of A.w) (from A.w A.b (all s)) (within s n)) g in
    let rest : c.flag_if-rest.result ≡ budget_for A.w A.b (ts s) =
    budget-end {k = c.run_origin-done.result.walk} A.w A.b (all s) (total (ts s)) c.flag_if-rest.ensures walk g c.requires.1.long in (
      ap₂ done (w.1 ∙ ap (λ (es : List Event). A.count + length es) p) (c.flag_if.ensures ∙ ap (λ (x : Budget). flagged x A.figure.cut) rest),
      w.2 (rw p c.requires.3) ∙ ap (append (rows_of A.events.now) A.count) p,
    )
