-- `write_cc_on_time` puts back what the call by value answers.
use mathlib.Core.Path.{ap, ◌∙◌}
use mir.Facts.{to_z-of_z}
use Rattle.writing.specs.declared.Outcome.{Outcome}
use Rattle.loans.specs.Lent.{told}
use Rattle.loans.proofs.write_cc_on_time.Goals as goal

pub returns : goal.returns
returns c =
    let e = rw (to_z-of_z c.ranges.number) at c.write_cc_on_time-r.ensures in
    record { answer = c.spent.ensures.0 ∙ ap told e.answer; spent = c.spent.ensures.1 ∙ ap (λ (o : Outcome). o.budget) e.answer; left = e.left }
