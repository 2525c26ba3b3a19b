-- `step`: whether the write fits chooses the list that is left.
use Rattle.noting.specs.Runs.{step_of}
use Rattle.noting.proofs.step.Goals as goal

pub returns-then-w : goal.returns-then-w
unfolding step_of
returns-then-w c = rw (← c.offer_value-w.ensures, c.if-w.true, c.advance-moved.ensures)

pub returns-else-w : goal.returns-else-w
unfolding step_of
returns-else-w c = rw (← c.offer_value-w.ensures, c.if-w.false)
