use Rattle.reel.specs.Marks.{is_due}
use Rattle.reel.proofs.marks.Mark.is_due.Goals as goal

pub returns : goal.returns
unfolding is_due
returns c = rw c.order.ensures
