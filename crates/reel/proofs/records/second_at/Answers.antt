use Rattle.std.proofs.Common.{◌∙◌, w32, to_z-of_z}
use borrow.Author.Tests.{lt-ltb, le-ltb}
use borrow.Author.Rules.{sfits_of}
use Rattle.reel.specs.Records.{second_at}
use Rattle.reel.proofs.records.second_at.Goals as goal

pub returns-then-width-gt1 : goal.returns-then-width-gt1
unfolding second_at
returns-then-width-gt1 c = to_z-of_z {w = w32} (sfits_of c.number_at.type_inv) ∙ c.number_at.ensures ∙ simp (lt-ltb _ _ (rw c.width.ensures.value at c.if-width-gt1.true))

pub returns-else-width-gt1 : goal.returns-else-width-gt1
unfolding second_at
returns-else-width-gt1 c = simp (le-ltb _ _ (rw c.width.ensures.value at c.if-width-gt1.false))
