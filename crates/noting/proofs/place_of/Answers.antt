-- `place_of`: the definition's choice, by the branch that was taken.
use Rattle.std.proofs.Common.{arith}
use borrow.Author.Tests.{le-leb, lt-leb}
use Rattle.noting.specs.Lists.{place_of}
use Rattle.noting.proofs.place_of.Goals as goal

pub returns-then-e : goal.returns-then-e
unfolding place_of
returns-then-e c = let e = c.args.e in rw (le-leb e.values.count e.index (omega arith))

pub returns-else-e : goal.returns-else-e
unfolding place_of
returns-else-e c = let e = c.args.e in rw (lt-leb e.values.count e.index (omega arith))
