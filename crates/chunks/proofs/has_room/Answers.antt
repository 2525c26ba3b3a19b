-- `has_room` meets its contract: a body whose length has four bytes is asked for its room.
use borrow.Author.Tests.{lt-ltb, le-ltb}
use Rattle.chunks.specs.Writing.{room_for}
use Rattle.chunks.proofs.has_room.Goals as goal

pub returns-then-body-lt-LENGTH_TOP : goal.returns-then-body-lt-LENGTH_TOP
unfolding room_for
returns-then-body-lt-LENGTH_TOP c = rw (lt-ltb c.args.body 4294967296 c.if-body-lt-LENGTH_TOP.true)

pub returns-else-body-lt-LENGTH_TOP : goal.returns-else-body-lt-LENGTH_TOP
unfolding room_for
returns-else-body-lt-LENGTH_TOP c = rw (le-ltb c.args.body 4294967296 c.if-body-lt-LENGTH_TOP.false)
