-- `move_on` meets its contract: behind an event the pen stands past its bytes, at its time.
use mir.Facts.{to_z-of_z}
use Rattle.chunks.proofs.Leaves.{time-fits}
use Rattle.chunks.proofs.move_on.Goals as goal

pub returns : goal.returns
returns c =
    rw (c.event_size.ensures.value, to_z-of_z (time-fits c.args.e.time c.requires.1.0), to_z-of_z (time-fits c.args.p.time c.requires.0))
