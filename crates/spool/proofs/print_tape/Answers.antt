-- `print_tape`: the tape is played, and how it ended is put into words.
use Rattle.spool.proofs.Playing.{printed-by}
use Rattle.spool.proofs.print_tape.Goals as goal

pub returns : goal.returns
returns c =
    let a = c.args in
    let e = c.play-run.ensures in
    record { puts = rw (printed-by a.tape.now a.events.now a.page.now e.0 e.1) at c.put_end.ensures; events_after = e.1 }
