-- `put_lines` puts a line a turn behind those that stand (`Lines`).
use Rattle.eventlist.specs.Rows.{events_of}
use Rattle.lines.proofs.Putting.{Lines}
use Rattle.lines.proofs.put_lines.Given as goal

abbrev pub invariant-loop-i : goal.invariant-loop-i
invariant-loop-i l = Lines l.at (events_of l.events l.count) l.initial.out l.out l.p l.i
