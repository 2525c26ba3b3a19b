-- `put_body` meets its contract: what is left of the events, put where the pen stands, makes the output that is promised (PutTo, of Passes).
use Rattle.eventlist.specs.Rows.{events_of}
use Rattle.chunks.proofs.Passes.{PutTo}
use Rattle.chunks.proofs.put_body.Given as goal

abbrev pub invariant-loop-i : goal.invariant-loop-i
invariant-loop-i l = PutTo (events_of l.events l.count) l.at l.initial.out l.i l.p l.out
