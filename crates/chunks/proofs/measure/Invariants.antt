-- `measure` meets its contract: while every event is well the pen stands where `weigh` would count (WeighedTo, of Passes); the first that is not
-- leaves the answer to `weigh`.
use Rattle.eventlist.specs.Rows.{events_of}
use Rattle.chunks.proofs.Passes.{WeighedTo, tally_at}
use Rattle.chunks.proofs.measure.Given as goal

abbrev pub invariant-loop-i : goal.invariant-loop-i
invariant-loop-i l = WeighedTo l.store (events_of l.events l.count) l.i (tally_at l.p)
