-- `weigh` meets its contract: what was seen of the events passed, and those left, say the answer (WeighedTo, of Passes).
use Rattle.eventlist.specs.Rows.{events_of}
use Rattle.chunks.proofs.Passes.{WeighedTo}
use Rattle.chunks.proofs.weigh.Given as goal

abbrev pub invariant-loop-i : goal.invariant-loop-i
invariant-loop-i l = WeighedTo l.store (events_of l.events l.count) l.i l.t
