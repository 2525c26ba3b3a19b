-- `records_ok` meets its contract: the events passed may be stored, so that those left decide (laws of Tests).
use Rattle.laws.proofs.Tests.{Left}
use Rattle.events.specs.Events.{ok_event}
use Rattle.eventlist.specs.Rows.{events_of}
use Rattle.eventlist.proofs.records_ok.Given as goal

abbrev pub invariant-loop-i : goal.invariant-loop-i
invariant-loop-i l = Left (ok_event l.store) (events_of l.events l.count) l.i
