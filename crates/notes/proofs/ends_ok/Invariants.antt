-- `ends_ok` meets its contract: the ends passed are well, so that those left decide (laws of Tests); each event may be
-- stored, so that the sum that its end asks fits.
use Rattle.laws.proofs.Tests.{Left}
use Rattle.eventlist.specs.Rows.{events_of}
use Rattle.notes.specs.Notes.{ok_end}
use Rattle.notes.proofs.ends_ok.Given as goal

abbrev pub invariant-loop-i : goal.invariant-loop-i
invariant-loop-i l = Left ok_end (events_of l.events l.count) l.i
