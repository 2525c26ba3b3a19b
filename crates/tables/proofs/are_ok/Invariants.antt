-- so far all records were well (laws, Tests)
use Rattle.std.proofs.Common.{take}
use Rattle.laws.proofs.Tests.{Left}
use Rattle.tables.proofs.are_ok.Given as goal

abbrev pub invariant-loop-i : goal.invariant-loop-i
invariant-loop-i g l = Left g.T.Reservation.ok (take l.count l.items) l.i
