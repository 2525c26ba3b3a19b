-- the triples so far are forward (laws, Tests)
use Rattle.laws.proofs.Tests.{Left}
use Rattle.counted.specs.Numbers.{shown}
use Rattle.counted.specs.Curves.{triples}
use Rattle.tables.specs.Reservations.{forward}
use Rattle.tables.proofs.lengths_ok.Given as goal

abbrev pub invariant-loop-i : goal.invariant-loop-i
invariant-loop-i l = Left forward (triples (shown l.list)) l.i
