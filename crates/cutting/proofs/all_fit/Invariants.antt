-- `all_fit` meets its contract: the events passed fit, so that those left decide (laws of Tests).
use Rattle.laws.proofs.Tests.{Left}
use Rattle.eventlist.specs.Rows.{events_of}
use Rattle.cutting.specs.Cuts.{fits_cut}
use Rattle.cutting.proofs.all_fit.Given as goal

abbrev pub invariant-loop-i : goal.invariant-loop-i
invariant-loop-i l = Left (fits_cut l.store l.c) (events_of l.events l.count) l.i
