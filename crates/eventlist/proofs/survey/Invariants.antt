-- `survey` meets its contract: each turn passes one event more (laws of Surveying).
use Rattle.eventlist.specs.Rows.{rows_of}
use Rattle.eventlist.specs.Windows.{taken_by_any}
use Rattle.eventlist.proofs.Surveying.{Passing}
use Rattle.eventlist.proofs.survey.Given as goal

abbrev pub invariant-loop-i : goal.invariant-loop-i
invariant-loop-i l = Passing l.store (taken_by_any l.windows) (rows_of l.events) l.count l.first l.taken l.i
