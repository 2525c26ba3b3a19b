-- `cycles::run_record`: the loop's invariant and its steps are proofs/Running's; here they meet the slice.
use Rattle.eventlist.specs.Rows.{rows_of}
use Rattle.cycles.proofs.Running as R
use Rattle.cycles.proofs.run_record.Given as goal

abbrev pub invariant-loop : goal.invariant-loop
invariant-loop l =
    R.Running l.ask l.initial.cycle l.initial.budget (rows_of l.initial.events) l.count l.most l.cycle l.budget (rows_of l.events) l.n l.counter
