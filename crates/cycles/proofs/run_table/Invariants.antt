-- `cycles::run_table`: the loop's invariant and its steps are proofs/Placing's; here they meet the array and the slice.
use Rattle.eventlist.specs.Rows.{rows_of}
use Rattle.cycles.proofs.Placing as P
use Rattle.cycles.proofs.run_table.Given as goal

abbrev pub invariant-loop-i : goal.invariant-loop-i
invariant-loop-i l =
    P.Placed l.round l.used l.initial.cycles l.initial.budget (rows_of l.initial.events) l.count l.cycles l.budget (rows_of l.events) l.n l.left l.i
