-- `run_notes`: the loop's invariant and its steps are proofs/Walking's; here they meet the arrays.
use Rattle.noting.proofs.Walking as W
use Rattle.noting.proofs.run_notes.Given as goal

abbrev pub invariant-loop-i : goal.invariant-loop-i
invariant-loop-i l = W.Walking l.options l.at l.fn.table l.fn.b l.notes l.events l.budget l.made l.i
