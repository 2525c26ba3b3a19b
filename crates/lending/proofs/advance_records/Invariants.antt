-- `advance_records` is a walk (Turns), whose state is that of the call and every number of the list.
use Rattle.lending.specs.Moving.{past}
use Rattle.lending.specs.Writing.{pass_of, onward, advanced_by}
use Rattle.lending.proofs.Turns.{Turn}
use Rattle.lending.proofs.advance_records.Given as goal

abbrev pub invariant-loop-c : goal.invariant-loop-c
invariant-loop-c l =
    Turn (onward l.round) (advanced_by l.round) past (pass_of l.fn.going l.initial.events) l.initial.cycles l.c-index l.cycles (pass_of l.s l.events)
