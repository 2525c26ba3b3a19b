-- `split_into` meets its contract: the first i events stand, with their ends, at the front of `out` (`Filling`), and what
-- is to come finds room, since it is no more than what comes of all.
use mathlib.Core.Path.{◌≡◌}
use lib.ListN.{length}
use Rattle.eventlist.specs.Rows.{rows_of}
use Rattle.notes.proofs.Splitting.{Filling}
use Rattle.notes.proofs.split_into.Given as goal

abbrev pub invariant-loop-i : goal.invariant-loop-i
invariant-loop-i l =
    (length l.out ≡ length l.initial.out) × Filling (rows_of l.events) (rows_of l.initial.out) (rows_of l.out) l.i l.n
