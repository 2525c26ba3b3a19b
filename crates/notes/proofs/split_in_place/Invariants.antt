-- `split_in_place` meets its contract: from the end, what comes of the events passed stands behind the part of the list that
-- still stands (`Backing`), so that each event is read before its place is written.
use mathlib.Core.Path.{◌≡◌}
use lib.ListN.{length}
use Rattle.eventlist.specs.Rows.{rows_of}
use Rattle.notes.proofs.Splitting.{Backing}
use Rattle.notes.proofs.split_in_place.Given as goal

abbrev pub invariant-loop-i : goal.invariant-loop-i
invariant-loop-i l =
    (length l.events ≡ length l.initial.events) × Backing (rows_of l.initial.events) (rows_of l.events) l.count l.i l.n
