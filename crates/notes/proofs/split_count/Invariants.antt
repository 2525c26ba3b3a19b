-- `split_count` meets its contract: n is what comes of the first i events.
use mathlib.Core.Path.{◌≡◌}
use lib.ListN.{length, take}
use Rattle.eventlist.specs.Rows.{rows_of}
use Rattle.notes.specs.Notes.{split_notes}
use Rattle.notes.proofs.split_count.Given as goal

abbrev pub invariant-loop-i : goal.invariant-loop-i
invariant-loop-i l = l.n ≡ length (split_notes (take l.i (rows_of l.events)))
