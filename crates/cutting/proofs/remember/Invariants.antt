-- `remember` meets its contract: what is remembered is what stands in the first i events, and one more takes it further
-- (`lasts-more`, `holds_more`).
use mathlib.Core.Path.{◌≡◌}
use lib.ListN.{take}
use Rattle.eventlist.specs.Rows.{rows_of}
use Rattle.cutting.specs.Cuts.{control_at}
use Rattle.cutting.specs.Passes.{Holds, lasts_of}
use Rattle.cutting.proofs.remember.Given as goal

abbrev pub invariant-loop-i : goal.invariant-loop-i
invariant-loop-i l =
    (l.last ≡ lasts_of l.c.at (take l.i (rows_of l.events))) × Holds (control_at l.c.at (take l.i (rows_of l.events))) l.values
