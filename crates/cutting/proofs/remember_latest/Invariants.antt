-- `remember_latest` meets its contract: what it has after i events is what counts last among them, sorted, and one more takes
-- it further (`stood-more`, `holds-latest`).
use mathlib.Core.Path.{◌≡◌}
use lib.ListN.{take}
use Rattle.eventlist.specs.Rows.{rows_of}
use Rattle.sorting.specs.Stable.{stable_sort}
use Rattle.sorting.specs.Sorting.{earlier}
use Rattle.cutting.specs.Cuts.{control_at}
use Rattle.cutting.specs.Passes.{Holds}
use Rattle.cutting.specs.ByTime.{standing_at, time_at}
use Rattle.cutting.proofs.remember_latest.Given as goal

abbrev pub invariant-loop-i : goal.invariant-loop-i
invariant-loop-i l =
    (l.s ≡ standing_at l.c.at (stable_sort earlier (take l.i (rows_of l.events))))
    × (Holds (control_at l.c.at (stable_sort earlier (take l.i (rows_of l.events)))) l.values
    × Holds (time_at l.c.at (stable_sort earlier (take l.i (rows_of l.events)))) l.times)
