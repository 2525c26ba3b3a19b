-- `value_in` meets its contract: what was passed from the end has no say, so that the value is that of the first i.
use mathlib.Core.Path.{◌≡◌}
use lib.ListN.{take}
use Rattle.eventlist.specs.Rows.{rows_of, events_of}
use Rattle.cutting.specs.Value.{cc_value}
use Rattle.cutting.proofs.value_in.Given as goal

abbrev pub invariant-loop-i : goal.invariant-loop-i
invariant-loop-i l = cc_value l.a (events_of l.events l.count) ≡ cc_value l.a (take l.i (rows_of l.events))
