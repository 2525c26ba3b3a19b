-- `append_all`: the loop is proofs/Appending's; here it meets the slice and the array.
use mathlib.Core.Path.{◌≡◌}
use lib.ListN.{length}
use Rattle.events.specs.Events.{zero_event}
use Rattle.eventlist.specs.Rows.{rows_of}
use Rattle.noting.proofs.Appending as A
use Rattle.noting.proofs.append_all.Given as goal

abbrev pub invariant-loop-i : goal.invariant-loop-i
invariant-loop-i l = A.Appending zero_event (rows_of l.initial.events) l.new l.count l.made (rows_of l.events) l.n l.i × (length l.events ≡ length l.initial.events)
