-- What was added, and what the rest come to, is what all come to (`Putting`).
use mathlib.Core.Path.{◌≡◌}
use Prim.Native.Nat.{◌-◌}
use lib.ListN.{length}
use Rattle.eventlist.specs.Rows.{rows_of}
use Rattle.waving.specs.Drawings.{drawings_of}
use Rattle.waving.proofs.Passing.{Putting}
use Rattle.waving.proofs.add_all.Given as goal

abbrev pub invariant-loop-i : goal.invariant-loop-i
invariant-loop-i l =
    (length l.events ≡ length l.initial.events) × Putting (drawings_of l.track l.n) l.initial.rest (rows_of l.initial.events) l.count l.i l.rest (rows_of l.events) l.c

abbrev pub decreases-loop-i : goal.decreases-loop-i
decreases-loop-i l = l.all - l.i
