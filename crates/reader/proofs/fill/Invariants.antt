-- `fill` meets its contract: what is left, laid behind what was put, makes the list that is promised (Passes).
use mathlib.Core.Path.{◌≡◌}
use Prim.Native.Nat.{◌-◌}
use lib.ListN.{length}
use Rattle.eventlist.specs.Rows.{rows_of}
use Rattle.reader.proofs.Passes.{Fills}
use Rattle.reader.proofs.fill.Given as goal

abbrev pub invariant-loop-q : goal.invariant-loop-q
invariant-loop-q l = (length l.events ≡ length l.initial.events) × Fills l.s (rows_of l.initial.events) l.c (rows_of l.events)

abbrev pub decreases-loop-q : goal.decreases-loop-q
decreases-loop-q l = length l.s - l.c.at
