-- `play`: the loop keeps that playing on gives what playing from the start gives (`Going`). The measure is what is left of the tape.
use mathlib.Core.Path.{◌≡◌}
use Prim.Native.Nat.{◌-◌}
use lib.ListN.{length}
use Rattle.spool.specs.Play.{pass, begun}
use Rattle.spool.proofs.Playing.{Going}
use Rattle.spool.proofs.play.Given as goal

abbrev pub invariant-loop-run : goal.invariant-loop-run
invariant-loop-run l = (l.n ≡ length l.tape) × Going l.tape (pass begun l.initial.events) (pass l.run l.events)

abbrev pub decreases-loop-run : goal.decreases-loop-run
decreases-loop-run l = length l.tape - l.run.at
