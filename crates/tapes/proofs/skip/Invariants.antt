-- `skip`: what was passed over is never more than n.
use Prim.Native.Nat.{◌≤◌}
use Rattle.tapes.proofs.skip.Given as goal

abbrev pub invariant-loop : goal.invariant-loop
invariant-loop l = l.done ≤ l.n
