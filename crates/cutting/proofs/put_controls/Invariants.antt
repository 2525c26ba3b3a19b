-- `put_controls` meets its contract: what is left to be put, put, would make the list that is asked for (`Putting`).
use Prim.Native.Nat.{◌-◌}
use Rattle.cutting.specs.Cuts.{controllers}
use Rattle.cutting.proofs.Putting.{Putting}
use Rattle.cutting.proofs.put_controls.Given as goal

abbrev pub invariant-loop-k : goal.invariant-loop-k
invariant-loop-k l = Putting l.initial.events l.count l.values l.last l.events l.n l.k

abbrev pub decreases-loop-k : goal.decreases-loop-k
decreases-loop-k l = controllers - l.k
