-- `sum_layers` adds one layer a turn (the law Sums).
use mathlib.Core.Path.{◌≡◌}
use Prim.Native.Nat.{◌≤◌, ◌+◌, ◌*◌, ◌^◌}
use lib.Signed.{mag}
use Rattle.layers.proofs.Sums.{summing}
use Rattle.layers.proofs.sum_layers.Given as goal

abbrev pub invariant-loop-i : goal.invariant-loop-i
invariant-loop-i l = (l.sum ≡ summing l.timepos l.initial.sum l.i) × (mag l.sum.value ≤ (l.i + 1) * 2 ^ 32)
