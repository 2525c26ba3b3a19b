-- `cycles::owed_by`: the sum so far is what the first i owe, and no record owes more than 2^42.
use mathlib.Core.Path.{◌≡◌}
use Prim.Native.Nat.{◌*◌, ◌≤◌, ◌^◌}
use lib.ListN.{take}
use Rattle.cycles.specs.Due.{owed}
use Rattle.cycles.proofs.owed_by.Given as goal

abbrev pub invariant-loop-i : goal.invariant-loop-i
invariant-loop-i l = (l.sum ≡ owed (l.until) (take l.i l.table)) × (l.sum ≤ l.i * 2 ^ 42)
