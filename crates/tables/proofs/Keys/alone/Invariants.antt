-- what is left decides (laws, Keys)
use Rattle.std.proofs.Common.{take}
use Rattle.laws.proofs.Keys.{Rest}
use Rattle.tables.proofs.Keys.alone.Given as goal

abbrev pub invariant-loop-i : goal.invariant-loop-i
invariant-loop-i l = Rest (take l.n l.self.items) l.i
