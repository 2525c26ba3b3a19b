-- `next_taken` meets its contract: none of the events passed is taken, and those that stand before the next one are counted (Leading).
use mathlib.Core.List.{List}
use mathlib.Core.Path.{◌≡◌}
use Prim.Native.Nat.{ℕ, ◌+◌}
use lib.IntN.{ℤ}
use lib.ListN.{drop}
use Rattle.laws.specs.Moves.{in_front}
use Rattle.eventlist.specs.declared.Window.{Window}
use Rattle.eventlist.specs.Rows.{events_of}
use Rattle.eventlist.specs.Windows.{taken_by_any}
use Rattle.eventlist.proofs.next_taken.Given as goal

abbrev pub ahead : List ℤ → ℕ → List Window → ℕ → ℕ
ahead l count ws j = in_front (taken_by_any ws) (drop j (events_of l count))

abbrev pub invariant-loop-j : goal.invariant-loop-j
invariant-loop-j l = l.i + ahead l.events l.count l.windows l.i ≡ l.j + ahead l.events l.count l.windows l.j
