-- What was planned, and what the rest comes to, is what all come to (`Passing`); the windows are laid down one after the other.
use mathlib.Core.Path.{◌≡◌}
use mathlib.Core.List.{◌++◌}
use Prim.Native.Nat.{◌-◌}
use lib.ListN.{length, take, drop}
use Rattle.waving.specs.Drawings.{drawings_of}
use Rattle.waving.specs.Passes.{passes}
use Rattle.waving.proofs.Passing.{Passing}
use Rattle.waving.proofs.plan_of.Given as goal

abbrev pub invariant-loop-i : goal.invariant-loop-i
invariant-loop-i l =
    Passing (drawings_of l.track l.n) l.b l.i l.rest × (length l.windows ≡ 32) × (take l.i l.windows ++ (passes (drop l.i (drawings_of l.track l.n)) l.rest).windows ≡ (passes (drawings_of l.track l.n) l.b).windows)

abbrev pub decreases-loop-i : goal.decreases-loop-i
decreases-loop-i l = l.total - l.i
