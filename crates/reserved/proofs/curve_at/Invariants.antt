-- `curve_at` walks the triples from the front (the law Curves): the curve stands where what is left of it stands after what is
-- left of the time.
use Rattle.std.proofs.Common.{◌≡◌, drop}
use Rattle.counted.specs.Numbers.{shown}
use Rattle.counted.specs.Curves.{triples}
use Rattle.reserved.specs.Curve.{curve_at}
use Rattle.reserved.proofs.curve_at.Given as goal

abbrev pub invariant-loop-i : goal.invariant-loop-i
invariant-loop-i l = curve_at (triples (shown l.list)) l.steps ≡ curve_at (drop l.i (triples (shown l.list))) l.left
