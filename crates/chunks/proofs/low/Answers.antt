-- `low` meets its contract: a bend is not below 0, and the cast leaves it as it is.
use mathlib.Core.Path.{ap}
use Prim.Native.Nat.{ℕ, ◌%◌}
use native.Mathlib.Omega.{arith}
use mir.Syntax.{w64}
use Rattle.numbers.specs.Ranges.{is_bend}
use Rattle.chunks.proofs.Leaves.{cast_fits, cast-cut}
use Rattle.chunks.proofs.low.Goals as goal

pub overflow_cast-result : goal.overflow_cast-result
unfolding is_bend
overflow_cast-result c = cast_fits 16383 c.args.bend c.requires w64 w64 c.ranges.bend (omega arith)

pub returns : goal.returns
unfolding is_bend
returns c = ap (λ (n : ℕ). n % 128) (cast-cut 16383 c.args.bend c.requires w64 c.ranges.bend)
