-- `high` meets its contract: a bend is not below 0, the cast leaves it as it is, and 128 times 128 is above it.
use mathlib.Core.Path.{ap}
use Prim.Native.Nat.{ℕ, ◌/◌}
use native.Mathlib.Omega.{arith}
use mir.Syntax.{w64}
use Rattle.numbers.specs.Ranges.{is_bend}
use Rattle.chunks.proofs.Leaves.{cast_fits, cast-cut, cut_most}
use Rattle.chunks.proofs.high.Goals as goal

pub overflow_cast-result : goal.overflow_cast-result
unfolding is_bend
overflow_cast-result c = cast_fits 16383 c.args.bend c.requires w64 w64 c.ranges.bend (omega arith)

pub overflow_cast-result-2 : goal.overflow_cast-result-2
unfolding is_bend
overflow_cast-result-2 c =
    let a = c.args in
    omega (arith, cast-cut 16383 a.bend c.requires w64 c.ranges.bend, cut_most 16383 a.bend c.requires)

pub returns : goal.returns
unfolding is_bend
returns c = ap (λ (n : ℕ). n / 128) (cast-cut 16383 c.args.bend c.requires w64 c.ranges.bend)
