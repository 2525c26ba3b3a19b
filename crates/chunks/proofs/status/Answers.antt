-- `status` meets its contract: a channel is not below 0, the cast leaves it as it is, and the sum is at most 239.
use mathlib.Core.Path.{ap}
use Prim.Native.Nat.{ℕ, ◌+◌}
use native.Mathlib.Omega.{arith}
use mir.Syntax.{w8, w64}
use Rattle.numbers.specs.Ranges.{is_channel}
use Rattle.chunks.proofs.Leaves.{cast_fits, cast-cut, cut_most}
use Rattle.chunks.proofs.status.Goals as goal

pub overflow_cast-result : goal.overflow_cast-result
unfolding is_channel
overflow_cast-result c = cast_fits 15 c.args.channel c.requires.1 w64 w8 c.ranges.channel (omega arith)

pub overflow_add-result : goal.overflow_add-result
unfolding is_channel
overflow_add-result c =
    let a = c.args in
    omega (arith, c.requires.0, cast-cut 15 a.channel c.requires.1 w64 c.ranges.channel, cut_most 15 a.channel c.requires.1)

pub returns : goal.returns
unfolding is_channel
returns c = ap (λ (n : ℕ). c.args.of + n) (cast-cut 15 c.args.channel c.requires.1 w64 c.ranges.channel)
