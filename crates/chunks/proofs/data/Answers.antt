-- `data` meets its contract: a data byte is not below 0, and the cast leaves it as it is.
use native.Mathlib.Omega.{arith}
use mir.Syntax.{w8, w64}
use Rattle.chunks.specs.Writing.{is_data}
use Rattle.chunks.proofs.Leaves.{cast_fits, cast-cut}
use Rattle.chunks.proofs.data.Goals as goal

pub overflow_cast-result : goal.overflow_cast-result
unfolding is_data
overflow_cast-result c = cast_fits 127 c.args.z c.requires w64 w8 c.ranges.z (omega arith)

pub returns : goal.returns
unfolding is_data
returns c = cast-cut 127 c.args.z c.requires w64 c.ranges.z
