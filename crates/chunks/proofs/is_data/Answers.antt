-- `is_data` meets its contract: the test is the range of the definition.
use mir.Syntax.{w64}
use Rattle.laws.proofs.Tests.{is_at}
use Rattle.chunks.specs.Writing.{is_data}
use Rattle.chunks.proofs.is_data.Goals as goal

pub returns : goal.returns
unfolding is_data
returns c = is_at w64 is_data c.ranges.z.sfits c.within.ensures
