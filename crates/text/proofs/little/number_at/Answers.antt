-- `number_at`: the number whose four bytes stand there.
use Rattle.text.specs.Little.{number_at}
use Rattle.std.proofs.Common.{rules}
use Rattle.text.proofs.little.number_at.Goals as goal

pub returns : goal.returns
unfolding number_at
returns c = search rules
