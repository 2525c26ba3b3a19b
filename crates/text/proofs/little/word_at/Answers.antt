-- `word_at`: the number whose eight bytes stand there.
use Rattle.text.specs.Little.{word_at}
use Rattle.std.proofs.Common.{rules}
use Rattle.text.proofs.little.word_at.Goals as goal

pub returns : goal.returns
unfolding word_at
returns c = search rules
