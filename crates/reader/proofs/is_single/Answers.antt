-- `is_single` meets its contract.
use mathlib.Core.Path.{refl}
use Rattle.chunks.specs.Reader.{single}
use Rattle.reader.proofs.is_single.Goals as goal

pub returns : goal.returns
unfolding single
returns c = refl
