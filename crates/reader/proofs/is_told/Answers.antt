-- `is_told` meets its contract.
use mathlib.Core.Path.{refl}
use Rattle.reader.specs.Steps.{is_told}
use Rattle.reader.proofs.is_told.Goals as goal

pub returns : goal.returns
unfolding is_told
returns c = refl
