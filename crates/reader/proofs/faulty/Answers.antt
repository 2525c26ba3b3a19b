-- `faulty` meets its contract.
use mathlib.Core.Path.{refl}
use native.Mathlib.Omega.{arith}
use Rattle.reader.specs.Steps.{tells}
use Rattle.reader.proofs.faulty.Goals as goal

pub returns : goal.returns
unfolding tells
returns c = record { at_each_time = (λ t. refl); gap_lt_quantity_top = omega arith }
