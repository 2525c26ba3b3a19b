-- The quotient of the definition; its size is the law `nearest-le`.
use mathlib.Core.Path.{refl}
use Rattle.sines.proofs.Line.{nearest-le}
use Rattle.sines.proofs.nearest_of.Goals as goal

pub returns : goal.returns
returns c = (refl, nearest-le c.args.n c.args.d c.requires.0 c.requires.1)
