-- `is_listed` joins the two tests.
use mathlib.Core.Path.{refl}
use Rattle.playing.specs.Settled.{listed}
use Rattle.playing.proofs.is_listed.Goals as goal

pub returns : goal.returns
unfolding listed
returns c = refl
