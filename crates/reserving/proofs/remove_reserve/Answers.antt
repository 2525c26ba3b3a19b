-- `remove_reserve`: nothing is put.
use mathlib.Core.Path.{ap, ◌∙◌}
use mathlib.Core.Bool.{true}
use mir.Facts.{to_z-of_z}
use lib.IntN.{ℤ}
use Rattle.reserving.specs.Clearing.{freed}
use Rattle.reserving.specs.Setting.{remove_reserve}
use Rattle.reserving.proofs.remove_reserve.Goals as goal

pub returns : goal.returns
unfolding remove_reserve
returns c = c.freed.ensures ∙ ap (λ (z : ℤ). freed c.args.track c.args.size c.args.cycles z true true) (to_z-of_z c.ranges.target)
