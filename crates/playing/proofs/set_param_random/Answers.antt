-- `set_param_random`: the parameter's own call, and the track.
use mathlib.Core.Path.{ap, ap₂, ◌∙◌}
use mir.Facts.{to_z-of_z}
use Rattle.params.specs.Calls.{set_random}
use Rattle.playing.specs.Calls.{on_param}
use Rattle.playing.proofs.set_param_random.Goals as goal

pub returns : goal.returns
returns c =
    c.param_set.ensures ∙ ap (on_param c.args.which c.args.track) (c.set_random.ensures ∙ ap₂ set_random c.param_at.ensures (to_z-of_z c.ranges.random))
