-- `set_param_range`: the parameter's own call, and the track.
use mathlib.Core.Path.{ap, ◌∙◌}
use mir.Facts.{to_z-of_z}
use Rattle.params.specs.Calls.{set_range}
use Rattle.playing.specs.Calls.{on_param}
use Rattle.playing.proofs.Answers.{ap₃}
use Rattle.playing.proofs.set_param_range.Goals as goal

pub returns : goal.returns
returns c =
    c.param_set.ensures ∙ ap (on_param c.args.which c.args.track) (c.set_range.ensures ∙ ap₃ set_range c.param_at.ensures (to_z-of_z c.ranges.low) (to_z-of_z c.ranges.high))
