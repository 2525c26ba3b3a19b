-- `set_v_sub`: the layers' own call, and the track.
use mathlib.Core.Path.{ap, ◌∙◌}
use mir.Facts.{to_z-of_z}
use Rattle.layers.specs.Calls.{set_v_sub}
use Rattle.playing.specs.Calls.{on_layers}
use Rattle.playing.proofs.set_v_sub.Goals as goal

pub returns : goal.returns
returns c =
    c.layers_set.ensures ∙ ap (on_layers c.args.track) (c.set_v_sub.ensures ∙ ap (set_v_sub c.args.track.layers c.args.index) (to_z-of_z c.ranges.velocity))
