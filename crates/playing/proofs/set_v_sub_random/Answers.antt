-- `set_v_sub_random`: the layers' own call, and the track.
use mathlib.Core.Path.{ap, ◌∙◌}
use mir.Facts.{to_z-of_z}
use Rattle.layers.specs.Calls.{set_v_sub_random}
use Rattle.playing.specs.Calls.{on_layers}
use Rattle.playing.proofs.set_v_sub_random.Goals as goal

pub returns : goal.returns
returns c =
    c.layers_set.ensures ∙ ap (on_layers c.args.track) (c.set_v_sub_random.ensures ∙ ap (set_v_sub_random c.args.track.layers c.args.index) (to_z-of_z c.ranges.random))
