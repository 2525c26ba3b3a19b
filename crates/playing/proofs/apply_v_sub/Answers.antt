-- `apply_v_sub`: the layers' own call, and the track.
use mathlib.Core.Path.{ap, ap₂, ◌∙◌}
use mir.Syntax.{w64}
use mir.Val.{SFits}
use mir.Facts.{to_z-of_z}
use borrow.Author.Rules.{rules}
use Rattle.layers.specs.Calls.{apply_v_sub}
use Rattle.playing.specs.Calls.{summed_up}
use Rattle.playing.proofs.apply_v_sub.Goals as goal

pub returns : goal.returns
returns c =
    let f : SFits w64 c.args.track.timepos = search rules in
    c.summed_up.ensures ∙ ap (summed_up c.args.track) (c.apply_v_sub.ensures ∙ ap₂ (apply_v_sub c.args.track.layers) (to_z-of_z f) (to_z-of_z c.ranges.velocity))
