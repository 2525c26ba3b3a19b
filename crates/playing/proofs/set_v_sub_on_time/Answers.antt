-- `set_v_sub_on_time`: the layers' own call, and the track.
use lib.IntN.{ℤ}
use mathlib.Core.Path.{ap, ap₂, ◌∙◌}
use mir.Syntax.{w32, w64}
use mir.Val.{SFits}
use mir.Facts.{to_z-of_z}
use borrow.Author.Rules.{rules}
use Rattle.layers.specs.Calls.{set_v_sub_on_time}
use Rattle.playing.specs.Calls.{on_layers}
use Rattle.playing.proofs.set_v_sub_on_time.Goals as goal

pub returns : goal.returns
returns c =
    let f : SFits w64 c.args.track.timepos = search rules in
    let g : SFits w32 c.args.track.v.delay = search rules in
    c.layers_set.ensures ∙ ap (on_layers c.args.track) (c.set_v_sub_on_time.ensures ∙ ap₂ (λ (t d : ℤ). set_v_sub_on_time c.args.track.layers c.args.index t d c.args.values.now) (to_z-of_z f) (to_z-of_z g))
