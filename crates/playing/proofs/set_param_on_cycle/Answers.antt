-- `set_param_on_cycle`: the parameter's own call, and the track.
use mathlib.Core.Path.{ap, ap₂, ◌∙◌}
use mir.Syntax.{w64}
use mir.Val.{SFits}
use mir.Facts.{to_z-of_z}
use borrow.Author.Rules.{rules}
use lib.IntN.{ℤ}
use Rattle.params.specs.declared.NoteParam.{NoteParam}
use Rattle.params.specs.Calls.{set_on_cycle}
use Rattle.playing.specs.Calls.{on_param}
use Rattle.playing.proofs.set_param_on_cycle.Goals as goal

pub returns : goal.returns
returns c =
    let f : SFits w64 c.args.track.timepos = search rules in
    c.param_set.ensures ∙ ap (on_param c.args.which c.args.track) (c.set_on_cycle.ensures ∙ ap₂ (λ (x : NoteParam) (t : ℤ). set_on_cycle x t c.args.args.now) c.param_at.ensures (to_z-of_z f))
