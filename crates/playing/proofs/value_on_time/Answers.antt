-- `value_on_time`: the parameter's own call, and the track.
use mathlib.Core.Path.{ap, ◌∙◌}
use mir.Syntax.{w64}
use mir.Val.{SFits}
use mir.Facts.{to_z-of_z}
use borrow.Author.Rules.{rules}
use Rattle.params.specs.Calls.{calc_on_time}
use Rattle.playing.specs.Calls.{time_taken}
use Rattle.playing.proofs.Answers.{ap₃}
use Rattle.playing.proofs.value_on_time.Goals as goal

pub returns : goal.returns
returns c =
    let f : SFits w64 c.args.track.timepos = search rules in
    c.time_taken.ensures ∙ ap (time_taken c.args.which c.args.track) (c.calc_on_time.ensures ∙ ap₃ calc_on_time c.param_at.ensures (to_z-of_z f) (to_z-of_z c.ranges.def))
