-- `time_taken` asks, and stores the parameter beside the value.
use Rattle.std.proofs.Common.{rules, Bool, ◌&&◌, ap, ◌∙◌, w32, FitsSigned, to_z-of_z}
use Rattle.playing.specs.Which.{is_param}
use Rattle.playing.specs.Calls.{asked, time_taken}
use Rattle.playing.proofs.Answers.{unvalued, valued}
use Rattle.playing.proofs.time_taken.Goals as goal

pub returns-then-code-ne0 : goal.returns-then-code-ne0
unfolding time_taken
returns-then-code-ne0 c =
    let n = c.asked-code.ensures ∙ ap (λ (ok : Bool). asked (ok && is_param c.args.which) c.args.taken.code) c.track_ok.ensures in
    unvalued n _ _ _ c.if-code-ne0.true

pub returns : goal.returns
unfolding time_taken
returns c =
    let n = c.asked-code.ensures ∙ ap (λ (ok : Bool). asked (ok && is_param c.args.which) c.args.taken.code) c.track_ok.ensures in
    let f : FitsSigned w32 c.args.taken.value = search rules in
    rw (to_z-of_z f, c.put_param.ensures) (valued n _ _ _ c.if-code-ne0.false)
