-- `summed_up` asks, and stores the layers beside the velocity.
use Rattle.std.proofs.Common.{rules, Bool, ap, ◌∙◌, w64, FitsSigned, to_z-of_z}
use Rattle.playing.specs.Calls.{asked}
use Rattle.playing.proofs.Answers.{unsummed, summing}
use Rattle.playing.proofs.summed_up.Goals as goal

pub returns-then-code-ne0 : goal.returns-then-code-ne0
returns-then-code-ne0 c =
    let n = c.asked-code.ensures ∙ ap (λ (ok : Bool). asked ok c.args.sum.code) c.track_ok.ensures in
    unsummed _ _ n c.if-code-ne0.true

pub returns : goal.returns
returns c =
    let n = c.asked-code.ensures ∙ ap (λ (ok : Bool). asked ok c.args.sum.code) c.track_ok.ensures in
    let f : FitsSigned w64 c.args.sum.value = search rules in
    rw (to_z-of_z f) (summing _ _ n c.if-code-ne0.false)
