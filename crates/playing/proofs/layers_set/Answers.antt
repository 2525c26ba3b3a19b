-- `layers_set` asks, and stores the layers.
use Rattle.std.proofs.Common.{Bool, ap, ◌∙◌}
use Rattle.state.proofs.Answers.{refused-by, done-by}
use Rattle.playing.specs.Calls.{asked, on_layers}
use Rattle.playing.proofs.layers_set.Goals as goal

pub returns-then-code-eq0 : goal.returns-then-code-eq0
unfolding on_layers
returns-then-code-eq0 c =
    let n = c.asked-code.ensures ∙ ap (λ (ok : Bool). asked ok c.args.after.code) c.track_ok.ensures in
    rw c.if-code-eq0.true (done-by n _ _ c.if-code-eq0.true)

pub returns-else-code-eq0 : goal.returns-else-code-eq0
unfolding on_layers
returns-else-code-eq0 c =
    let n = c.asked-code.ensures ∙ ap (λ (ok : Bool). asked ok c.args.after.code) c.track_ok.ensures in
    refused-by n _ _ c.if-code-eq0.false
