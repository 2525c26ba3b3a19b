-- `settled` chooses by the number that it asked for.
use Rattle.std.proofs.Common.{rules, w32, FitsSigned, to_z-of_z}
use Rattle.playing.proofs.Leaving.{unsettled, settling}
use Rattle.playing.proofs.settled.Goals as goal

pub returns-then-code-ne0 : goal.returns-then-code-ne0
returns-then-code-ne0 c = unsettled _ _ _ c.asked-code.ensures c.if-code-ne0.true

pub returns-else-code-ne0 : goal.returns-else-code-ne0
returns-else-code-ne0 c =
    let f : FitsSigned w32 c.args.taken.value = search rules in
    rw (to_z-of_z f, c.if-code-ne0.false) (settling _ _ _ c.asked-code.ensures c.if-code-ne0.false)
