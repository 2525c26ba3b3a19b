-- `step`: each way out hands its tests to the definition's case (`unread`, `refused-call`, `done-call`).
use mathlib.Core.Path.{sym, ap, ◌∙◌}
use Prim.Native.Nat.{ℕ}
use native.Mathlib.Omega.{arith}
use lib.ListN.{length}
use Rattle.numbers.specs.Limits.{list_limit}
use Rattle.reel.proofs.Reaching.{reached}
use Rattle.spool.specs.Play.{refused}
use Rattle.spool.proofs.Steps.{parts-by, left_by_lem, unread, refused-call, done-call}
use Rattle.spool.proofs.step.Goals as goal

pub returns-in-Err : goal.returns-in-Err
returns-in-Err c =
    let a = c.args in
    let n = length a.tape.now in
    parts-by (c.refuse.ensures ∙ ap (λ (k : ℕ). refused a.run.now k n) c.number.ensures)
    (unread a.tape.now a.run.now a.events.now c.in-Err.refusal (sym c.in-Err.is ∙ c.record_at.ensures))

pub carry_out-requires : goal.carry_out-requires
carry_out-requires c =
    let a = c.args in
    let n = reached list_limit a.tape.now a.run.now.at a.run.now.due c.in-Ok.r (sym c.record_at.ensures ∙ c.in-Ok.is) in
    omega (arith, n.few)

pub returns-in-Err-carry_out : goal.returns-in-Err-carry_out
returns-in-Err-carry_out c =
    let a = c.args in
    let k = c.carry_out in
    parts-by c.refuse-in-Err-carry_out.ensures
    (refused-call a.tape.now a.run.now a.events.now c.in-Ok.r (sym c.in-Ok.is ∙ c.record_at.ensures) _ c.in-Err-carry_out.code (left_by_lem (sym c.in-Err-carry_out.is ∙ k.ensures.0) k.ensures.1))

pub returns-in-Ok-carry_out : goal.returns-in-Ok-carry_out
returns-in-Ok-carry_out c =
    let a = c.args in
    let k = c.carry_out in
    parts-by c.pass_on.ensures
    (done-call a.tape.now a.run.now a.events.now c.in-Ok.r (sym c.in-Ok.is ∙ c.record_at.ensures) _ c.in-Ok-carry_out.state (left_by_lem (sym c.in-Ok-carry_out.is ∙ k.ensures.0) k.ensures.1))
