-- `play`: the loop keeps that playing on gives what playing from the start gives (`Going`). The measure is what is left of the tape.
use mathlib.Core.Path.{refl, ap, ◌∙◌}
use native.Mathlib.Omega.{arith}
use lib.ListN.{length}
use Rattle.spool.specs.declared.Run.{Run}
use Rattle.spool.specs.Play.{pass, begun, refused, ended}
use Rattle.spool.proofs.Steps.{parts, joined, moves}
use Rattle.spool.proofs.Playing.{going_start, going_step, going_end, too_long, played}
use Rattle.spool.proofs.play.Goals as goal

pub returns-then-n-gt-TAPE_LIMIT : goal.returns-then-n-gt-TAPE_LIMIT
returns-then-n-gt-TAPE_LIMIT c =
    let a = c.args in
    let n = length a.tape.now in
    let t = parts (too_long a.tape.now a.events.now c.if-n-gt-TAPE_LIMIT.true) in
    (c.end.ensures ∙ ap (ended n) (c.refuse.ensures ∙ ap (λ (x : Run). refused x 8 n) c.begin-run.ensures ∙ t.0), t.1)

pub loop-run-init : goal.loop-run-init
loop-run-init c =
    let a = c.args in
    (refl, rw c.begin-run.ensures (going_start a.tape.now (pass begun a.events.now) (omega arith)))

pub step-requires : goal.step-requires
step-requires c = (c.loop-run.invariant.1.sofar, c.loop-run-test.true, c.if-n-gt-TAPE_LIMIT.false)

pub loop-run-smaller : goal.loop-run-smaller
loop-run-smaller c =
    let l = c.loop-run in
    let a = c.args in
    let h = c.loop-run-test.true in
    let m = moves a.tape.now l.run l.events h in
    omega (arith, m.0, ap (λ (x : Run). x.at) c.step.ensures.0, h)

pub loop-run-preserved : goal.loop-run-preserved
loop-run-preserved c =
    let l = c.loop-run in
    let a = c.args in
    let t = c.step in
    (refl, going_step a.tape.now (pass begun a.events.now) l.run l.events l.invariant.1 c.loop-run-test.true (pass t.new.run t.new.events) (joined t.ensures.0 t.ensures.1) t.auto.events)

pub shape_of-events : goal.shape_of-events
shape_of-events c = c.loop-run.invariant.1.long

pub returns : goal.returns
returns c =
    let l = c.loop-run in
    let a = c.args in
    let t = going_end a.tape.now (pass begun a.events.now) (pass l.run l.events) l.invariant.1 c.loop-run-test.false in
    let u = parts (t ∙ played a.tape.now a.events.now c.if-n-gt-TAPE_LIMIT.false) in
    (c.end-2.ensures ∙ ap (ended (length a.tape.now)) u.0, u.1)
