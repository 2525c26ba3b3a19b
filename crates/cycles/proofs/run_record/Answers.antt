-- `cycles::run_record`: the loop's invariant and its steps are proofs/Running's; here they meet the slice.
use mathlib.Core.Path.{◌≡◌, ap, ◌∙◌}
use Prim.Native.Nat.{◌<◌, min}
use native.Mathlib.Omega.{arith}
use borrow.Author.Rules.{rules}
use mir.Syntax.{w64}
use mir.Facts.{to_z-of_z}
use Rattle.std.specs.Prelude.{Some, None}
use Rattle.eventlist.specs.Rows.{rows_of}
use Rattle.cycles.specs.Due.{due_count}
use Rattle.cycles.specs.Turns.{made, step_of}
use Rattle.cycles.proofs.Running as R
use Rattle.cycles.proofs.run_record.Goals.{After-min-made, in-Some, in_default}
use Rattle.cycles.proofs.run_record.Goals as goal

made-is : (c : After-min-made) → c.min-made.result ≡ made c.args.ask c.args.most c.args.c
made-is c =
    c.min-made.ensures
    ∙ ap (min c.args.most) (c.due_count.ensures ∙ ap (λ u. due_count u c.args.c) (to_z-of_z {w = w64} {z = c.args.ask.until} (search rules)))

pub loop-init : goal.loop-init
loop-init c =
    let a = c.args in
    R.begun a.ask a.c a.b (rows_of a.events.now) a.count a.most c.requires.0 c.requires.2

pub step-s-requires : goal.step-s-requires
step-s-requires c = c.loop.invariant.ok

pub append-n-requires : goal.append-n-requires
append-n-requires c =
    let a = c.args in
    let m = made-is (goal.at.append-n-requires c).After-min-made in
    let s = c.step-s.ensures in
    let f : (step_of c.loop.cycle a.ask c.loop.budget).event ≡ Some c.in-Some.event = rw (← s) c.in-Some.is in
    R.room a.ask a.c a.b (rows_of a.events.now) a.count a.most c.loop.cycle c.loop.budget (rows_of c.loop.events) c.loop.n c.loop.counter
    c.loop.invariant (omega arith) f c.requires.2 c.requires.3

pub loop-preserved : goal.loop-preserved
loop-preserved c =
    let a = c.args in
    let m = made-is (goal.at.loop-preserved c).After-min-made in
    let less : c.loop.counter < made a.ask a.most a.c = omega arith in
    let s = c.step-s.ensures in
    elim c.match-s.branch [
      | in-Some w ↦
          let f : (step_of c.loop.cycle a.ask c.loop.budget).event ≡ Some w.in-Some.event = rw (← s) w.in-Some.is in
          rw (s, w.events-is, w.n-is, w.append-n.ensures.0)
          (R.put a.ask a.c a.b (rows_of a.events.now) a.count a.most c.loop.cycle c.loop.budget (rows_of c.loop.events) c.loop.n c.loop.counter
          c.loop.invariant less c.requires.1 f (rows_of w.append-n.new.events) w.append-n.ensures.1)
      | in_default w ↦
          let f : (step_of c.loop.cycle a.ask c.loop.budget).event ≡ None = rw (← s) w.in_default.is in
          rw (s, w.events-is, w.n-is)
          (R.skip a.ask a.c a.b (rows_of a.events.now) a.count a.most c.loop.cycle c.loop.budget (rows_of c.loop.events) c.loop.n c.loop.counter
          c.loop.invariant less c.requires.1 f)
    ]

pub returns : goal.returns
returns c =
    let a = c.args in
    let m = made-is (goal.at.returns c).After-min-made in
    let e : c.loop.counter ≡ c.min-made.result = omega arith in
    rw (← e)
    (R.ended a.ask a.c a.b (rows_of a.events.now) a.count a.most c.loop.cycle c.loop.budget (rows_of c.loop.events) c.loop.n c.loop.counter c.loop.invariant
    (omega arith))
