-- `put_end`: each way out hands its tests to the definition's case (`Ends`).
use mathlib.Core.Path.{sym, ◌∙◌}
use native.Mathlib.Omega.{arith}
use Rattle.lines.proofs.Putting.{nothing}
use Rattle.lines.proofs.Ends.{tested, room, unprinted, refused, done}
use Rattle.lines.proofs.put_end.Goals as goal

pub returns-then-not-room-few : goal.returns-then-not-room-few
returns-then-not-room-few c =
    let a = c.args in
    let none = sym (tested a.end.count a.events.now a.out.now) ∙ c.if-not-room-few.true in
    rw (← unprinted a.end a.events.now a.out.now none) (nothing 0 a.out.now)

pub put_refusal-requires : goal.put_refusal-requires
put_refusal-requires c =
    let a = c.args in
    let fits = sym (tested a.end.count a.events.now a.out.now) ∙ c.if-not-room-few.false in
    omega (arith, (room a.end.count a.events.now a.out.now fits).long)

pub returns-then-end-ne0 : goal.returns-then-end-ne0
returns-then-end-ne0 c =
    let a = c.args in
    let fits = sym (tested a.end.count a.events.now a.out.now) ∙ c.if-not-room-few.false in
    rw (← refused a.end a.events.now a.out.now fits c.if-end-ne0.true) c.put_refusal.ensures

pub put_done-requires : goal.put_done-requires
put_done-requires c =
    let a = c.args in
    let fits = sym (tested a.end.count a.events.now a.out.now) ∙ c.if-not-room-few.false in
    let r = room a.end.count a.events.now a.out.now fits in
    (r.there, omega (arith, r.long, r.few))

pub returns-else-end-ne0 : goal.returns-else-end-ne0
returns-else-end-ne0 c =
    let a = c.args in
    let fits = sym (tested a.end.count a.events.now a.out.now) ∙ c.if-not-room-few.false in
    rw (← done a.end a.events.now a.out.now fits c.if-end-ne0.false) c.put_done.ensures
