-- `judge` meets its contract: the list, what is weighed of it, and the room (Refusing).
use Rattle.std.proofs.Common.{◌∙◌, sym, arith}
use Rattle.std.proofs.lemmas.Result.{err_from_is_err_and}
use Rattle.eventlist.proofs.Sound.{list-within}
use Rattle.numbers.proofs.Asking.{asked-no, asked-yes}
use Rattle.chunks.proofs.Refusing.{room-length, no-list, listed}
use Rattle.chunks.proofs.judge.Goals as goal

pub returns-in_err-ask : goal.returns-in_err-ask
returns-in_err-ask c =
    let a = c.args in
    let p = err_from_is_err_and c.from_residual.result c.from_residual.ensures.1 in
    let n = asked-no c.list_ok.result c.in_err-ask.ensures in
    rw (p.1, p.2, n.1) (no-list a.store a.events.now a.count a.room (sym c.list_ok.ensures ∙ n.0))

pub measure-requires : goal.measure-requires
measure-requires c = list-within c.args.events.now c.args.count (sym c.list_ok.ensures ∙ asked-yes c.list_ok.result _ c.in_ok-ask.ensures)

pub returns-in_err-body : goal.returns-in_err-body
returns-in_err-body c =
    let a = c.args in
    let p = err_from_is_err_and c.from_residual-in_err-body.result c.from_residual-in_err-body.ensures.1 in
    let is = sym c.list_ok.ensures ∙ asked-yes c.list_ok.result _ c.in_ok-ask.ensures in
    rw (p.1, p.2) (rw (← c.in_err-body.ensures) at (listed a.store a.events.now a.count a.room is))

pub returns-in_err-ask-2 : goal.returns-in_err-ask-2
returns-in_err-ask-2 c =
    let a = c.args in
    let p = err_from_is_err_and c.from_residual-in_err-ask-2.result c.from_residual-in_err-ask-2.ensures.1 in
    let is = sym c.list_ok.ensures ∙ asked-yes c.list_ok.result _ c.in_ok-ask.ensures in
    let n = asked-no c.has_room.result c.in_err-ask-2.ensures in
    rw (p.1, p.2, n.1) (rw (← c.in_ok-body.ensures, sym c.has_room.ensures ∙ n.0) at (listed a.store a.events.now a.count a.room is))

pub overflow_add-result : goal.overflow_add-result
overflow_add-result c =
    omega (arith, room-length c.in_ok-body.body c.args.room (sym c.has_room.ensures ∙ asked-yes c.has_room.result _ c.in_ok-ask-2.ensures))

pub returns : goal.returns
returns c =
    let a = c.args in
    let is = sym c.list_ok.ensures ∙ asked-yes c.list_ok.result _ c.in_ok-ask.ensures in
    let y = sym c.has_room.ensures ∙ asked-yes c.has_room.result _ c.in_ok-ask-2.ensures in
    rw (← c.in_ok-body.ensures, y) at (listed a.store a.events.now a.count a.room is)
