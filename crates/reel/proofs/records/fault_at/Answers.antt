-- `fault_at`: the tests, in the definition's order; a mark whose turn it is has all its numbers.
use Rattle.std.proofs.Common.{ℕ, ◌+◌, ◌*◌, ap, ◌∙◌, sym, arith, w32, to_z-of_z}
use Rattle.std.proofs.lemmas.Result.{err_from_is_err_and}
use borrow.Author.Rules.{sfits_of}
use Rattle.reel.proofs.Asking.{asked-no, asked-yes}
use Rattle.reel.proofs.Reading.{width-some, mark-room, not-due, no-list, asked-list}
use Rattle.reel.proofs.records.fault_at.Goals as goal

pub returns-in_err-ask : goal.returns-in_err-ask
returns-in_err-ask c =
    let p = err_from_is_err_and c.from_residual.result c.from_residual.ensures.1 in
    let n = asked-no c.is_due.result c.in_err-ask.ensures in
    rw (p.1, p.2, n.1) (not-due _ c.args.tape.now c.args.at c.args.due c.args.mark (sym c.is_due.ensures ∙ n.0))

pub overflow_add-at : goal.overflow_add-at
overflow_add-at c =
    let a = c.args in
    omega (arith, mark-room a.tape.now a.at a.mark c.requires)

pub number_at-target-requires : goal.number_at-target-requires
number_at-target-requires c =
    let a = c.args in
    omega (arith, width-some a.mark, mark-room a.tape.now a.at a.mark c.requires)

pub last_at-n-requires : goal.last_at-n-requires
last_at-n-requires c =
    let a = c.args in
    mark-room a.tape.now a.at a.mark c.requires

pub overflow_add-at-then-has_list : goal.overflow_add-at-then-has_list
overflow_add-at-then-has_list c =
    let a = c.args in
    omega (arith, mark-room a.tape.now a.at a.mark c.requires)

pub overflow_add-at-then-has_list-2 : goal.overflow_add-at-then-has_list-2
overflow_add-at-then-has_list-2 c =
    let a = c.args in
    omega (arith, mark-room a.tape.now a.at a.mark c.requires, c.width.ensures.value)

pub list_fault-requires : goal.list_fault-requires
list_fault-requires c =
    let a = c.args in
    omega (arith, mark-room a.tape.now a.at a.mark c.requires, c.width.ensures.value)

pub returns-then-has_list : goal.returns-then-has_list
returns-then-has_list c =
    let a = c.args in
    let d = sym c.is_due.ensures ∙ asked-yes c.is_due.result _ c.in_ok-ask.ensures in
    c.list_fault.ensures
    ∙ asked-list _ a.tape.now a.at a.due a.mark d (sym c.has_list.ensures ∙ c.if-has_list.true)
    (ap (λ (n : ℕ). a.at + 2 + 4 * n) c.width.ensures.value)
    (to_z-of_z {w = w32} (sfits_of c.number_at-target.type_inv) ∙ c.number_at-target.ensures)
    (to_z-of_z {w = w32} (sfits_of c.last_at-n.type_inv) ∙ c.last_at-n.ensures)

pub returns-else-has_list : goal.returns-else-has_list
returns-else-has_list c =
    let a = c.args in
    let d = sym c.is_due.ensures ∙ asked-yes c.is_due.result _ c.in_ok-ask.ensures in
    no-list _ a.tape.now a.at a.due a.mark d (sym c.has_list.ensures ∙ c.if-has_list.false)
