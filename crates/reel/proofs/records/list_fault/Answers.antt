-- `list_fault`: the tests, in the definition's order.
use Rattle.std.proofs.Common.{◌∙◌, ◌-◌, ◌*◌, sym, ap, arith, length, w32, to_z-of_z}
use Rattle.std.proofs.lemmas.Result.{err_from_is_err_and}
use Rattle.laws.specs.Integers.{cut}
use Rattle.laws.proofs.Tests.{is_at}
use Rattle.numbers.specs.Ranges.{is_target}
use Rattle.reel.specs.Records.{is_count}
use Rattle.reel.proofs.Asking.{asked-no, asked-yes, asked-within}
use Rattle.reel.proofs.Reading.{no_target, no-count, short-list, whole-list}
use Rattle.reel.proofs.records.list_fault.Goals as goal

pub returns-in_err-ask : goal.returns-in_err-ask
returns-in_err-ask c =
    let p = err_from_is_err_and c.from_residual.result c.from_residual.ensures.1 in
    let n = asked-no c.is_target.result c.in_err-ask.ensures in
    rw (p.1, p.2, n.1) (no_target _ _ _ _ _ (sym (is_at w32 is_target c.ranges.target.sfits c.is_target.ensures) ∙ n.0))

pub returns-in_err-ask-2 : goal.returns-in_err-ask-2
returns-in_err-ask-2 c =
    let p = err_from_is_err_and c.from_residual-in_err-ask-2.result c.from_residual-in_err-ask-2.ensures.1 in
    let t = sym (is_at w32 is_target c.ranges.target.sfits c.is_target.ensures) ∙ asked-yes c.is_target.result _ c.in_ok-ask.ensures in
    let n = asked-no c.is_count.result c.in_err-ask-2.ensures in
    rw (p.1, p.2, n.1) (no-count _ _ _ _ _ t (sym (is_at w32 is_count c.ranges.n.sfits c.is_count.ensures) ∙ n.0))

pub returns : goal.returns
returns c =
    let a = c.args in
    let t = sym (is_at w32 is_target c.ranges.target.sfits c.is_target.ensures) ∙ asked-yes c.is_target.result _ c.in_ok-ask.ensures in
    let k = sym (is_at w32 is_count c.ranges.n.sfits c.is_count.ensures) ∙ asked-yes c.is_count.result _ c.in_ok-ask-2.ensures in
    let counted = c.count_of.ensures ∙ ap cut (to_z-of_z c.ranges.n) in
    let r = c.requires in
    rw c.ask-3.ensures (asked-within (4 * c.count_of.result) (length a.tape.now - a.at) _
    (λ h. whole-list _ _ _ _ _ t k (omega arith))
    (λ h. short-list _ _ _ _ _ t k (omega arith)))
