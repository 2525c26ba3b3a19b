-- `record_at`: a record that is not refused is there whole (`fault-none`).
use Rattle.std.proofs.Common.{sym, ap, ◌∙◌, arith, Ok}
use Rattle.std.proofs.lemmas.Result.{err_from_is_err_and}
use Rattle.numbers.specs.Limits.{list_limit}
use Rattle.reel.specs.declared.records.Record.{Record}
use Rattle.reel.proofs.Reading.{Fits, mark-room, fault-none, record-missing, record-refused, record-read}
use Rattle.reel.proofs.records.record_at.Goals as goal

pub returns-in_default : goal.returns-in_default
returns-in_default c = record-missing list_limit c.args.tape.now c.args.at c.args.due (sym c.in_default.is ∙ c.mark_at.ensures)

pub returns-in_err-fault_at : goal.returns-in_err-fault_at
returns-in_err-fault_at c =
    let a = c.args in
    let p = err_from_is_err_and c.from_residual.result c.from_residual.ensures.1 in
    let is = sym c.in-Some.is ∙ c.mark_at.ensures in
    rw (p.1, p.2) (record-refused list_limit a.tape.now a.at a.due c.in-Some.mark is (sym c.in_err-fault_at.was ∙ c.fault_at.ensures))

pub count_at-requires : goal.count_at-requires
count_at-requires c = mark-room c.args.tape.now c.args.at c.in-Some.mark (sym c.in-Some.is ∙ c.mark_at.ensures)

pub sound_at-requires : goal.sound_at-requires
sound_at-requires c =
    let a = c.args in
    let m = c.in-Some.mark in
    let f : Fits list_limit a.tape.now a.at m = fault-none list_limit a.tape.now a.at a.due m (sym c.in-Some.is ∙ c.mark_at.ensures) (sym c.fault_at.ensures ∙ c.in_ok-fault_at.was) in
    let e = c.count_at.ensures in
    (omega (arith, f.few, e), omega (arith, f.room, e))

pub returns : goal.returns
returns c =
    let a = c.args in
    let is = sym c.in-Some.is ∙ c.mark_at.ensures in
    ap (λ (r : Record). Ok r) c.sound_at.ensures
    ∙ record-read list_limit a.tape.now a.at a.due c.in-Some.mark is (sym c.in_ok-fault_at.was ∙ c.fault_at.ensures) c.count_at.ensures
