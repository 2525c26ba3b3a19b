use Rattle.std.proofs.Common.{rules}
use Rattle.params.specs.Param.{ok_param, with_reserve}
use Rattle.params.proofs.Calls.{by_change}
use Rattle.params.proofs.NoteParam.reserving.Goals as goal

pub returns-in-Ok : goal.returns-in-Ok
returns-in-Ok c =
    let a = c.args.self in
    rw c.in-Ok.is (by_change (ok_param a) a (with_reserve a c.in-Ok.reserve) c.changed.result (λ e. search rules) (λ e. search rules))
