use Rattle.std.proofs.Common.{rules, pos}
use Rattle.params.specs.Param.{ok_param, with_range}
use Rattle.params.proofs.Calls.{by_change}
use Rattle.params.proofs.NoteParam.clear_range.Goals as goal

pub returns : goal.returns
returns c =
    let a = c.args.self in
    by_change (ok_param a) a (with_range a 0 (pos 0) (pos 0)) c.changed.result (λ e. search rules) (λ e. search rules)
