use Rattle.std.proofs.Common.{rules, ◌&&◌}
use Rattle.params.specs.Param.{is_flag}
use Rattle.params.specs.Param.{ok_param, with_repeat}
use Rattle.params.proofs.Calls.{by_change}
use Rattle.params.proofs.NoteParam.set_repeat.Goals as goal

pub returns : goal.returns
returns c =
    let a = c.args.self in
    by_change (ok_param a && is_flag c.args.repeat) a (with_repeat a c.args.repeat) c.changed.result (λ e. search rules) (λ e. search rules)
