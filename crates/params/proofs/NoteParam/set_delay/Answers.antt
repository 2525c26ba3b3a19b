use Rattle.std.proofs.Common.{rules, ◌≡◌, ◌&&◌}
use Rattle.numbers.specs.Ranges.{is_length}
use Rattle.params.specs.Param.{ok_param, with_delay}
use Rattle.params.proofs.Calls.{by_change}
use Rattle.params.proofs.NoteParam.set_delay.Goals as goal

pub returns : goal.returns
returns c =
    let a = c.args.self in
    let t : c.is_length.result ≡ is_length c.args.delay = search rules in
    by_change (ok_param a && is_length c.args.delay) a (with_delay a c.args.delay) c.changed.result (λ e. search rules) (λ e. search rules)
