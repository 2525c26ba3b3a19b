use Rattle.std.proofs.Common.{rules, ◌≡◌, ◌&&◌}
use Rattle.numbers.specs.Ranges.{is_number}
use Rattle.params.specs.Param.{ok_param, with_range}
use Rattle.params.proofs.Calls.{by_change}
use Rattle.params.proofs.NoteParam.set_range.Goals as goal

pub returns : goal.returns
returns c =
    let a = c.args.self in
    let t : c.is_number.result ≡ is_number c.args.low = search rules in
    let u : c.is_number-2.result ≡ is_number c.args.high = search rules in
    by_change (ok_param a && is_number c.args.low && is_number c.args.high) a (with_range a 1 c.args.low c.args.high) c.changed.result (λ e. search rules) (λ e. search rules)
