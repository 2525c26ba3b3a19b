use Rattle.std.proofs.Common.{rules, ◌≡◌, ◌&&◌}
use Rattle.numbers.specs.Ranges.{is_number}
use Rattle.params.specs.Param.{ok_param, with_max}
use Rattle.params.proofs.Calls.{by_change}
use Rattle.params.proofs.NoteParam.set_max.Goals as goal

pub returns : goal.returns
returns c =
    let a = c.args.self in
    let t : c.is_number.result ≡ is_number c.args.max = search rules in
    by_change (ok_param a && is_number c.args.max) a (with_max a 1 c.args.max) c.changed.result (λ e. search rules) (λ e. search rules)
