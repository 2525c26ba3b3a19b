use Rattle.std.proofs.Common.{rules, ◌≡◌, ◌&&◌}
use Rattle.numbers.specs.Ranges.{is_random}
use Rattle.params.specs.Param.{ok_param, with_random}
use Rattle.params.proofs.Calls.{by_change}
use Rattle.params.proofs.NoteParam.set_random.Goals as goal

pub returns : goal.returns
returns c =
    let a = c.args.self in
    let t : c.is_random.result ≡ is_random c.args.random = search rules in
    by_change (ok_param a && is_random c.args.random) a (with_random a c.args.random) c.changed.result (λ e. search rules) (λ e. search rules)
