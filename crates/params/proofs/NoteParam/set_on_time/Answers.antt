-- A parameter in range has a delay and a repeat in range, so that what is reserved asks no more than the call.
use Rattle.std.proofs.Common.{◌≡◌, rules, arith, ◌&&◌, ap, ◌∙◌}
use lib.IntN.{◌+ℤ◌}
use Rattle.numbers.specs.Ranges.{is_time, is_length}
use Rattle.counted.specs.Numbers.{numbers}
use Rattle.counted.specs.Curves.{is_curve}
use Rattle.reserved.specs.Reserve.{curve_from}
use Rattle.reserved.specs.Setting.{curve_asked}
use Rattle.params.specs.Param.{ok_param}
use Rattle.params.specs.Calls.{reserving}
use Rattle.params.proofs.Calls.{by_making, param-delay, param-limits, limits-repeat}
use Rattle.params.proofs.NoteParam.set_on_time.Goals as goal

pub returns : goal.returns
unfolding curve_asked
returns c =
    let a = c.args.self in
    let v = c.args.values.now in
    let e : c.curve_asked.result ≡ curve_asked c.args.timepos a.delay v = search rules in
    c.reserving.ensures ∙ ap (reserving (ok_param a) a) e
    ∙ by_making v a (is_time c.args.timepos && is_length a.delay && is_curve v) (ok_param a && is_time c.args.timepos && is_curve v) (curve_from (c.args.timepos +ℤ a.delay) (numbers v))
    (λ e. let d = param-delay a e in let p = limits-repeat a (param-limits a e) in grind arith) (λ e. rw e)
