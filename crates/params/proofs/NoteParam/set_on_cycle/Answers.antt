-- A parameter in range has a delay and a repeat in range, so that what is reserved asks no more than the call.
use Rattle.std.proofs.Common.{◌≡◌, rules, arith, ◌&&◌, ap, ◌∙◌}
use lib.IntN.{◌+ℤ◌}
use Rattle.laws.specs.Lists.{all}
use Rattle.numbers.specs.Ranges.{is_time, is_length, is_number}
use Rattle.counted.specs.Numbers.{numbers}
use Rattle.reserved.specs.Setting.{length_of, rest_of, cycle_for, cycle_asked}
use Rattle.params.specs.Param.{ok_param}
use Rattle.params.specs.Calls.{reserving}
use Rattle.params.proofs.Calls.{by_making, param-delay, param-limits, limits-repeat}
use Rattle.params.proofs.NoteParam.set_on_cycle.Goals as goal

pub returns : goal.returns
unfolding cycle_asked
returns c =
    let a = c.args.self in
    let v = c.args.args.now in
    let e : c.cycle_asked.result ≡ cycle_asked c.args.timepos a.delay v = search rules in
    c.reserving.ensures ∙ ap (reserving (ok_param a) a) e
    ∙ by_making v a (is_time c.args.timepos && is_length a.delay && is_length (length_of v) && all is_number (rest_of v)) (ok_param a && is_time c.args.timepos && is_length (length_of v) && all is_number (rest_of v)) (cycle_for (c.args.timepos +ℤ a.delay) (length_of v) (numbers (rest_of v)))
    (λ e. let d = param-delay a e in let p = limits-repeat a (param-limits a e) in grind arith) (λ e. rw e)
