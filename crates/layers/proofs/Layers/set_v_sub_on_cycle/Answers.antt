use Rattle.std.proofs.Common.{◌≡◌, rules, ◌&&◌, ap, ◌∙◌}
use lib.IntN.{◌+ℤ◌}
use Rattle.laws.specs.Lists.{all}
use Rattle.numbers.specs.Ranges.{is_time, is_length, is_number}
use Rattle.counted.specs.Numbers.{numbers}
use Rattle.reserved.specs.Setting.{length_of, rest_of, cycle_for, cycle_asked}
use Rattle.layers.specs.Layers.{ok_layers}
use Rattle.layers.specs.Calls.{reserving}
use Rattle.layers.proofs.Calls.{by_making}
use Rattle.layers.proofs.Layers.set_v_sub_on_cycle.Goals as goal

pub returns : goal.returns
unfolding cycle_asked
returns c =
    let l = c.args.self in
    let v = c.args.args.now in
    let e : c.cycle_asked.result ≡ cycle_asked c.args.timepos c.args.delay v = search rules in
    c.reserving.ensures ∙ ap (reserving (ok_layers l) l c.args.index) e
    ∙ by_making v l c.args.index (is_time c.args.timepos && is_length c.args.delay && is_length (length_of v) && all is_number (rest_of v)) (ok_layers l && is_time c.args.timepos && is_length c.args.delay && is_length (length_of v) && all is_number (rest_of v)) (cycle_for (c.args.timepos +ℤ c.args.delay) (length_of v) (numbers (rest_of v))) (λ e. rw e) (λ e. rw e)
