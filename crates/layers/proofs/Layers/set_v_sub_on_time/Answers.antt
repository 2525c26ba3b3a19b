use Rattle.std.proofs.Common.{◌≡◌, rules, ◌&&◌, ap, ◌∙◌}
use lib.IntN.{◌+ℤ◌}
use Rattle.numbers.specs.Ranges.{is_time, is_length}
use Rattle.counted.specs.Numbers.{numbers}
use Rattle.counted.specs.Curves.{is_curve}
use Rattle.reserved.specs.Reserve.{curve_from}
use Rattle.reserved.specs.Setting.{curve_asked}
use Rattle.layers.specs.Layers.{ok_layers}
use Rattle.layers.specs.Calls.{reserving}
use Rattle.layers.proofs.Calls.{by_making}
use Rattle.layers.proofs.Layers.set_v_sub_on_time.Goals as goal

pub returns : goal.returns
unfolding curve_asked
returns c =
    let l = c.args.self in
    let v = c.args.values.now in
    let e : c.curve_asked.result ≡ curve_asked c.args.timepos c.args.delay v = search rules in
    c.reserving.ensures ∙ ap (reserving (ok_layers l) l c.args.index) e
    ∙ by_making v l c.args.index (is_time c.args.timepos && is_length c.args.delay && is_curve v) (ok_layers l && is_time c.args.timepos && is_length c.args.delay && is_curve v) (curve_from (c.args.timepos +ℤ c.args.delay) (numbers v)) (λ e. rw e) (λ e. rw e)
