use Rattle.std.proofs.Common.{rules, ◌≡◌, ◌&&◌}
use Rattle.numbers.specs.Ranges.{is_random}
use Rattle.layers.specs.Layers.{ok_layers, random_set, changed}
use Rattle.layers.proofs.Calls.{by_change}
use Rattle.layers.proofs.Layers.set_v_sub_random.Goals as goal

pub returns : goal.returns
unfolding changed
returns c =
    let l = c.args.self in
    let t : c.is_random.result ≡ is_random c.args.random = search rules in
    by_change (ok_layers l && is_random c.args.random) l c.args.index (random_set c.args.random) c.changed.result (λ e. search rules) (λ e h. search rules) (λ e h. search rules)
