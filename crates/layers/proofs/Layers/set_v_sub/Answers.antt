use Rattle.std.proofs.Common.{rules, ◌≡◌, ◌&&◌}
use Rattle.numbers.specs.Ranges.{is_number}
use Rattle.layers.specs.Layers.{ok_layers, value_set, changed}
use Rattle.layers.proofs.Calls.{by_change}
use Rattle.layers.proofs.Layers.set_v_sub.Goals as goal

pub returns : goal.returns
unfolding changed
returns c =
    let l = c.args.self in
    let t : c.is_number.result ≡ is_number c.args.velocity = search rules in
    by_change (ok_layers l && is_number c.args.velocity) l c.args.index (value_set c.args.velocity) c.changed.result (λ e. search rules) (λ e h. search rules) (λ e h. search rules)
