use Rattle.std.proofs.Common.{rules}
use Rattle.layers.specs.Layers.{ok_layers, reserve_set, changed}
use Rattle.layers.proofs.Calls.{by_change}
use Rattle.layers.proofs.Layers.reserving.Goals as goal

pub returns-in-Ok : goal.returns-in-Ok
unfolding changed
returns-in-Ok c =
    let l = c.args.self in
    rw c.in-Ok.is (by_change (ok_layers l) l c.args.index (reserve_set c.in-Ok.reserve) c.changed.result (λ e. search rules) (λ e h. search rules) (λ e h. search rules))
