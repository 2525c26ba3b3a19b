use Rattle.std.proofs.Common.{rules, ◌≡◌, get_or, refl, length, arith, ap, ◌∙◌}
use Rattle.laws.proofs.Reading.{get_d_any}
use Rattle.numbers.specs.Limits.{layer_limit}
use Rattle.layers.specs.Layers.{fresh_layer, changed, grown}
use Rattle.layers.specs.declared.Layers.{Layers}
use Rattle.layers.proofs.Parts.{no_layer}
use Rattle.layers.proofs.Layers.changed.Goals as goal

pub returns-clause-changed : goal.returns-clause-changed
unfolding changed
returns-clause-changed g c =
    let l = c.grow-layers.result in
    let long : length l.items ≡ layer_limit = search rules in
    let q : get_or l.items c.args.index no_layer ≡ get_or (grown c.args.self c.args.index).items c.args.index fresh_layer = get_d_any l.items c.args.index no_layer fresh_layer (omega arith) ∙ ap (λ (x : Layers). get_or x.items c.args.index fresh_layer) c.grow-layers.ensures in
    λ e h. (refl, (_, record { shown = _; shows = q; left = _; met = c.change.ensures; leaves = refl }, rw c.grow-layers.ensures))
