-- `sum_layers` adds one layer a turn (the law Sums).
use mathlib.Core.Path.{◌≡◌, ap, ◌∙◌}
use native.Mathlib.Omega.{arith}
use lib.ListN.{length, get_or}
use mir.Syntax.{w32, w64}
use mir.Val.{to_z, of_z}
use borrow.Author.Rules.{rules}
use Rattle.numbers.specs.Limits.{layer_limit}
use Rattle.layers.specs.declared.Velocity.{Velocity}
use Rattle.layers.specs.Layers.{fresh_layer, ok_layer}
use Rattle.layers.specs.Calls.{further}
use Rattle.layers.proofs.Parts.{layers-count, layers-at}
use Rattle.layers.proofs.Sums.{summing-at, summing-more}
use Rattle.layers.proofs.sum_layers.Goals as goal

pub advance-sum-requires-clause-i_lt_layer_limit : goal.advance-sum-requires-clause-i_lt_layer_limit
advance-sum-requires-clause-i_lt_layer_limit c = let k = layers-count c.args.layers c.requires.layers_value in omega arith

pub advance-sum-requires-clause-fresh_layer_value : goal.advance-sum-requires-clause-fresh_layer_value
advance-sum-requires-clause-fresh_layer_value c =
    let a = c.args.layers in
    let m : length a.items ≡ layer_limit = search rules in
    let k = layers-count a c.requires.layers_value in
    let z : Velocity = record { code = 0; value = to_z w64 (of_z w64 (to_z w32 (of_z w32 c.args.velocity))); layers = a } in
    ap (λ (x : Velocity). ok_layer (get_or x.layers.items c.loop-i.i fresh_layer)) c.loop-i.invariant.0
    ∙ ap ok_layer (summing-at (to_z w64 (of_z w64 c.args.timepos)) z c.loop-i.i (omega arith))
    ∙ layers-at a c.requires.layers_value c.loop-i.i m (omega arith)

pub loop-i-preserved : goal.loop-i-preserved
loop-i-preserved c =
    let a = c.args.layers in
    let m : length a.items ≡ layer_limit = search rules in
    let k = layers-count a c.requires.layers_value in
    let t = to_z w64 (of_z w64 c.args.timepos) in (
      c.advance-sum.ensures.value ∙ ap (λ (x : Velocity). further x c.loop-i.i t) c.loop-i.invariant.0 ∙ summing-more t _ c.loop-i.i (omega arith),
      omega (arith, c.advance-sum.ensures.value_bound_2),
    )
