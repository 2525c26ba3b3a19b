-- Layers in range stay in range, whatever a note takes of them.
--     heard-kept   one layer
--     apply-kept   all of them, after a note
use mathlib.Core.Path.{◌≡◌, ◌∙◌}
use mathlib.Core.Bool.{Bool, true, false, cond, ◌&&◌}
use mathlib.Core.List.{map}
use native.Mathlib.Omega.{arith}
use lib.Dec.{eqb}
use lib.IntN.{ℤ, pos}
use lib.ListN.{length, drop, length-map}
use lib.Seq.{take_at, length-take-le}
use Rattle.laws.specs.Lists.{counted}
use Rattle.laws.proofs.Parts.{all_map}
use Rattle.numbers.specs.Limits.{layer_limit}
use Rattle.numbers.specs.Ranges.{is_time, is_number}
use Rattle.reserved.specs.Reserve.{on_note, timed, noted}
use Rattle.reserved.proofs.Kept.{noted-kept, noted-number, timed-kept}
use Rattle.layers.specs.declared.Layer.{Layer}
use Rattle.layers.specs.declared.Layers.{Layers}
use Rattle.layers.specs.declared.Velocity.{Velocity}
use Rattle.layers.specs.Layers.{ok_layer, ok_layers, from_note, from_time, heard_of, advanced, first}
use Rattle.layers.specs.Calls.{summed, apply_v_sub}
use Rattle.layers.proofs.Parts.{layer-value, layer-random, layer-reserve, layers-some, layers-few, layers-each, layers-count}

module _ (t : ℤ) (a : Layer) (e : ok_layer a ≡ true) where
  pub heard-kept : ok_layer (heard_of t a).layer ≡ true
  unfolding heard_of ok_layer
  heard-kept = go (eqb a.reserve.kind on_note)
    where
      go : (b : Bool) → ok_layer (cond b (from_note a (noted a.reserve a.value)) (from_time a (timed a.reserve t a.value))).layer ≡ true
      go true = rw (noted-number a.reserve (layer-reserve a e) a.value (layer-value a e), layer-random a e, noted-kept a.reserve (layer-reserve a e) a.value)
      go false = rw (layer-value a e, layer-random a e, timed-kept a.reserve (layer-reserve a e) a.value t)

-- ---- all of them
module _ (l : Layers) (m : length l.items ≡ layer_limit) (e : ok_layers l ≡ true) (t v : ℤ) where
  pub summed_kept : ok_layers (summed l t v).layers ≡ true
  unfolding ok_layers counted
  summed_kept =
      let n = layers-count l e in
      let k : length (map (advanced t) (first l)) ≡ l.count = length-map (first l) (advanced t) ∙ length-take-le l.count l.items (omega arith) in
      rw (layers-some l e, layers-few l e, take_at (map (advanced t) (first l)) (drop l.count l.items) l.count k)
      (all_map ok_layer ok_layer (advanced t) (heard-kept t) (first l) (layers-each l e))

  pub apply-kept : ok_layers (apply_v_sub l t v).layers ≡ true
  unfolding apply_v_sub
  apply-kept = go (ok_layers l && is_time t && is_number v)
    where
      go : (b : Bool) → ok_layers (cond {A = Velocity} b (summed l t v) (record { code = 4; value = pos 0; layers = l })).layers ≡ true
      go true = summed_kept
      go false = e
