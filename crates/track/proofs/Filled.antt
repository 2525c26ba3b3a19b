-- A track's layers stand in an array of sixteen, as the type says; the definitions speak of a list. Here: no call on the layers makes that list
-- longer or shorter. `Sound` leans on it, since a layer that is changed has to have its place.
use mathlib.Core.Path.{◌≡◌, refl, ap, ◌∙◌}
use mathlib.Core.Bool.{Bool, true, false, cond, ◌&&◌}
use mathlib.Core.List.{List, ◌++◌, map}
use Prim.Native.Nat.{ℕ, ◌+◌, ◌-◌, ◌≤◌, ◌<◌}
use native.Mathlib.Omega.{arith}
use borrow.Author.Tests.{leb-true, leb-false, eqb-true}
use lib.Dec.{eqb, leb, ltb}
use lib.IntN.{ℤ, pos, ◌+ℤ◌}
use lib.ListN.{length, take, drop, replicate, set, get_or, length-append, length-replicate, length-map, length-take, length-drop, length-set}
use Rattle.numbers.specs.Limits.{list_limit, layer_limit}
use Rattle.numbers.specs.Ranges.{is_time, is_number}
use Rattle.reserved.specs.Setting.{list_demand}
use Rattle.layers.specs.declared.Layer.{Layer}
use Rattle.layers.specs.declared.Layers.{Layers}
use Rattle.layers.specs.declared.LayersAnswer.{LayersAnswer}
use Rattle.layers.specs.declared.Velocity.{Velocity}
use Rattle.layers.specs.Layers.{fresh_layer, with_items, ok_layers, grown, changed, advanced, first}
use Rattle.layers.specs.Calls.{layer_demand, answered, summed, apply_v_sub}

abbrev pub Filled : Layers → Type 0
Filled l = length l.items ≡ layer_limit

-- the last test of every setter: its layer is one of the sixteen
in_place : (long : Bool) (ok high : Bool) → ◌≡◌ {A = ℕ} (cond long 3 (cond ok (cond high 5 0) 4)) 0 → high ≡ false
in_place true ok high z = absurd (omega arith)
in_place false true true z = absurd (omega arith)
in_place false true false z = refl
in_place false false high z = absurd (omega arith)

module _ (l : Layers) (m : Filled l) where
  grown-filled : (i : ℕ) → i < layer_limit → Filled (grown l i)
  unfolding grown
  grown-filled i h = go (leb l.count i) refl
    where
      go : (b : Bool) → leb l.count i ≡ b
          → Filled (cond b (with_items (i + 1) (take l.count l.items ++ (replicate (i + 1 - l.count) fresh_layer ++ drop (i + 1) l.items))) l)
      go true q =
          let k = leb-true l.count i q in
          simp (length-append, length-replicate, length-take, length-drop) (omega arith)
      go false q = m

  changed-filled : (i : ℕ) (f : Layer → Layer) → i < layer_limit → Filled (changed l i f)
  unfolding changed
  changed-filled i f h = length-set (grown l i).items i (f (get_or (grown l i).items i fresh_layer)) ∙ grown-filled i h

  answered-filled : (n i : ℕ) (f : Layer → Layer) → (n ≡ 0 → leb layer_limit i ≡ false) → Filled (answered n l i f).layers
  unfolding answered
  answered-filled n i f h = go (eqb n 0) refl
    where
      go : (b : Bool) → eqb n 0 ≡ b → Filled (cond {A = LayersAnswer} b (record { code = 0; layers = changed l i f }) (record { code = n; layers = l })).layers
      go true q = changed-filled i f (leb-false layer_limit i (h (eqb-true n 0 q)))
      go false q = m

  pub set-filled : (i : ℕ) (ok : Bool) (f : Layer → Layer) → Filled (answered (layer_demand i ok) l i f).layers
  set-filled i ok f = answered-filled (layer_demand i ok) i f (in_place false ok (leb layer_limit i))

  pub listed-filled : (v : List ℤ) (i : ℕ) (ok : Bool) (f : Layer → Layer) → Filled (answered (list_demand v (layer_demand i ok)) l i f).layers
  listed-filled v i ok f = answered-filled (list_demand v (layer_demand i ok)) i f (in_place (ltb list_limit (length v)) ok (leb layer_limit i))

  pub applied-filled : (t v : ℤ) → Filled (apply_v_sub l t v).layers
  unfolding apply_v_sub
  applied-filled t v = go (ok_layers l && is_time t && is_number v)
    where
      go : (b : Bool) → Filled (cond {A = Velocity} b (summed l t v) (record { code = 4; value = pos 0; layers = l })).layers
      go true = simp (length-append, length-map, length-take, length-drop) (omega arith)
      go false = m
