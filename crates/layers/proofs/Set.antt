-- Every setter leaves layers in range, whether it refuses or not.
use mathlib.Core.Path.{◌≡◌, refl, ◌∙◌}
use mathlib.Core.Bool.{Bool, true, false, cond, ◌&&◌}
use mathlib.Core.List.{List}
use Prim.Native.Nat.{ℕ, ◌≤◌}
use native.Mathlib.Omega.{arith}
use borrow.Author.Tests.{ltb-false, leb-false, eqb-true}
use lib.Dec.{eqb, leb, ltb}
use lib.IntN.{ℤ, ◌+ℤ◌}
use lib.ListN.{length}
use Rattle.laws.specs.Lists.{all}
use Rattle.laws.proofs.Ranges.{left, right}
use Rattle.numbers.specs.Limits.{list_limit, layer_limit}
use Rattle.numbers.specs.Ranges.{is_time, is_number, is_length, is_random}
use Rattle.counted.specs.Numbers.{numbers}
use Rattle.counted.specs.Curves.{is_curve}
use Rattle.counted.proofs.Counted.{laid-numbers, laid-curve}
use Rattle.reserved.specs.declared.Reserve.{Reserve}
use Rattle.reserved.specs.Reserve.{ok_reserve, curve_from, notes_from}
use Rattle.reserved.specs.Setting.{list_demand, length_of, rest_of, cycle_for}
use Rattle.reserved.proofs.Kept.{idle-ok, delayed-stored, curve-kept, cycle-kept, notes-kept}
use Rattle.reserved.proofs.Settings.{rest-fits}
use Rattle.layers.specs.declared.Layer.{Layer}
use Rattle.layers.specs.declared.Layers.{Layers}
use Rattle.layers.specs.declared.LayersAnswer.{LayersAnswer}
use Rattle.layers.specs.Layers.{ok_layer, ok_layers, changed, value_set, random_set, reserve_set}
use Rattle.layers.specs.Calls.{layer_demand, answered, set_v_sub, set_v_sub_random, set_v_sub_on_time, set_v_sub_on_cycle, set_v_sub_on_note}
use Rattle.layers.proofs.Parts.{layer-value, layer-random, layer-reserve}
use Rattle.layers.proofs.Grown.{changed-kept}

-- ---- one layer
module _ (a : Layer) (e : ok_layer a ≡ true) where
  value_set_lem : (v : ℤ) → is_number v ≡ true → ok_layer (value_set v a) ≡ true
  unfolding ok_layer
  value_set_lem v h = rw (h, layer-random a e, idle-ok)

  random-set : (n : ℤ) → is_random n ≡ true → ok_layer (random_set n a) ≡ true
  unfolding ok_layer
  random-set n h = rw (layer-value a e, h, layer-reserve a e)

  reserve-set : (r : Reserve) → ok_reserve r ≡ true → ok_layer (reserve_set r a) ≡ true
  unfolding ok_layer
  reserve-set r h = rw (layer-value a e, layer-random a e, h)

-- ---- a call that does not refuse passed its tests
passed : (ok high : Bool) → ◌≡◌ {A = ℕ} (cond ok (cond high 5 0) 4) 0 → (ok ≡ true) × (high ≡ false)
passed true true z = absurd (omega arith)
passed true false z = (refl, refl)
passed false high z = absurd (omega arith)

fits : (long : Bool) (n : ℕ) → cond long 3 n ≡ 0 → (long ≡ false) × (n ≡ 0)
fits true n z = absurd (omega arith)
fits false n z = (refl, z)

module _ (l : Layers) (m : length l.items ≡ layer_limit) (e : ok_layers l ≡ true) (i : ℕ) where
  answered-kept : (n : ℕ) (f : Layer → Layer) → (n ≡ 0 → ok_layers (changed l i f) ≡ true) → ok_layers (answered n l i f).layers ≡ true
  unfolding answered
  answered-kept n f h = go (eqb n 0) refl
    where
      go : (b : Bool) → eqb n 0 ≡ b → ok_layers (cond {A = LayersAnswer} b (record { code = 0; layers = changed l i f }) (record { code = n; layers = l })).layers ≡ true
      go true q = h (eqb-true n 0 q)
      go false q = e

  pub set-v-sub-kept : (v : ℤ) → ok_layers (set_v_sub l i v).layers ≡ true
  set-v-sub-kept v =
      answered-kept _ _
      (λ z.
      let p = passed (ok_layers l && is_number v) (leb layer_limit i) z in
      changed-kept l m e i (leb-false layer_limit i p.1) (value_set v) (λ a o. value_set_lem a o v (right (ok_layers l) (is_number v) p.0)))

  pub set-v-sub-random-kept : (n : ℤ) → ok_layers (set_v_sub_random l i n).layers ≡ true
  set-v-sub-random-kept n =
      answered-kept _ _
      (λ z.
      let p = passed (ok_layers l && is_random n) (leb layer_limit i) z in
      changed-kept l m e i (leb-false layer_limit i p.1) (random_set n) (λ a o. random-set a o n (right (ok_layers l) (is_random n) p.0)))

  -- a list is handed in: what its tests must give for the reservation to be in range
  listed_kept : (v : List ℤ) (ok : Bool) (r : Reserve) → (length v ≤ list_limit → ok ≡ true → ok_reserve r ≡ true) → ok_layers (answered (list_demand v (layer_demand i ok)) l i (reserve_set r)).layers ≡ true
  listed_kept v ok r h =
      answered-kept _ _
      (λ z.
      let q = fits (ltb list_limit (length v)) (layer_demand i ok) z in
      let p = passed ok (leb layer_limit i) q.1 in
      changed-kept l m e i (leb-false layer_limit i p.1) (reserve_set r) (λ a o. reserve-set a o r (h (ltb-false list_limit (length v) q.0) p.0)))

  pub set-v-sub-on-note-kept : (c : ℕ) (v : List ℤ) → ok_layers (set_v_sub_on_note l i c v).layers ≡ true
  set-v-sub-on-note-kept c v =
      listed_kept v (ok_layers l && leb c 1 && all is_number v) (notes_from c (numbers v))
      (λ k o.
      notes-kept (numbers v) c (right (ok_layers l) (leb c 1) (left (ok_layers l && leb c 1) (all is_number v) o))
      (laid-numbers v k ∙ right (ok_layers l && leb c 1) (all is_number v) o))

  pub set-v-sub-on-time-kept : (t d : ℤ) (v : List ℤ) → ok_layers (set_v_sub_on_time l i t d v).layers ≡ true
  set-v-sub-on-time-kept t d v =
      listed_kept v (ok_layers l && is_time t && is_length d && is_curve v) (curve_from (t +ℤ d) (numbers v))
      (λ k o.
      let g = left (ok_layers l && is_time t && is_length d) (is_curve v) o in
      curve-kept (numbers v) (t +ℤ d)
      (delayed-stored t d (right (ok_layers l) (is_time t) (left (ok_layers l && is_time t) (is_length d) g)) (right (ok_layers l && is_time t) (is_length d) g))
      (laid-curve v k ∙ right (ok_layers l && is_time t && is_length d) (is_curve v) o))

  pub set-v-sub-on-cycle-kept : (t d : ℤ) (v : List ℤ) → ok_layers (set_v_sub_on_cycle l i t d v).layers ≡ true
  set-v-sub-on-cycle-kept t d v =
      listed_kept v (ok_layers l && is_time t && is_length d && is_length (length_of v) && all is_number (rest_of v)) (cycle_for (t +ℤ d) (length_of v) (numbers (rest_of v)))
      (λ k o.
      let g = left (ok_layers l && is_time t && is_length d && is_length (length_of v)) (all is_number (rest_of v)) o in
      let w = left (ok_layers l && is_time t && is_length d) (is_length (length_of v)) g in
      cycle-kept (numbers (rest_of v)) (t +ℤ d) (length_of v)
      (delayed-stored t d (right (ok_layers l) (is_time t) (left (ok_layers l && is_time t) (is_length d) w)) (right (ok_layers l && is_time t) (is_length d) w))
      (right (ok_layers l && is_time t && is_length d) (is_length (length_of v)) g)
      (laid-numbers (rest_of v) (rest-fits v k) ∙ right (ok_layers l && is_time t && is_length d && is_length (length_of v)) (all is_number (rest_of v)) o))
