-- 01, item 5 and "Numbers that come back": what each call on the layers answers and leaves. The tests give the number, and by it
-- the answer is chosen; refused, the layers are those that were given.
use Rattle.std.specs.Prelude.{Bool, cond, ◌&&◌, List, ◌++◌, map, ℕ, eqb, leb, ℤ, pos, ◌+ℤ◌, Result, Ok, Err, drop, get_or, set}
use Rattle.laws.specs.Lists.{all}
use Rattle.numbers.specs.Limits.{layer_limit}
use Rattle.numbers.specs.Ranges.{is_time, is_number, is_length, is_random}
use Rattle.numbers.specs.Refusals.{number_of}
use Rattle.numbers.specs.declared.refusals.Refusal.{Refusal}
use Rattle.counted.specs.Numbers.{numbers}
use Rattle.counted.specs.Curves.{is_curve}
use Rattle.reserved.specs.declared.Reserve.{Reserve}
use Rattle.reserved.specs.Reserve.{curve_from, notes_from}
use Rattle.reserved.specs.Setting.{list_demand, length_of, rest_of, cycle_for}
use Rattle.layers.specs.declared.Layer.{Layer}
use Rattle.layers.specs.declared.Layers.{Layers}
use Rattle.layers.specs.declared.LayersAnswer.{LayersAnswer}
use Rattle.layers.specs.declared.Velocity.{Velocity}
use Rattle.layers.specs.Layers.{fresh_layer, with_items, ok_layers, changed, value_set, random_set, reserve_set, total, added, advanced, first}

-- 4, and then 5 for a layer above the last
abbrev pub layer_demand : ℕ → Bool → ℕ
layer_demand i ok = cond ok (cond (leb layer_limit i) 5 0) 4

unfoldable pub answered : ℕ → Layers → ℕ → (Layer → Layer) → LayersAnswer
answered n l i f = cond (eqb n 0) (record { code = 0; layers = changed l i f }) (record { code = n; layers = l })

-- by whether the layers are in range, and what is to be reserved or why it is not
abbrev pub reserving : Bool → Layers → ℕ → Result Reserve Refusal → LayersAnswer
reserving ok l i (Ok r) = answered (layer_demand i ok) l i (reserve_set r)
reserving ok l i (Err e) = record { code = number_of e; layers = l }

abbrev pub set_v_sub : Layers → ℕ → ℤ → LayersAnswer
set_v_sub l i v = answered (layer_demand i (ok_layers l && is_number v)) l i (value_set v)

abbrev pub set_v_sub_random : Layers → ℕ → ℤ → LayersAnswer
set_v_sub_random l i n = answered (layer_demand i (ok_layers l && is_random n)) l i (random_set n)

-- starts take the velocity parameter's delay, repeats its repeat
abbrev pub set_v_sub_on_time : Layers → ℕ → ℤ → ℤ → List ℤ → LayersAnswer
set_v_sub_on_time l i t d v =
    answered (list_demand v (layer_demand i (ok_layers l && is_time t && is_length d && is_curve v))) l i
    (reserve_set (curve_from (t +ℤ d) (numbers v)))

abbrev pub set_v_sub_on_cycle : Layers → ℕ → ℤ → ℤ → List ℤ → LayersAnswer
set_v_sub_on_cycle l i t d v =
    answered
    (list_demand v (layer_demand i (ok_layers l && is_time t && is_length d && is_length (length_of v) && all is_number (rest_of v)))) l i
    (reserve_set (cycle_for (t +ℤ d) (length_of v) (numbers (rest_of v))))

abbrev pub set_v_sub_on_note : Layers → ℕ → ℕ → List ℤ → LayersAnswer
set_v_sub_on_note l i p v =
    answered (list_demand v (layer_demand i (ok_layers l && leb p 1 && all is_number v))) l i (reserve_set (notes_from p (numbers v)))

-- a sum and its layers, once layer i is added too
unfoldable pub further : Velocity → ℕ → ℤ → Velocity
further s i t =
    record {
      code = s.code;
      value = s.value +ℤ added t (get_or s.layers.items i fresh_layer);
      layers = with_items s.layers.count (set s.layers.items i (advanced t (get_or s.layers.items i fresh_layer)));
    }

-- the velocity with what every layer adds to it; each layer is advanced
abbrev pub summed : Layers → ℤ → ℤ → Velocity
summed l t v =
    record {
      code = 0;
      value = total v (map (added t) (first l));
      layers = with_items l.count (map (advanced t) (first l) ++ drop l.count l.items);
    }

unfoldable pub apply_v_sub : Layers → ℤ → ℤ → Velocity
apply_v_sub l t v =
    cond (ok_layers l && is_time t && is_number v) (summed l t v) (record { code = 4; value = pos 0; layers = l })
