-- 01, item 5: velocity layers, the ranges of their numbers, and what a note takes of one.
use Rattle.std.specs.Prelude.{Bool, cond, ◌&&◌, List, [], ◌∷◌, ◌++◌, ℕ, ◌+◌, ◌-◌, eqb, leb, ℤ, pos, ◌+ℤ◌, get_or, set, take, drop, replicate}
use Rattle.laws.specs.Lists.{counted}
use Rattle.numbers.specs.Limits.{layer_limit}
use Rattle.numbers.specs.Ranges.{is_number, is_random}
use Rattle.reserved.specs.declared.Reserve.{Reserve}
use Rattle.reserved.specs.declared.Taken.{Taken}
use Rattle.reserved.specs.Reserve.{on_note, ok_reserve, idle, timed, noted}
use Rattle.layers.specs.declared.Layer.{Layer}
use Rattle.layers.specs.declared.Layers.{Layers}
use Rattle.layers.specs.declared.Heard.{Heard}

abbrev pub layer : ℤ → ℤ → Reserve → Layer
layer v n r = record { value = v; random = n; reserve = r }

abbrev pub fresh_layer : Layer
fresh_layer = layer (pos 0) (pos 0) idle

abbrev pub with_items : ℕ → List Layer → Layers
with_items n l = record { count = n; items = l }

-- a track begins with one layer
abbrev pub one_layer : Layers
one_layer = with_items 1 (replicate layer_limit fresh_layer)

-- 01, "Numbers a caller may hand in": layers 0 to 15, a track having 1 to 16
unfoldable pub ok_layer : Layer → Bool
ok_layer a = is_number a.value && is_random a.random && ok_reserve a.reserve

unfoldable pub ok_layers : Layers → Bool
ok_layers l = leb 1 l.count && counted l.count layer_limit ok_layer l.items

-- a setter first grows the layers up to its index
unfoldable pub grown : Layers → ℕ → Layers
grown l i =
    cond (leb l.count i)
    (with_items (i + 1) (take l.count l.items ++ (replicate (i + 1 - l.count) fresh_layer ++ drop (i + 1) l.items))) l

-- and then changes the layer there
unfoldable pub changed : Layers → ℕ → (Layer → Layer) → Layers
changed l i f = with_items (grown l i).count (set (grown l i).items i (f (get_or (grown l i).items i fresh_layer)))

abbrev pub value_set : ℤ → Layer → Layer
value_set v a = layer v a.random idle

abbrev pub random_set : ℤ → Layer → Layer
random_set n a = layer a.value n a.reserve

abbrev pub reserve_set : Reserve → Layer → Layer
reserve_set r a = layer a.value a.random r

-- a layer's on-note value is written into the layer; a curve's or a cycle's is not
abbrev pub from_note : Layer → Taken → Heard
from_note a k = record { value = k.value; layer = layer k.value a.random k.reserve }

abbrev pub from_time : Layer → Taken → Heard
from_time a k = record { value = k.value; layer = layer a.value a.random k.reserve }

-- what a layer adds to a note, and what it then is; without a value it adds its own
unfoldable pub heard_of : ℤ → Layer → Heard
heard_of t a =
    cond (eqb a.reserve.kind on_note) (from_note a (noted a.reserve a.value)) (from_time a (timed a.reserve t a.value))

-- numbers added to v, one after the other
abbrev pub total : ℤ → List ℤ → ℤ
total v [] = v
total v (x ∷ l) = total (v +ℤ x) l

abbrev pub added : ℤ → Layer → ℤ
added t a = (heard_of t a).value

abbrev pub advanced : ℤ → Layer → Layer
advanced t a = (heard_of t a).layer

abbrev pub first : Layers → List Layer
first l = take l.count l.items
