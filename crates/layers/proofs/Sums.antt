-- The sum over the layers, one layer after the other.
--     summing         the sum and the layers once the first i are added
--     summing-more    one more
--     summing-all     all of them
use mathlib.Core.Path.{◌≡◌, refl, sym, ap, ap₂, ◌∙◌}
use mathlib.Core.List.{List, [], ◌∷◌, ◌++◌, map, map-append}
use Prim.Native.Nat.{ℕ, ◌+◌, ◌<◌}
use native.Mathlib.Nat.{le_of_lt}
use native.Mathlib.Numerals.{add-one}
use lib.IntN.{ℤ, ◌+ℤ◌}
use lib.ListN.{length, get_or, set, take, drop, length-map}
use lib.Seq.{take-suc, length-take-le}
use Rattle.laws.proofs.Reading.{read_behind, set-behind}
use Rattle.layers.specs.declared.Layer.{Layer}
use Rattle.layers.specs.declared.Velocity.{Velocity}
use Rattle.layers.specs.Layers.{fresh_layer, with_items, total, added, advanced}
use Rattle.layers.specs.Calls.{further}

total-snoc : (v : ℤ) (l : List ℤ) (x : ℤ) → total v (l ++ (x ∷ [])) ≡ total v l +ℤ x
total-snoc v [] x = refl
total-snoc v (y ∷ l) x = total-snoc (v +ℤ y) l x

abbrev velocity : ℕ → ℤ → ℕ → List Layer → Velocity
velocity c v n l = record { code = c; value = v; layers = with_items n l }

module _ (t : ℤ) (s : Velocity) where
  abbrev pub summing : ℕ → Velocity
  summing i =
      velocity s.code (total s.value (map (added t) (take i s.layers.items))) s.layers.count
      (map (advanced t) (take i s.layers.items) ++ drop i s.layers.items)

  module _ (i : ℕ) (h : i < length s.layers.items) where
    behind : length (map (advanced t) (take i s.layers.items)) ≡ i
    behind = length-map (take i s.layers.items) (advanced t) ∙ length-take-le i s.layers.items (le_of_lt h)

    -- the layer at i has not been touched
    pub summing-at : get_or (summing i).layers.items i fresh_layer ≡ get_or s.layers.items i fresh_layer
    summing-at = read_behind (map (advanced t) (take i s.layers.items)) s.layers.items i fresh_layer behind h

    value-more : total s.value (map (added t) (take (i + 1) s.layers.items)) ≡ (summing i).value +ℤ added t (get_or s.layers.items i fresh_layer)
    value-more =
        rw (add-one, take-suc s.layers.items i fresh_layer h, map-append)
        (total-snoc s.value (map (added t) (take i s.layers.items)) (added t (get_or s.layers.items i fresh_layer)))

    items_more : set (summing i).layers.items i (advanced t (get_or s.layers.items i fresh_layer)) ≡ (summing (i + 1)).layers.items
    items_more =
        let e : map (advanced t) (take (i + 1) s.layers.items) ≡ map (advanced t) (take i s.layers.items) ++ (advanced t (get_or s.layers.items i fresh_layer) ∷ []) = rw (add-one, take-suc s.layers.items i fresh_layer h, map-append) in
        set-behind (map (advanced t) (take i s.layers.items)) s.layers.items i fresh_layer behind h (advanced t (get_or s.layers.items i fresh_layer))
        ∙ ap (λ (x : List Layer). x ++ drop (i + 1) s.layers.items) (sym e)

    pub summing-more : further (summing i) i t ≡ summing (i + 1)
    unfolding further
    summing-more =
        rw summing-at (ap₂ (λ (v : ℤ) (l : List Layer). velocity s.code v s.layers.count l) (sym value-more) items_more)
