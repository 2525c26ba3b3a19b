-- Layers in range stay in range when one of them is changed: those that are grown are fresh, and the change keeps its layer in range.
use mathlib.Core.Path.{◌≡◌, refl, sym, ap, ◌∙◌}
use mathlib.Core.Bool.{Bool, true, false, cond}
use mathlib.Core.List.{List, ◌++◌, append_assoc}
use Prim.Native.Nat.{ℕ, zero, suc, ◌+◌, ◌-◌, ◌≤◌, ◌<◌}
use native.Mathlib.Omega.{arith}
use borrow.Author.Tests.{le-leb, leb-true, leb-false}
use lib.Dec.{leb}
use lib.ListN.{length, get_or, set, take, drop, replicate, length-append, length-replicate}
use lib.Seq.{get_or-take, take_at, take-set-lt, length-take-le}
use Rattle.laws.specs.Integers.{sized, inside}
use Rattle.laws.specs.Lists.{all, counted}
use Rattle.laws.proofs.Parts.{all_append, all-get, all_set}
use Rattle.numbers.specs.Limits.{layer_limit}
use Rattle.numbers.specs.Ranges.{is_number, is_random}
use Rattle.reserved.proofs.Kept.{idle-ok}
use Rattle.layers.specs.declared.Layer.{Layer}
use Rattle.layers.specs.declared.Layers.{Layers}
use Rattle.layers.specs.Layers.{fresh_layer, with_items, ok_layer, ok_layers, grown, changed}
use Rattle.layers.proofs.Parts.{layers-some, layers-few, layers-each}

fresh_ok : ok_layer fresh_layer ≡ true
unfolding ok_layer is_number is_random sized inside
fresh_ok = rw idle-ok

module _ {A : Type 0} (p : A → Bool) where
  all_replicate : (n : ℕ) (x : A) → p x ≡ true → all p (replicate n x) ≡ true
  unfolding all
  all_replicate zero x h = refl
  all_replicate (suc n) x h = rw h (all_replicate n x h)

module _ (l : Layers) where
  made : leb 1 l.count ≡ true → leb l.count layer_limit ≡ true → all ok_layer (take l.count l.items) ≡ true → ok_layers l ≡ true
  unfolding ok_layers counted
  made a b c = rw (a, b, c)

-- what growing leaves
pub record Fit (l : Layers) (i : ℕ) : Type 0 where
  pub ok : ok_layers l ≡ true
  pub below : i < l.count

module _ (l : Layers) (m : length l.items ≡ layer_limit) (e : ok_layers l ≡ true) (i : ℕ) (h : i < layer_limit) where
  abbrev front : List Layer
  front = take l.count l.items ++ replicate (i + 1 - l.count) fresh_layer

  longer : l.count ≤ i → ok_layers (with_items (i + 1) (take l.count l.items ++ (replicate (i + 1 - l.count) fresh_layer ++ drop (i + 1) l.items))) ≡ true
  longer k =
      let a = length-take-le l.count l.items (omega arith) in
      let b = length-replicate (i + 1 - l.count) fresh_layer in
      let c = length-append (take l.count l.items) (replicate (i + 1 - l.count) fresh_layer) in
      let d : length front ≡ i + 1 = omega arith in
      made (with_items (i + 1) (take l.count l.items ++ (replicate (i + 1 - l.count) fresh_layer ++ drop (i + 1) l.items)))
      (le-leb 1 (i + 1) (omega arith)) (le-leb (i + 1) layer_limit (omega arith))
      (rw (← append_assoc (take l.count l.items) (replicate (i + 1 - l.count) fresh_layer) (drop (i + 1) l.items), take_at front (drop (i + 1) l.items) (i + 1) d)
      (all_append ok_layer (take l.count l.items) (replicate (i + 1 - l.count) fresh_layer) (layers-each l e) (all_replicate ok_layer (i + 1 - l.count) fresh_layer fresh_ok)))

  grown-fit : Fit (grown l i) i
  unfolding grown
  grown-fit = go (leb l.count i) refl
    where
      go : (b : Bool) → leb l.count i ≡ b → Fit (cond b (with_items (i + 1) (take l.count l.items ++ (replicate (i + 1 - l.count) fresh_layer ++ drop (i + 1) l.items))) l) i
      go true q = record { ok = longer (leb-true l.count i q); below = omega arith }
      go false q = record { ok = e; below = leb-false l.count i q }

  pub changed-kept : (f : Layer → Layer) → ((a : Layer) → ok_layer a ≡ true → ok_layer (f a) ≡ true) → ok_layers (changed l i f) ≡ true
  unfolding changed
  changed-kept f k =
      let g = grown l i in
      let o = grown-fit.ok in
      let r : ok_layer (get_or g.items i fresh_layer) ≡ true = sym (ap ok_layer (get_or-take g.count g.items i fresh_layer grown-fit.below)) ∙ all-get ok_layer (take g.count g.items) i fresh_layer fresh_ok (layers-each g o) in
      made (with_items g.count (set g.items i (f (get_or g.items i fresh_layer)))) (layers-some g o) (layers-few g o)
      (ap (all ok_layer) (take-set-lt g.count g.items i (f (get_or g.items i fresh_layer)) grown-fit.below)
      ∙ all_set ok_layer (take g.count g.items) i (f (get_or g.items i fresh_layer)) (k (get_or g.items i fresh_layer) r) (layers-each g o))
