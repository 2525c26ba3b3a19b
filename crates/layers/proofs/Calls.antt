-- What a call answers that changes a layer where its tests hold.
use Rattle.std.proofs.Common.{◌≡◌, refl, ap₂, Bool, true, false, cond, List, ℕ, ◌≤◌, ◌<◌, ℤ, length, Ok, Err}
use borrow.Author.Tests.{leb-true, leb-false}
use lib.Dec.{leb, ltb}
use Rattle.numbers.specs.declared.refusals.Refusal.TheVariants.{TooMany, OutOfRange}
use Rattle.numbers.specs.Limits.{list_limit, layer_limit}
use Rattle.reserved.specs.declared.Reserve.{Reserve}
use Rattle.reserved.specs.Setting.{list_demand, made_of}
use Rattle.layers.specs.declared.Layer.{Layer}
use Rattle.layers.specs.declared.Layers.{Layers}
use Rattle.layers.specs.declared.LayersAnswer.{LayersAnswer}
use Rattle.layers.specs.Layers.{ok_layers, changed, reserve_set}
use Rattle.layers.specs.Calls.{layer_demand, answered, reserving}

abbrev left : ℕ → Layers → LayersAnswer
left n l = record { code = n; layers = l }

-- 4 where the tests fail, 5 for a layer above the last, or the layers changed
pub by_change : (ok : Bool) (l : Layers) (i : ℕ) (f : Layer → Layer) (r : LayersAnswer) → (ok ≡ false → r ≡ record { code = 4; layers = l }) → (ok ≡ true → layer_limit ≤ i → r ≡ record { code = 5; layers = l }) → (ok ≡ true → i < layer_limit → (r.code ≡ 0) × (r.layers ≡ changed l i f)) → r ≡ answered (layer_demand i ok) l i f
unfolding answered
by_change false l i f r a b c = a refl
by_change true l i f r a b c = go (leb layer_limit i) (λ e. b refl (leb-true layer_limit i e)) (λ e. c refl (leb-false layer_limit i e))
  where
    go : (t : Bool) → (t ≡ true → r ≡ left 5 l) → (t ≡ false → (r.code ≡ 0) × (r.layers ≡ changed l i f)) → r ≡ answered (cond t 5 0) l i f
    go true b c = b refl
    go false b c = ap₂ left (c refl).0 (c refl).1

-- the same where something is to be reserved: n are the tests that the call makes, m those of what it reserves
pub by_making : (v : List ℤ) (l : Layers) (i : ℕ) (m n : Bool) (r : Reserve) → (ok_layers l ≡ true → n ≡ m) → (ok_layers l ≡ false → n ≡ false) → reserving (ok_layers l) l i (made_of v m r) ≡ answered (list_demand v (layer_demand i n)) l i (reserve_set r)
unfolding answered
by_making v l i m n r f g = go (ltb list_limit (length v)) (ok_layers l) m n f g
  where
    go : (t p m n : Bool) → (p ≡ true → n ≡ m) → (p ≡ false → n ≡ false) → reserving p l i (cond t (Err TooMany) (cond m (Ok r) (Err OutOfRange))) ≡ answered (cond t 3 (layer_demand i n)) l i (reserve_set r)
    go true p m n f g = refl
    go false true true n f g = rw (f refl)
    go false true false n f g = rw (f refl)
    go false false true n f g = rw (g refl)
    go false false false n f g = rw (g refl)
