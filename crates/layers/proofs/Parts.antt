-- What the tests of layers say of them.
--     layer-value, layer-random, layer-reserve   the parts of one
--     layers-some, layers-few, layers-each       the parts of all; layers-count, layers-at: their count, and one of them
use mathlib.Core.Path.{◌≡◌, sym, ap, ◌∙◌}
use mathlib.Core.Bool.{true, ◌&&◌}
use mathlib.Core.List.{[]}
use Prim.Native.Nat.{ℕ, ◌≤◌, ◌<◌}
use native.Mathlib.Omega.{arith}
use borrow.Author.Tests.{leb-true}
use lib.Dec.{leb}
use lib.IntN.{pos}
use lib.ListN.{length, get_or, take}
use lib.Seq.{get_or-take, length-take-le}
use Rattle.laws.specs.Lists.{all, counted}
use Rattle.laws.proofs.Ranges.{left, right}
use Rattle.laws.proofs.Tests.{all-at}
use Rattle.numbers.specs.Limits.{layer_limit}
use Rattle.numbers.specs.Ranges.{is_number, is_random}
use Rattle.reserved.specs.Reserve.{ok_reserve}
use Rattle.layers.specs.declared.Layer.{Layer}
use Rattle.layers.specs.declared.Layers.{Layers}
use Rattle.layers.specs.Layers.{fresh_layer, ok_layer, ok_layers}

-- what a read past the end of an array of layers gives
abbrev pub no_layer : Layer
no_layer =
    record {
      value = pos 0;
      random = pos 0;
      reserve = record { kind = 0; cycling = 0; start = pos 0; length = pos 0; index = 0; values = record { count = 0; items = [] } };
    }

module _ (a : Layer) (e : ok_layer a ≡ true) where
  both : (is_number a.value && is_random a.random) ≡ true
  unfolding ok_layer
  both = left (is_number a.value && is_random a.random) (ok_reserve a.reserve) e

  pub layer-value : is_number a.value ≡ true
  layer-value = left (is_number a.value) (is_random a.random) both

  pub layer-random : is_random a.random ≡ true
  layer-random = right (is_number a.value) (is_random a.random) both

  pub layer-reserve : ok_reserve a.reserve ≡ true
  unfolding ok_layer
  layer-reserve = right (is_number a.value && is_random a.random) (ok_reserve a.reserve) e

module _ (l : Layers) (e : ok_layers l ≡ true) where
  tested : (leb l.count layer_limit && all ok_layer (take l.count l.items)) ≡ true
  unfolding ok_layers counted
  tested = right (leb 1 l.count) (leb l.count layer_limit && all ok_layer (take l.count l.items)) e

  pub layers-some : leb 1 l.count ≡ true
  unfolding ok_layers counted
  layers-some = left (leb 1 l.count) (leb l.count layer_limit && all ok_layer (take l.count l.items)) e

  pub layers-few : leb l.count layer_limit ≡ true
  layers-few = left (leb l.count layer_limit) (all ok_layer (take l.count l.items)) tested

  pub layers-each : all ok_layer (take l.count l.items) ≡ true
  layers-each = right (leb l.count layer_limit) (all ok_layer (take l.count l.items)) tested

  pub layers-count : l.count ≤ layer_limit
  layers-count = leb-true l.count layer_limit layers-few

  pub layers-at : (i : ℕ) → length l.items ≡ layer_limit → i < l.count → ok_layer (get_or l.items i fresh_layer) ≡ true
  layers-at i m h =
      let k = layers-count in
      let n = length-take-le l.count l.items (omega arith) in
      sym (ap ok_layer (get_or-take l.count l.items i fresh_layer h))
      ∙ all-at ok_layer (take l.count l.items) i fresh_layer (omega arith) layers-each
