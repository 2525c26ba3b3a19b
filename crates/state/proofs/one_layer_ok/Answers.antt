-- `one_layer_ok`: of one layer that counts the test is that layer's.
use mathlib.Core.Path.{◌≡◌, refl, sym, ap, ◌∙◌}
use mathlib.Core.Bool.{Bool, true, false, ◌&&◌}
use mathlib.Core.List.{List, [], ◌∷◌}
use Prim.Native.Nat.{ℕ}
use native.Mathlib.Omega.{arith}
use borrow.Author.Rules.{rules}
use lib.Dec.{leb}
use lib.ListN.{length, get_or}
use Rattle.laws.specs.Lists.{all, counted}
use Rattle.numbers.specs.Limits.{layer_limit}
use Rattle.layers.specs.declared.Layer.{Layer}
use Rattle.layers.specs.declared.Layers.{Layers}
use Rattle.layers.specs.Layers.{ok_layer, ok_layers}
use Rattle.state.proofs.one_layer_ok.Goals as goal

and-true : (b : Bool) → b ≡ (b && true)
and-true true = refl
and-true false = refl

one-counts : (items : List Layer) (d : Layer) → length items ≡ layer_limit → ok_layer (get_or items 0 d) ≡ (leb 1 1 && counted 1 layer_limit ok_layer items)
unfolding counted all
one-counts [] d h = absurd (omega (arith, h))
one-counts (x ∷ l) d h = and-true (ok_layer x)

one-layer : (l : Layers) (d : Layer) → l.count ≡ 1 → length l.items ≡ layer_limit → ok_layer (get_or l.items 0 d) ≡ ok_layers l
unfolding ok_layers
one-layer l d e h = one-counts l.items d h ∙ ap (λ (n : ℕ). leb 1 n && counted n layer_limit ok_layer l.items) (sym e)

pub returns : goal.returns
returns c =
    let h : length c.args.layers.items ≡ layer_limit = search rules in
    c.layer_ok.ensures ∙ one-layer c.args.layers _ c.requires h
