-- The same of the layers' answers.
use mathlib.Core.Path.{◌≡◌, refl, sym}
use mathlib.Core.Bool.{Bool, true, false, cond}
use Prim.Native.Nat.{ℕ}
use borrow.Author.Tests.{eqb-true}
use lib.Dec.{eqb}
use Rattle.layers.specs.declared.Layer.{Layer}
use Rattle.layers.specs.declared.Layers.{Layers}
use Rattle.layers.specs.declared.LayersAnswer.{LayersAnswer}
use Rattle.layers.specs.Layers.{changed}
use Rattle.layers.specs.Calls.{answered}

module _ (n : ℕ) (l : Layers) (i : ℕ) (f : Layer → Layer) where
  abbrev left_by_lem : Bool → LayersAnswer
  left_by_lem t = cond t (record { code = 0; layers = changed l i f }) (record { code = n; layers = l })

  pub layers-code : (answered n l i f).code ≡ n
  unfolding answered
  layers-code = go (eqb n 0) (eqb-true n 0)
    where
      go : (t : Bool) → (t ≡ true → n ≡ 0) → (left_by_lem t).code ≡ n
      go true e = sym (e refl)
      go false e = refl
