-- Words for keys of which each may stand only once.
use Rattle.std.specs.Prelude.{Bool, true, not, ◌&&◌, List, [], ◌∷◌, ℕ, eqb}
use Rattle.laws.specs.Lists.{all}

-- a is none of them
unfoldable pub absent : ℕ → List ℕ → Bool
absent a l = all (λ (k : ℕ). not (eqb a k)) l

-- each stands once
unfoldable pub distinct : List ℕ → Bool
distinct [] = true
distinct (k ∷ ks) = absent k ks && distinct ks
