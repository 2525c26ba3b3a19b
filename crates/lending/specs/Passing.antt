-- A walk over records: each turn makes of a state and a record the next state and the record that takes the place.
use Rattle.std.specs.Prelude.{List, [], ◌∷◌}

module _ {R S : Type 0} (next : S → R → S) where
  -- the state in which a walk over the records ends
  unfoldable pub ran : S → List R → S
  ran s [] = s
  ran s (c ∷ cs) = ran (next s c) cs

  -- the records that it leaves
  unfoldable pub placed : (S → R → R) → S → List R → List R
  placed put s [] = []
  placed put s (c ∷ cs) = put s c ∷ placed put (next s c) cs
