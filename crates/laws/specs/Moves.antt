-- 02, d): "Let each kept record move at most once." A list that closes up, in place, over what is taken out of it, over any
-- element: which records are written to another place. One that is written where it stands has not moved.
use Rattle.std.specs.Prelude.{Bool, not, cond, List, [], ◌∷◌, ◌++◌, ℕ, suc, ◌+◌, eqb, get_or, set}
use Rattle.laws.specs.Lists.{leading}

-- the record at place `from` is written to place `to`
pub record Move : Type 0 where
  pub from : ℕ
  pub to : ℕ

-- how often the record at place i moves
abbrev pub times_moved : ℕ → List Move → ℕ
times_moved i [] = 0
times_moved i (m ∷ ms) = cond (eqb m.from i) 1 0 + times_moved i ms

-- a record of place i that belongs at place n
abbrev pub move_to : ℕ → ℕ → List Move
move_to i n = cond (eqb i n) [] (record { from = i; to = n } ∷ [])

module _ {A : Type 0} where
  -- what moves leave, made one after the other
  abbrev pub carried : A → List Move → List A → List A
  carried z [] l = l
  carried z (m ∷ ms) l = carried z ms (set l m.to (get_or l m.from z))

  module _ (out : A → Bool) where
    -- how many stand in front of the first that is taken out: all, where none is
    abbrev pub in_front : List A → ℕ
    in_front = leading (λ x. not (out x))

    -- the moves from place i on, where n were kept before it: each kept record goes behind those
    abbrev pub moves_from : ℕ → ℕ → List A → List Move
    moves_from i n [] = []
    moves_from i n (x ∷ xs) = cond (out x) (moves_from (suc i) n xs) (move_to i n ++ moves_from (suc i) (suc n) xs)

    abbrev pub moves : List A → List Move
    moves = moves_from 0 0
