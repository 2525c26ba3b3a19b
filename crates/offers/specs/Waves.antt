-- 01, "Waves": the triples of a list of numbers, and what they become in each mode over n steps.
use Rattle.std.specs.Prelude.{Bool, cond, ◌||◌, List, [], ◌∷◌, ◌++◌, ℕ, zero, suc, ◌-◌, ◌*◌, ◌/◌, min, eqb, ℤ, pos, length, get_or}
use Rattle.laws.specs.Integers.{cut}
use Rattle.laws.specs.Rows.{rows}
use Rattle.offers.specs.declared.Piece.{Piece}
use Rattle.offers.specs.declared.Shape.TheVariants.{Glide}
use Rattle.offers.specs.declared.Mode.{Mode}
use Rattle.offers.specs.declared.Mode.TheVariants.{Normal, Expand, Repeat}
use Rattle.offers.specs.Pieces.{total}

abbrev pub no_piece : Piece
no_piece = record { low = pos 0; high = pos 0; len = 0; shape = Glide }

-- "triples with length 0 or less are skipped": they last no step
abbrev pub triple_of : List ℤ → Piece
triple_of l = record { low = get_or l 0 (pos 0); high = get_or l 1 (pos 0); len = cut (get_or l 2 (pos 0)); shape = Glide }

-- "trailing partial triples ignored"
unfoldable pub triples : List ℤ → List Piece
triples l = rows 3 triple_of (length l / 3) l

abbrev pub with_len : Piece → ℕ → Piece
with_len t n = record { low = t.low; high = t.high; len = n; shape = t.shape }

-- "each triple but the last the floor of length*n/total, and the last the rest, even where its length was 0"
unfoldable pub expand : ℕ → ℕ → ℕ → List Piece → List Piece
expand n tot rest [] = []
expand n tot rest (t ∷ []) = with_len t rest ∷ []
expand n tot rest (t ∷ u ∷ us) = with_len t (t.len * n / tot) ∷ expand n tot (rest - t.len * n / tot) (u ∷ us)

-- once through, until n steps are filled
unfoldable pub fill : List Piece → ℕ → List Piece
fill [] n = []
fill (t ∷ ts) n = cond (eqb n 0) [] (with_len t (min t.len n) ∷ fill ts (n - t.len))

-- round and round, at most k times
unfoldable pub rounds : ℕ → List Piece → ℕ → List Piece
rounds zero ts n = []
rounds (suc k) ts n = fill ts n ++ rounds k ts (n - total ts)

-- "round until n is filled": a round fills at least one step, so n rounds are enough
abbrev pub around : List Piece → ℕ → List Piece
around ts n = rounds n ts n

-- "any other wave is used unchanged"
abbrev pub unchanged : List Piece → ℕ → Bool
unchanged ts n = eqb n 0 || eqb (total ts) 0

unfoldable pub triples_of : Mode → List Piece → ℕ → List Piece
triples_of Normal ts n = ts
triples_of Expand ts n = cond (unchanged ts n) ts (expand n (total ts) n ts)
triples_of Repeat ts n = cond (unchanged ts n) ts (around ts n)
