-- 01, "Waves", as the code goes: a source stands at a place of the triples, and what it has still to give is, by mode,
-- what `triples_of` builds as a list.
use Rattle.std.specs.Prelude.{◌≡◌, Bool, cond, Option, Some, None, List, [], ◌∷◌, ◌++◌, ℕ, ◌+◌, ◌-◌, ◌*◌, ◌/◌, min, ◌≤◌, ◌<◌, ◌^◌, eqb, ltb, ℤ, length, get_or, drop}
use Rattle.std.specs.Int.Signed.{mag}
use Rattle.offers.specs.declared.Piece.{Piece}
use Rattle.offers.specs.declared.Shape.TheVariants.{Glide}
use Rattle.offers.specs.declared.Mode.{Mode}
use Rattle.offers.specs.declared.Mode.TheVariants.{Normal, Expand, Repeat}
use Rattle.offers.specs.declared.Source.{Source}
use Rattle.offers.specs.Pieces.{total}
use Rattle.offers.specs.Waves.{no_piece, with_len, expand, fill, around, unchanged, triples}

unfoldable pub rest_by : Mode → List Piece → Source → List Piece
rest_by Normal ts s = drop s.at ts
rest_by Expand ts s = expand s.whole s.total s.rest (drop s.at ts)
rest_by Repeat ts s = fill (drop s.at ts) s.rest ++ around ts (s.rest - total (drop s.at ts))

abbrev pub rest_of : List Piece → Source → List Piece
rest_of ts s = rest_by s.mode ts s

-- whether it gives another
abbrev pub more_by : Mode → ℕ → Source → Bool
more_by Normal n s = ltb s.at n
more_by Expand n s = ltb s.at n
more_by Repeat n s = ltb 0 s.rest

-- how many steps the next one gets, whose own are `len`
abbrev pub length_by : Mode → Source → ℕ → Bool → ℕ
length_by Normal s len last = len
length_by Expand s len last = cond last s.rest (len * s.whole / s.total)
length_by Repeat s len last = min len s.rest

-- the place from which the one after it comes
abbrev pub after_by : Mode → Bool → ℕ → ℕ
after_by Normal last next = next
after_by Expand last next = next
after_by Repeat last next = cond last 0 next

abbrev pub is_last : ℕ → Source → Bool
is_last n s = eqb (s.at + 1) n

abbrev pub next_length : List Piece → Source → ℕ
next_length ts s = length_by s.mode s (get_or ts s.at no_piece).len (is_last (length ts) s)

abbrev pub source_after : ℕ → Source → ℕ → Source
source_after n s len =
    record { mode = s.mode; at = after_by s.mode (is_last n s) (s.at + 1); rest = s.rest - len; whole = s.whole; total = s.total }

unfoldable pub next_of : List Piece → Source → Option (Piece × Source)
next_of ts s =
    cond (more_by s.mode (length ts) s)
    (Some (with_len (get_or ts s.at no_piece) (next_length ts s), source_after (length ts) s (next_length ts s)))
    None

-- a wave's source before its first triple
unfoldable pub starting_at : Mode → List Piece → ℕ → Source
starting_at m ts n =
    cond (unchanged ts n) (record { mode = Normal; at = 0; rest = 0; whole = 0; total = 1 })
    (record { mode = m; at = 0; rest = n; whole = n; total = total ts })

-- ---- what has to hold of a source, so that no step of it fails
pub record Sound (ts : List Piece) (s : Source) : Type 0 where
  pub inside : s.at ≤ length ts
  pub turns : s.mode ≡ Repeat → s.at < length ts
  pub some : s.mode ≡ Repeat → 0 < total ts
  pub parts : 0 < s.total
  pub small : s.whole < 2 ^ 32

-- a glide whose numbers are in range
pub record Glides (t : Piece) : Type 0 where
  pub low : mag t.low ≤ 2 ^ 22
  pub high : mag t.high ≤ 2 ^ 22
  pub len : t.len ≤ 2 ^ 24
  pub glide : t.shape ≡ Glide

abbrev pub Tame : List Piece → Type 0
Tame [] = Unit {0}
Tame (t ∷ ts) = Glides t × Tame ts

-- a length times the steps of a wave is a number of 64 bits
abbrev pub Short : List Piece → Type 0
Short ts = (i : ℕ) → (get_or ts i no_piece).len < 2 ^ 32

-- and of one that a run goes over to its end
pub record Runs (s : Source) (ts : List Piece) : Type 0 where
  pub sound : Sound ts s
  pub short : Short ts
  pub tame : Tame (rest_of ts s)
  pub far : total (rest_of ts s) ≤ 2 ^ 40

-- numbers whose triples are in range, and not too many
pub record Fine (l : List ℤ) : Type 0 where
  pub tame : Tame (triples l)
  pub few : length (triples l) ≤ 2 ^ 10
