-- A list of numbers as triples.
use mathlib.Core.Path.{◌≡◌, ◌∙◌}
use mathlib.Core.List.{List}
use Prim.Native.Nat.{ℕ, ◌+◌, ◌*◌, ◌/◌, ◌≤◌, ◌<◌}
use native.Mathlib.Omega.{arith}
use lib.IntN.{ℤ, pos}
use lib.ListN.{length, get_or}
use lib.Seq.{get_or-drop}
use Rattle.laws.proofs.Rows.{length-rows, get_d_rows}
use Rattle.laws.specs.Integers.{cut}
use Rattle.offers.specs.declared.Shape.TheVariants.{Glide}
use Rattle.offers.specs.Waves.{no_piece, triple_of, triples}

pub length-triples : (l : List ℤ) → length (triples l) ≡ length l / 3
unfolding triples
length-triples l = length-rows 3 triple_of (length l / 3) l

-- triple i lies within the numbers
pub within : (l : List ℤ) (i : ℕ) → i < length (triples l) → i * 3 + 3 ≤ length l
within l i h = omega (arith, length-triples l)

pub triple-is : (l : List ℤ) (i : ℕ) → i < length (triples l)
    → get_or (triples l) i no_piece ≡ record { low = get_or l (i * 3) (pos 0); high = get_or l (i * 3 + 1) (pos 0); len = cut (get_or l (i * 3 + 2) (pos 0)); shape = Glide }
unfolding triples
triple-is l i h =
    let z : i * 3 + 0 ≡ i * 3 = omega arith in
    get_d_rows 3 triple_of (length l / 3) i l no_piece (omega (arith, length-triples l)) ∙ rw (get_or-drop (i * 3) l 0 (pos 0), get_or-drop (i * 3) l 1 (pos 0), get_or-drop (i * 3) l 2 (pos 0), z)
