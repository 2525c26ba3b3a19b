-- The linked library's full cut: what its C function leaves is what the theorem of the trade is said of (`CutOut` of crate passage), so that
-- all of crates/passage/proofs/Calls.antt holds of what C calls.
use mathlib.Core.Path.{ap₂}
use mathlib.Core.List.{List}
use Prim.Native.Nat.{ℕ}
use lib.IntN.{ℤ}
use Rattle.cutting.specs.Cuts.{whole, cut_taken, cut_left}
use Rattle.ctrack.specs.Lent.{ListLeft}
use Rattle.passage.specs.Passage.{CutOut}

pub linked-cut : (store : ℕ) (l : List ℤ) (count : ℕ) (at : ℤ) (n : ℕ) (l' : List ℤ)
    → ListLeft (cut_taken store l count (whole at)) (cut_left store l count (whole at)) 0 n l' → CutOut store l count at n l'
linked-cut store l count at n l' k = record { answer = ap₂ (λ (x y : ℕ). record { code = x; count = y }) k.code k.count; list = k.events }
