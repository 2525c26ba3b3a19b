-- A run by the case of its origin: the pieces, their offers and their length.
use mathlib.Core.Path.{◌≡◌, ap, ◌∙◌, subst}
use mathlib.Core.List.{List, append-nil}
use Prim.Native.Nat.{ℕ, ◌≤◌, ◌^◌, min}
use native.Mathlib.Omega.{arith}
use Rattle.offers.specs.declared.Piece.{Piece}
use Rattle.offers.specs.declared.Source.{Source}
use Rattle.offers.specs.Pieces.{points_of, offers, total, Mild}
use Rattle.offers.specs.Sources.{rest_of, Runs}
use Rattle.writing.specs.declared.Origin.{Origin}
use Rattle.writing.specs.declared.Origin.TheVariants.{Wave, Sine}
use Rattle.writing.specs.Origins.{pieces_of, Asked}

module _ (ts : List Piece) {origin : Origin} where
  pub wave-pieces : {s : Source} → origin ≡ Wave s → pieces_of ts origin ≡ rest_of ts s
  unfolding pieces_of
  wave-pieces e = ap (pieces_of ts) e

  pub wave-asked : {s : Source} → origin ≡ Wave s → Asked ts origin → Runs s ts
  wave-asked e h = subst (λ (o : Origin). Asked ts o) e h

  pub sine-asked : {t : Piece} → origin ≡ Sine t → Asked ts origin → Mild t 0
  sine-asked e h = subst (λ (o : Origin). Asked ts o) e h

  pub sine-total : {t : Piece} → origin ≡ Sine t → total (pieces_of ts origin) ≡ t.len
  unfolding pieces_of total
  sine-total {t} e = ap (λ (o : Origin). total (pieces_of ts o)) e ∙ omega arith

  pub sine-offers : {t : Piece} (f limit : ℕ) → origin ≡ Sine t → offers f (pieces_of ts origin) limit 0 ≡ points_of f 0 t (min t.len limit)
  unfolding pieces_of offers
  sine-offers {t} f limit e = ap (λ (o : Origin). offers f (pieces_of ts o) limit 0) e ∙ append-nil (points_of f 0 t (min t.len limit))

-- however its pieces come, a write lasts at most so long
pub far : (ts : List Piece) (origin : Origin) → Asked ts origin → total (pieces_of ts origin) ≤ 2 ^ 42
unfolding pieces_of total
far ts (Wave s) h = let f = h.far in omega arith
far ts (Sine t) h = let f = h.ends in omega arith
