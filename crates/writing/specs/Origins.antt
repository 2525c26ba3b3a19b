-- The pieces of a write, and what its runs ask of them.
use Rattle.std.specs.Prelude.{List, [], ◌∷◌}
use Rattle.offers.specs.declared.Piece.{Piece}
use Rattle.offers.specs.Pieces.{Mild}
use Rattle.offers.specs.Sources.{rest_of, Runs}
use Rattle.writing.specs.declared.Origin.{Origin}
use Rattle.writing.specs.declared.Origin.TheVariants.{Wave, Sine}

unfoldable pub pieces_of : List Piece → Origin → List Piece
pieces_of ts (Wave s) = rest_of ts s
pieces_of ts (Sine t) = t ∷ []

abbrev pub Asked : List Piece → Origin → Type 0
Asked ts (Wave s) = Runs s ts
Asked ts (Sine t) = Mild t 0
