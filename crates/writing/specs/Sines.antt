-- 01, "Sine": a sine is one piece, `times` turns of `len` steps; "window, frequency, dropping and steps as `write_sine`": a length of 0 or less
-- lasts no step, times of 0 or less count once.
use Rattle.std.specs.Prelude.{List, [], ◌∷◌, ◌*◌, max, ℤ}
use Rattle.laws.specs.Integers.{cut}
use Rattle.sines.specs.declared.SineType.{SineType}
use Rattle.offers.specs.declared.Piece.{Piece}
use Rattle.offers.specs.declared.Shape.TheVariants.{Turn}

unfoldable pub sine_piece : SineType → ℤ → ℤ → ℤ → ℤ → Piece
sine_piece stype low high len times =
    record { low = low; high = high; len = cut len * max (cut times) 1; shape = Turn stype (max (cut len) 1) }

abbrev pub sine_pieces : SineType → ℤ → ℤ → ℤ → ℤ → List Piece
sine_pieces stype low high len times = sine_piece stype low high len times ∷ []
