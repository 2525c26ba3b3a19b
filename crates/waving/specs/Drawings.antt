-- 01, "Waves": the waves and sines that are reserved for a track's notes, as each is written at a note.
use Rattle.std.specs.Prelude.{Bool, false, cond, List, ◌++◌, map, ℕ, ◌-◌, eqb, ltb, pos, take, get_or}
use Rattle.budget.specs.declared.Budget.{Budget}
use Rattle.budget.specs.Budgets.{step_budget}
use Rattle.counted.specs.Numbers.{shown}
use Rattle.sines.specs.Kinds.{sine_type}
use Rattle.values.specs.declared.Write.{Write}
use Rattle.offers.specs.declared.Piece.{Piece}
use Rattle.offers.specs.declared.Mode.{Mode}
use Rattle.offers.specs.declared.Mode.TheVariants.{Normal, Expand, Repeat}
use Rattle.offers.specs.Waves.{triples}
use Rattle.writing.specs.Waves.{cut_by, wave_triples}
use Rattle.writing.specs.Sines.{sine_pieces}
use Rattle.tables.specs.declared.OnNoteWave.{OnNoteWave}
use Rattle.tables.specs.declared.OnNoteSine.{OnNoteSine}
use Rattle.tables.specs.Reservations.{expand, repeat}
use Rattle.tables.specs.Tables.{no_wave, no_sine}
use Rattle.state.specs.declared.Track.{Track}
use Rattle.drawing.specs.Write.{write_of}

-- one of them: what its write is asked with, and, of the budget that it finds, its pieces and whether its note is cut
pub record Drawing : Type 0 where
  pub write : Write
  pub pieces : Budget → List Piece
  pub cut : Budget → Bool

abbrev pub mode_of : ℕ → Mode
mode_of m = cond (eqb m expand) Expand (cond (eqb m repeat) Repeat Normal)

-- of a track that stands at the note's start, for a note of n steps
unfoldable pub wave_drawing : Track → ℕ → OnNoteWave → Drawing
wave_drawing a n e =
    record {
      write = write_of a e.target;
      pieces = λ (b : Budget). wave_triples b (mode_of e.mode) (triples (shown e.values)) n;
      cut = λ (b : Budget). cut_by (mode_of e.mode) n (step_budget b);
    }

unfoldable pub sine_drawing : Track → OnNoteSine → Drawing
sine_drawing a e =
    record {
      write = write_of a e.target;
      pieces = λ (b : Budget). sine_pieces (sine_type (pos e.shape)) e.low e.high e.length e.times;
      cut = λ (b : Budget). false;
    }

-- "waves, then sines", each in the order of its table
unfoldable pub drawings_of : Track → ℕ → List Drawing
drawings_of a n = map (wave_drawing a n) (take a.waves.count a.waves.items) ++ map (sine_drawing a) (take a.sines.count a.sines.items)

-- the one at place i
unfoldable pub drawing_at : Track → ℕ → ℕ → Drawing
drawing_at a n i =
    cond (ltb i a.waves.count) (wave_drawing a n (get_or a.waves.items i no_wave)) (sine_drawing a (get_or a.sines.items (i - a.waves.count) no_sine))
