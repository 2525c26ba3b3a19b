-- 01, "Waves": "In both modes n is first cut to the step budget; if cut, the flag is set, even with total 0."
use Rattle.std.specs.Prelude.{Bool, false, List, ℕ, min, ltb}
use Rattle.budget.specs.declared.Budget.{Budget}
use Rattle.budget.specs.Budgets.{step_budget}
use Rattle.offers.specs.declared.Piece.{Piece}
use Rattle.offers.specs.declared.Mode.{Mode}
use Rattle.offers.specs.declared.Mode.TheVariants.{Normal, Expand, Repeat}
use Rattle.offers.specs.Waves.{triples_of}

abbrev pub cut_by : Mode → ℕ → ℕ → Bool
cut_by Normal n limit = false
cut_by Expand n limit = ltb limit n
cut_by Repeat n limit = ltb limit n

-- the triples that are written for a note of n steps
abbrev pub wave_triples : Budget → Mode → List Piece → ℕ → List Piece
wave_triples b m ts n = triples_of m ts (min n (step_budget b))
