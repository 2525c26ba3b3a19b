-- Demand 3: what a series of accepted cycle calls has done of all that was due up to T.
use Rattle.std.specs.Prelude.{◌≡◌, List, [], ◌∷◌, ◌++◌, ℕ, ◌+◌, ◌*◌, ℤ, ◌<ℤ◌, length}
use Rattle.numbers.specs.Limits.{value_bytes}
use Rattle.cycles.specs.Due.{DueWrite, dues, owed, only}
use Rattle.cycles.specs.Calls.{State, Turn, events_of, seed_of, series, made}

-- each write is later than the one before it
unfoldable pub InOrder : List DueWrite → Type 0
InOrder [] = Unit {0}
InOrder (w ∷ []) = Unit {0}
InOrder (w ∷ x ∷ ws) = (w.time <ℤ x.time) × InOrder (x ∷ ws)

pub record Done {E : Type 0} (f : Turn E) (t : ℤ) (us : List ℤ) (s : State E) : Type 0 where
  -- "every due write has been made exactly once": of each target those made are those that were due, D in all
  pub each : (a : ℕ) → only a (made f us s) ≡ only a (dues t s.table)
  pub count : length (made f us s) ≡ owed t s.table
  -- "each target's own in time order"
  pub order : (a : ℕ) → InOrder (only a (made f us s))
  -- they are what stands behind the list, and the seed went through them
  pub events : (series f us s).events ≡ s.events ++ events_of f (made f us s) s.budget.seed
  pub seed : (series f us s).budget.seed ≡ seed_of f (made f us s) s.budget.seed
  -- "nothing is still due"
  pub rest : owed t (series f us s).table ≡ 0
  -- "the bytes used have risen by exactly 8·D", and neither the maximum nor the flag has moved
  pub bytes : (series f us s).budget.used ≡ s.budget.used + value_bytes * owed t s.table
  pub maximum : (series f us s).budget.maximum ≡ s.budget.maximum
  pub flag : (series f us s).budget.over ≡ s.budget.over
