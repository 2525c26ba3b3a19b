-- 01, "The tape program": a tape's records stand one behind the other. Where each begins, and what is read there, over the
-- limit of a list.
use Rattle.std.specs.Prelude.{cond, Result, Ok, Err, List, [], ◌∷◌, map, ℕ, zero, suc, ◌+◌, ltb, length}
use Rattle.numbers.specs.declared.refusals.Refusal.{Refusal}
use Rattle.reel.specs.Records.{record_by}
use Rattle.reel.specs.declared.records.Record.{Record}

-- of TK and MX one more was read, until both were
abbrev pub more_due : ℕ → ℕ
more_due n = cond (ltb n 2) (n + 1) n

-- where a record begins, and how many of TK and MX were read before it
pub record Place : Type 0 where
  pub at : ℕ
  pub due : ℕ

abbrev pub place : ℕ → ℕ → Place
place p due = record { at = p; due = due }

-- what is read at a place
abbrev pub read_by : ℕ → List ℕ → Place → Result Record Refusal
read_by limit s q = record_by limit s q.at q.due

-- the place behind a record at q
abbrev pub onward : Place → Record → Place
onward q r = place r.next (more_due q.due)

-- what follows a record, and nothing where it is refused
abbrev pub behind_read : {A : Type 0} → Result Record Refusal → (Record → List A) → List A
behind_read (Ok r) follows = follows r
behind_read (Err e) follows = []

-- at most n places from q on, while some of the tape is left: behind a record that is not refused the next begins
unfoldable pub places_from : ℕ → ℕ → List ℕ → Place → List Place
places_from limit zero s q = []
places_from limit (suc n) s q =
    cond (ltb q.at (length s))
    (q ∷ behind_read (read_by limit s q) (λ r. places_from limit n s (onward q r)))
    []

-- the places of a tape; no tape has more records than bytes
abbrev pub places_by : ℕ → List ℕ → List Place
places_by limit s = places_from limit (length s) s (place 0 0)

-- a tape's records, to its end or to the first that is refused
abbrev pub reading_by : ℕ → List ℕ → List (Result Record Refusal)
reading_by limit s = map (read_by limit s) (places_by limit s)
