-- Demand 3, "each target's own in time order", of the events that a series of cycle calls adds to the list: which they are, and
-- what is said of one target's own.
use Rattle.std.specs.Prelude.{◌≡◌, true, cond, List, [], ◌∷◌, ◌++◌, map, ℕ, ◌+◌, ◌*◌, eqb, ℤ, ◌+ℤ◌, ◌<ℤ◌, length, drop}
use Rattle.numbers.specs.Limits.{value_bytes}
use Rattle.numbers.specs.Ranges.{is_target}
use Rattle.events.specs.declared.Event.{Event}
use Rattle.eventlist.specs.Rows.{events_of}
use Rattle.cycles.specs.Due.{DueWrite, dues, owed, key, only}
use Rattle.cycles.specs.Calls.{Turn, made}
use Rattle.cycles.specs.Turns.{option_of}
use Rattle.writing.specs.Targets.{own_events}
use Rattle.state.specs.declared.Track.{Track}
use Rattle.cycling.specs.Calls.{used_of}
use Rattle.cycling.specs.Series.{Lent, seen, turn_on}

-- of the list that is left, what stands behind the events that stood in it
abbrev pub added : Lent → Lent → List Event
added s last = drop s.count (events_of last.list last.count)

abbrev pub times_of : List Event → List ℤ
times_of es = map (λ (e : Event). e.time) es

-- each is above the one before it
unfoldable pub Rising : List ℤ → Type 0
Rising [] = Unit {0}
Rising (x ∷ []) = Unit {0}
Rising (x ∷ y ∷ zs) = (x <ℤ y) × Rising (y ∷ zs)

module _ {E : Type 0} (f : Turn E) where
  -- the events of writes, each with the seed that it finds
  unfoldable pub events_at : List DueWrite → List ℕ → List E
  events_at [] ys = []
  events_at (w ∷ ws) [] = []
  events_at (w ∷ ws) (y ∷ ys) = (f w y).0 ∷ events_at ws ys

  -- of all writes, one after the other from seed y, the seeds that those of key k find
  unfoldable pub seeds_for : ℕ → List DueWrite → ℕ → List ℕ
  seeds_for k [] y = []
  seeds_for k (w ∷ ws) y = cond (eqb k (key w.target)) (y ∷ seeds_for k ws (f w y).1) (seeds_for k ws (f w y).1)

-- a target's writes that are due up to T
abbrev pub dues_for : Track → ℤ → Lent → ℤ → List DueWrite
dues_for a t s target = only (key target) (dues t (used_of a s.cycles))

-- of the events that calls up to the times us, the first handed s, have added: a target's own
pub record Own (a : Track) (t : ℤ) (us : List ℤ) (s : Lent) (new : List Event) (target : ℤ) : Type 0 where
  -- one for each of its due writes, in their order: what the write becomes with the seed that it finds
  pub events : own_events target new ≡ events_at (turn_on a) (dues_for a t s target) (seeds_for (turn_on a) (key target) (made (turn_on a) us (seen a s)) s.budget.seed)
  pub count : length (own_events target new) ≡ length (dues_for a t s target)
  -- each at its write's time, the target's delay added
  pub times : times_of (own_events target new) ≡ map (λ (w : DueWrite). w.time +ℤ (option_of a.options target).delay) (dues_for a t s target)
  -- each later than the one before it
  pub order : Rising (times_of (own_events target new))

-- demand 3, read off what the last call left
pub record Settled (a : Track) (t : ℤ) (us : List ℤ) (s last : Lent) : Type 0 where
  -- "every due write has been made exactly once, each target's own in time order": what stood in the list stands there, and behind it
  -- one event for each of the D due writes
  pub kept : events_of last.list last.count ≡ events_of s.list s.count ++ added s last
  pub count : last.count ≡ s.count + owed t (used_of a s.cycles)
  pub own : (target : ℤ) → is_target target ≡ true → Own a t us s (added s last) target
  -- "nothing is still due"
  pub rest : owed t (used_of a last.cycles) ≡ 0
  -- "the bytes used have risen by exactly 8·D", and neither the maximum nor the flag has moved
  pub bytes : last.budget.used ≡ s.budget.used + value_bytes * owed t (used_of a s.cycles)
  pub maximum : last.budget.maximum ≡ s.budget.maximum
  pub flag : last.budget.over ≡ s.budget.over
