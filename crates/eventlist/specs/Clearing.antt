-- 02, d): windows are taken out of the list in one pass, and "each kept record" moves "at most once" (laws, specs/Moves): what the
-- test of the records says beforehand, and what is left and was moved.
use Rattle.std.specs.Prelude.{◌≡◌, Bool, true, not, cond, ◌&&◌, List, ℕ, ◌-◌, ℤ, length, Result, Ok, Err}
use Rattle.std.specs.Int.Signed.{lt_z}
use Rattle.laws.specs.Lists.{all, without, put_first}
use Rattle.laws.specs.Moves.{in_front, moves}
use Rattle.numbers.specs.declared.refusals.Refusal.{Refusal}
use Rattle.numbers.specs.declared.refusals.Refusal.TheVariants.{OutOfRange}
use Rattle.events.specs.declared.Event.{Event}
use Rattle.events.specs.Events.{zero_event}
use Rattle.eventlist.specs.declared.Cleared.{Cleared}
use Rattle.eventlist.specs.declared.Span.{Span}
use Rattle.eventlist.specs.declared.Seen.{Seen}
use Rattle.eventlist.specs.declared.Window.{Window}
use Rattle.eventlist.specs.Rows.{rows_of, events_of}
use Rattle.eventlist.specs.Sound.{ok_events}
use Rattle.eventlist.specs.Windows.{taken_by_any}

-- ---- the times of all windows
abbrev pub widened : Span → Window → Span
widened s w = record { start = cond (lt_z w.start s.start) w.start s.start; end = cond (lt_z s.end w.end) w.end s.end }

-- no window begins before the span or ends after it
abbrev pub covers : Span → Window → Bool
covers s w = not (lt_z w.start s.start) && not (lt_z s.end w.end)

abbrev pub Covers : Span → List Window → Type 0
Covers s ws = all (covers s) ws ≡ true

module _ (ws : List Window) (l : List ℤ) (count : ℕ) where
  -- what is left, in order
  abbrev pub kept_by_all : List Event
  kept_by_all = without (taken_by_any ws) (events_of l count)

  -- how many events stand in front of the first that is taken, and how many are taken
  pub record Surveyed (seen : Seen) : Type 0 where
    pub first : seen.first ≡ in_front (taken_by_any ws) (events_of l count)
    pub taken : seen.taken ≡ count - length kept_by_all

  -- how many are left, and how many of them were moved
  abbrev pub cleared_by : Cleared
  cleared_by = record { left = length kept_by_all; moved = length (moves (taken_by_any ws) (events_of l count)) }

  -- the records afterwards: those that are kept first, places that fall vacant zeroed, what stands past the count untouched
  abbrev pub rows_cleared : List Event
  rows_cleared = put_first zero_event count kept_by_all (rows_of l)

-- the answer of the pass that tests the records, and finds what is taken: 4 where one may not be stored
unfoldable pub survey_of : ℕ → List Window → List ℤ → ℕ → Result Seen Refusal
survey_of store ws l count =
    cond (ok_events store l count)
    (Ok (record { first = in_front (taken_by_any ws) (events_of l count); taken = count - length (kept_by_all ws l count) }))
    (Err OutOfRange)
