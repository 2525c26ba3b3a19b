-- 01, "On-time curves": "Take out events of this type (and controller number, for controllers) with time in [timepos+delay,
-- that + total) .. Channel doesn't matter".
use Rattle.std.specs.Prelude.{Bool, not, ◌&&◌, ◌||◌, List, ℕ, ℤ}
use Rattle.std.specs.Int.Signed.{lt_z, le_z}
use Rattle.laws.specs.Integers.{eq_z}
use Rattle.laws.specs.Lists.{any, without, put_first}
use Rattle.events.specs.declared.Event.{Event}
use Rattle.events.specs.Kinds.{control_change}
use Rattle.events.specs.Events.{zero_event}
use Rattle.eventlist.specs.declared.Window.{Window}
use Rattle.eventlist.specs.Rows.{rows_of, events_of}

-- the number counts where the kind is a controller's
unfoldable pub taken_by : Window → Event → Bool
taken_by w e =
    eq_z e.kind w.kind && (not (eq_z w.kind control_change) || eq_z e.v1 w.number) && le_z w.start e.time
    && lt_z e.time w.end

-- the events that a window leaves, in order
abbrev pub kept_by : Window → List ℤ → ℕ → List Event
kept_by w l count = without (taken_by w) (events_of l count)

-- the records afterwards: those that are kept first, places that fall vacant zeroed, what stands past the count untouched
abbrev pub rows_kept : Window → List ℤ → ℕ → List Event
rows_kept w l count = put_first zero_event count (kept_by w l count) (rows_of l)

-- some window takes the event
abbrev pub taken_by_any : List Window → Event → Bool
taken_by_any ws e = any (λ w. taken_by w e) ws
