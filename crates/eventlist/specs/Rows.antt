-- The lent list of numbers, read whole as records of eight. Contracts speak of the records; `determined` (proofs/EventRows)
-- says that they fix every number.
use Rattle.std.specs.Prelude.{◌≡◌, List, [], ◌∷◌, ℕ, ◌*◌, ◌/◌, ℤ, pos, length, get_or, take}
use Rattle.laws.specs.Rows.{rows}
use Rattle.events.specs.declared.Event.{Event}

-- the numbers of a record: kind, time, channel, v1, v2, v3, data offset, data length
abbrev pub record_width : ℕ
record_width = 8

-- the event that the first eight numbers say
abbrev pub event_of : List ℤ → Event
event_of l =
    record {
      kind = get_or l 0 (pos 0);
      time = get_or l 1 (pos 0);
      channel = get_or l 2 (pos 0);
      v1 = get_or l 3 (pos 0);
      v2 = get_or l 4 (pos 0);
      v3 = get_or l 5 (pos 0);
      offset = get_or l 6 (pos 0);
      len = get_or l 7 (pos 0);
    }

-- the eight numbers of an event
abbrev pub numbers_of : Event → List ℤ
numbers_of e = e.kind ∷ e.time ∷ e.channel ∷ e.v1 ∷ e.v2 ∷ e.v3 ∷ e.offset ∷ e.len ∷ []

-- the whole slice as records
unfoldable pub rows_of : List ℤ → List Event
rows_of l = rows record_width event_of (length l / record_width) l

-- the events of a counted list
abbrev pub events_of : List ℤ → ℕ → List Event
events_of l n = take n (rows_of l)

-- a whole number of records
unfoldable pub Whole : List ℤ → Type 0
Whole l = length l ≡ length (rows_of l) * record_width
