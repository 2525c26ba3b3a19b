-- 01, "Numbers that come back": what a list has to be before a call uses it.
use Rattle.std.specs.Prelude.{Bool, ◌&&◌, List, ℕ, ◌/◌, ◌%◌, eqb, leb, ℤ, length}
use Rattle.laws.specs.Lists.{all}
use Rattle.events.specs.Events.{ok_event}
use Rattle.eventlist.specs.Rows.{record_width, events_of}

-- 1 is given for an "event list not a whole number of records, its count above it"
unfoldable pub is_list : List ℤ → ℕ → Bool
is_list l count = eqb (length l % record_width) 0 && leb count (length l / record_width)

-- 4 is given for a number in "used events against the ranges and rules above": a call that reads the list uses every record
-- below the count; data lies in a store of so many bytes
unfoldable pub ok_events : ℕ → List ℤ → ℕ → Bool
ok_events store l count = all (ok_event store) (events_of l count)
