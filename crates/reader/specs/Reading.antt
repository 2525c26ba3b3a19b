-- 02, e): "Read an MTrk chunk into the event list, running status included, with note ends as NoteOff events of velocity 0." The reader of a body is
-- that of chunks/specs/Reader, one event at a time from the front; here is what becomes of its messages, what the call refuses, in order, and what it
-- leaves.
use Rattle.std.specs.Prelude.{Bool, cond, ◌&&◌, List, map, ℕ, ◌+◌, eqb, leb, ℤ, pos, length, drop, get_or}
use Rattle.laws.specs.Integers.{eq_z}
use Rattle.laws.specs.Lists.{all, put_first}
use Rattle.laws.specs.Rows.{flat}
use Rattle.numbers.specs.Ranges.{is_event_time}
use Rattle.events.specs.declared.Event.{Event}
use Rattle.events.specs.Kinds.{note_on, note_off}
use Rattle.events.specs.Events.{zero_event, plain_event}
use Rattle.eventlist.specs.declared.Taken.{Taken}
use Rattle.eventlist.specs.Rows.{numbers_of, rows_of}
use Rattle.eventlist.specs.Sound.{is_list}
use Rattle.chunks.specs.Chunks.{mark}
use Rattle.chunks.specs.Writing.{head_bytes}
use Rattle.chunks.specs.Reader.{Whole, big_endian_in, read_body}
use Rattle.chunks.specs.Told.{event_in}

-- ---- what becomes of a message
-- "each NoteOn of velocity 0 turned into a NoteOff"
unfoldable pub ended : Event → Event
ended e =
    cond (eq_z e.kind note_on && eq_z e.v3 (pos 0)) (plain_event note_off e.time e.channel e.v1 (pos 0) (pos 0)) e

-- of a status, a time and two data bytes: the event that they tell, no length, no velocity at a note's end. "Both kinds of aftertouch are stepped
-- over": they tell none.
unfoldable pub kept_in : ℕ → ℕ → ℕ → ℕ → List Event
kept_in status time a b = map ended (event_in status time a b)

-- ---- 13: "not an MTrk chunk, or its length disagrees with the input"
-- "MTrk" stands first
unfoldable pub marked : List ℕ → Bool
marked c =
    eqb (get_or c 0 0) (get_or mark 0 0) && eqb (get_or c 1 0) (get_or mark 1 0) && eqb (get_or c 2 0) (get_or mark 2 0) && eqb (get_or c 3 0) (get_or mark 3 0)

-- the four bytes behind it say how many follow
unfoldable pub is_chunk : List ℕ → Bool
is_chunk c = leb head_bytes (length c) && marked c && eqb (head_bytes + big_endian_in (drop 4 c)) (length c)

-- ---- 14 and 15: "in order of the first faulty byte", which the reader of a body meets first
unfoldable pub read_of : List ℕ → Whole Event
read_of c = read_body kept_in (drop head_bytes c)

-- the events that are kept, in order
abbrev pub events_in : List ℕ → List Event
events_in c = (read_of c).kept

-- ---- the call
-- "Room is asked after 15 and gives 7, and a kept event's time past the range then gives 4"
abbrev pub timely : Event → Bool
timely e = is_event_time e.time

unfoldable pub placed : List Event → ℕ → ℕ
placed es room = cond (leb (length es) room) (cond (all timely es) 0 4) 7

-- of a chunk, and a list with room for so many events
unfoldable pub unread : List ℕ → ℕ → ℕ
unread c room = cond (is_chunk c) (cond (eqb (read_of c).code 0) (placed (events_in c) room) (read_of c).code) 13

unfoldable pub read_refusal : List ℕ → List ℤ → ℕ → ℕ
read_refusal c l count = cond (is_list l count) (unread c (length (rows_of l))) 1

-- the answer: the number, and how many events the list has; a call that is refused hands the count back
abbrev pub read_taken : List ℕ → List ℤ → ℕ → Taken
read_taken c l count =
    record {
      code = read_refusal c l count;
      count = cond (eqb (read_refusal c l count) 0) (length (events_in c)) count;
    }

-- every number of the list afterwards: the chunk's events and nothing else, places that fall vacant zeroed, what stands past the count untouched.
-- "On each the list is untouched."
abbrev pub read_left : List ℕ → List ℤ → ℕ → List ℤ
read_left c l count =
    cond (eqb (read_refusal c l count) 0) (flat numbers_of (put_first zero_event count (events_in c) (rows_of l))) l
