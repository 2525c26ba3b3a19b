-- 01, item 8: `split_note_off` and `normalize` put after each NoteOn its NoteOff, at the note's time plus its length
-- v2, with the same numbers and data.
use Rattle.std.specs.Prelude.{Bool, cond, not, ◌&&◌, ◌||◌, List, [], ◌∷◌, ◌++◌, ℕ, ◌/◌, ◌%◌, eqb, ltb, ℤ, ◌+ℤ◌, length}
use Rattle.laws.specs.Integers.{eq_z}
use Rattle.laws.specs.Lists.{all, put_first}
use Rattle.laws.specs.Rows.{flat}
use Rattle.numbers.specs.Ranges.{is_event_time}
use Rattle.events.specs.declared.Event.{Event}
use Rattle.events.specs.Events.{zero_event}
use Rattle.events.specs.Kinds.{note_on, note_off}
use Rattle.eventlist.specs.declared.Taken.{Taken}
use Rattle.eventlist.specs.Rows.{record_width, rows_of, events_of, numbers_of}
use Rattle.eventlist.specs.Sound.{is_list, ok_events}

unfoldable pub is_note : Event → Bool
is_note e = eq_z e.kind note_on

-- the end of a note
abbrev pub off_of : Event → Event
off_of e =
    record {
      kind = note_off;
      time = e.time +ℤ e.v2;
      channel = e.channel;
      v1 = e.v1;
      v2 = e.v2;
      v3 = e.v3;
      offset = e.offset;
      len = e.len;
    }

-- an event, and its end where it is a note
abbrev pub with_off : Event → List Event
with_off e = cond (is_note e) (e ∷ off_of e ∷ []) (e ∷ [])

unfoldable pub split_notes : List Event → List Event
split_notes [] = []
split_notes (e ∷ es) = with_off e ++ split_notes es

-- 4 is given for "a resulting event time outside ±2^42"
unfoldable pub ok_end : Event → Bool
ok_end e = not (is_note e) || is_event_time (e.time +ℤ e.v2)

-- the refusals of both calls, in order, for a list that is left in a buffer of so many numbers
unfoldable pub split_refusal : ℕ → List ℤ → ℕ → ℕ → ℕ
split_refusal store l count size =
    cond (is_list l count && eqb (size % record_width) 0)
    (cond (ok_events store l count)
    (cond (all ok_end (events_of l count))
    (cond (ltb (size / record_width) (length (split_notes (events_of l count)))) 7 0)
    4)
    4)
    1

-- the answer: the count of the list that is left; a call that is refused hands the count back
abbrev pub split_taken : ℕ → List ℤ → ℕ → List ℤ → Taken
split_taken store l count out =
    record {
      code = split_refusal store l count (length out);
      count = cond (eqb (split_refusal store l count (length out)) 0) (length (split_notes (events_of l count))) count;
    }

-- every number of `out` afterwards, of which the first n records counted before
abbrev pub split_left : ℕ → List ℤ → ℕ → List ℤ → ℕ → List ℤ
split_left store l count out n =
    cond (eqb (split_refusal store l count (length out)) 0) (flat numbers_of (put_first zero_event n (split_notes (events_of l count)) (rows_of out))) out
