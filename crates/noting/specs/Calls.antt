-- 01, "Numbers that come back": what `write_cc_on_note` answers and leaves.
use Rattle.std.specs.Prelude.{cond, ◌&&◌, List, ◌++◌, ℕ, eqb, ltb, ℤ, length, take}
use Rattle.laws.specs.Lists.{put_first}
use Rattle.laws.specs.Rows.{flat}
use Rattle.numbers.specs.Ranges.{is_time}
use Rattle.budget.specs.declared.Budget.{Budget}
use Rattle.budget.specs.Budgets.{ok_budget}
use Rattle.events.specs.declared.Event.{Event}
use Rattle.events.specs.Events.{zero_event}
use Rattle.eventlist.specs.Rows.{numbers_of, rows_of, events_of}
use Rattle.eventlist.specs.Sound.{is_list}
use Rattle.tables.specs.declared.NoteTable.{NoteTable}
use Rattle.state.specs.declared.Track.{Track}
use Rattle.state.specs.Track.{with_tables}
use Rattle.state.specs.Tests.{ok_track}
use Rattle.noting.specs.declared.Noted.{Noted}
use Rattle.noting.specs.Runs.{Run, run, kept, notes_put}

-- the run over a track's lists
unfoldable pub run_of : Track → ℤ → Budget → Run
run_of a start b = run a.options (record { start = start; channel = a.channel }) b (take a.notes.count a.notes.items)

abbrev pub with_notes : Track → NoteTable → Track
with_notes a n = with_tables a n a.waves a.sines a.cycles

-- the list that is left of the events es
abbrev pub list_after : List Event → Run → List Event
list_after es r = es ++ r.events

-- 1, then 4, "or a resulting event time outside ±2^42", which `Promises.in-time` rules out; then 7, "the list that the Rust would
-- leave holds more events than the buffer". The call only appends, so it uses no record
unfoldable pub refusal : Track → ℤ → Budget → List ℤ → ℕ → ℕ
refusal a start b l count =
    cond (is_list l count)
    (cond (is_time start && ok_track a && ok_budget b)
    (cond (ltb (length (rows_of l)) (length (list_after (events_of l count) (run_of a start b)))) 7 0)
    4)
    1

-- refused, all of it is as it was given
abbrev pub answer : ℕ → ℕ → Budget → Track → Noted
answer n count b a = record { code = n; count = count; budget = b; track = a }

unfoldable pub noted : Track → ℤ → Budget → List ℤ → ℕ → Noted
noted a start b l count =
    let n = refusal a start b l count in
    let r = run_of a start b in
    cond (eqb n 0) (answer 0 (length (list_after (events_of l count) r)) r.budget (with_notes a (notes_put a.notes (kept r))))
    (answer n count b a)

-- every number of the lent list afterwards
unfoldable pub list_left : Track → ℤ → Budget → List ℤ → ℕ → List ℤ
list_left a start b l count =
    cond (eqb (refusal a start b l count) 0)
    (flat numbers_of (put_first zero_event count (list_after (events_of l count) (run_of a start b)) (rows_of l)))
    l
