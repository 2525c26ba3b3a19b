-- The lists of a table at one note: in table order each that has a value writes it, "one value" at the note's start, and then
-- stands one further. The first write that does not fit is lost and ends the run: that list and those after it stand still.
use Rattle.std.specs.Prelude.{Some, None, Bool, true, false, cond, List, [], ◌∷◌, ◌++◌, length, drop, replicate}
use Rattle.laws.specs.Lists.{without, put_first}
use Rattle.numbers.specs.Limits.{places, value_bytes}
use Rattle.budget.specs.declared.Budget.{Budget}
use Rattle.budget.specs.Budgets.{fits}
use Rattle.events.specs.declared.Event.{Event}
use Rattle.events.specs.Events.{zero_event}
use Rattle.values.specs.declared.WriteOption.{WriteOption}
use Rattle.values.specs.declared.Wrote.{Wrote}
use Rattle.values.specs.Value.{wrote_of}
use Rattle.cycles.specs.Turns.{asked, offered, option_of}
use Rattle.tables.specs.declared.OnNoteValues.{OnNoteValues}
use Rattle.tables.specs.declared.NoteTable.{NoteTable}
use Rattle.tables.specs.Tables.{no_note}
use Rattle.noting.specs.declared.Onset.{Onset}
use Rattle.noting.specs.declared.Stepped.{Stepped}
use Rattle.noting.specs.declared.Played.{Played}
use Rattle.noting.specs.Lists.{silent, due_at, advanced, spent}

-- what a run leaves: the lists, the budget, the events that it writes, and whether a write was lost
pub record Run : Type 0 where
  pub lists : List OnNoteValues
  pub budget : Budget
  pub events : List Event
  pub lost : Bool

abbrev pub ran : List OnNoteValues → Budget → List Event → Bool → Run
ran ls b es lost = record { lists = ls; budget = b; events = es; lost = lost }

-- the same behind lists that were passed and events that were written
abbrev pub behind : List OnNoteValues → List Event → Run → Run
behind ls es r = ran (ls ++ r.lists) r.budget (es ++ r.events) r.lost

-- a list's value as one value, with its target's option
unfoldable pub wrote_at : WriteOption → Onset → Budget → OnNoteValues → Wrote
wrote_at option at b e = let w = due_at at.start e in wrote_of (asked option at.channel w) b (offered w)

-- one list that has a value: it stands one further where the write fits
unfoldable pub step_of : WriteOption → Onset → Budget → OnNoteValues → Stepped
step_of option at b e =
    let w = wrote_at option at b e in
    record { list = cond w.fits (advanced e) e; budget = w.budget; event = cond w.fits (Some w.event) None }

unfoldable pub run : List WriteOption → Onset → Budget → List OnNoteValues → Run
run options at b [] = ran [] b [] false
run options at b (e ∷ es) =
    let w = wrote_at (option_of options e.target) at b e in
    cond (silent e) (behind (e ∷ []) [] (run options at b es))
    (cond (fits value_bytes b) (behind (advanced e ∷ []) (w.event ∷ []) (run options at w.budget es))
    (ran (e ∷ es) w.budget [] true))

-- after the last list, those that are used up go; where a write was lost none does
unfoldable pub kept : Run → List OnNoteValues
kept r = cond r.lost r.lists (without spent r.lists)

-- ---- a table whose used places become `now`; those that stay close up, places that fall vacant are zero
abbrev pub notes_put : NoteTable → List OnNoteValues → NoteTable
notes_put t now = record { count = length now; items = put_first no_note t.count now t.items }

-- events, gathered in an array
abbrev pub gathered_in : List Event → List Event
gathered_in es = es ++ drop (length es) (replicate places zero_event)

abbrev pub answered_by : NoteTable → Run → List OnNoteValues → Played
answered_by t r now =
    record { notes = notes_put t now; budget = r.budget; made = length r.events; events = gathered_in r.events; lost = r.lost }

-- before those that are used up go, and after
unfoldable pub ran_of : NoteTable → Run → Played
ran_of t r = answered_by t r r.lists

unfoldable pub played_of : NoteTable → Run → Played
played_of t r = answered_by t r (kept r)
