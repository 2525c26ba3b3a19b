-- 01, "Values per note": "On-note lists go round only if repeat .. stands now (for target reservations)". What a target's list
-- has for a note, and where it stands after it.
use Rattle.std.specs.Prelude.{Bool, cond, ◌&&◌, ◌||◌, ℕ, ◌+◌, eqb, leb, ℤ, pos, get_or}
use Rattle.cycles.specs.Due.{DueWrite}
use Rattle.tables.specs.declared.OnNoteValues.{OnNoteValues}

abbrev pub at_end : OnNoteValues → Bool
at_end e = leb e.values.count e.index

-- no value for this note: the list is empty, or at its end and does not go round
unfoldable pub silent : OnNoteValues → Bool
silent e = eqb e.values.count 0 || (at_end e && eqb e.cycling 0)

-- where its value stands: at its end it begins again
unfoldable pub place_of : OnNoteValues → ℕ
place_of e = cond (at_end e) 0 e.index

unfoldable pub value_of : OnNoteValues → ℤ
value_of e = get_or e.values.items (place_of e) (pos 0)

-- the value, to be written at the note's start
abbrev pub due_at : ℤ → OnNoteValues → DueWrite
due_at start e = record { target = e.target; time = start; value = value_of e }

-- the list once that value is written
unfoldable pub advanced : OnNoteValues → OnNoteValues
advanced e = record { target = e.target; index = place_of e + 1; cycling = e.cycling; values = e.values }

-- to be taken out after a note: all its values are used, and it does not go round
unfoldable pub spent : OnNoteValues → Bool
spent e = at_end e && eqb e.cycling 0
