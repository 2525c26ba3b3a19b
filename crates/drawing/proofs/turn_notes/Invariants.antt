-- `turn_notes` lays the turned lists over those of the table (the law Over), one a turn.
use Rattle.std.proofs.Common.{◌≡◌, ℕ, List, map}
use Rattle.laws.specs.Lists.{over}
use Rattle.tables.specs.declared.OnNoteValues.{OnNoteValues}
use Rattle.drawing.specs.Options.{turned}
use Rattle.drawing.proofs.turn_notes.Given as goal

-- the first i of l by f
abbrev pub done : (OnNoteValues → OnNoteValues) → List OnNoteValues → ℕ → List OnNoteValues
done f l i = over l (map f l) i

abbrev pub invariant-loop-i : goal.invariant-loop-i
invariant-loop-i l = (l.table.count ≡ l.fn.table.count) × (l.table.items ≡ done (turned l.k l.on) l.fn.table.items l.i)
