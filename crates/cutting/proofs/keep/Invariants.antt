-- `keep` meets its contract: of the first i the n that are kept stand shifted in front (`Moving`), and what is cleared at
-- the end makes it whole (`settled`).
use mathlib.Core.Bool.{not}
use Rattle.events.specs.Events.{zero_event}
use Rattle.eventlist.specs.Rows.{rows_of}
use Rattle.cutting.specs.Cuts.{keeps, shifted}
use Rattle.laws.proofs.Moving.{Moving, changed}
use Rattle.cutting.proofs.keep.Given as goal

abbrev pub invariant-loop-i : goal.invariant-loop-i
invariant-loop-i l = Moving rows_of zero_event (changed zero_event (shifted l.c) (λ e. not (keeps l.c e)) (rows_of l.initial.events)) l.initial.events l.events l.count l.i l.n
