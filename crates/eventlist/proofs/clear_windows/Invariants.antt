-- `clear_windows` meets its contract: of the first n + gone the n that are kept stand in front (`Compacting`), those behind the first
-- taken one moved there; the loop begins behind that one (`begun`) and, while one is left to be taken (`some-ahead`), moves the stretch
-- before it (`step-stretch`); what is left then moves as a stretch too (`stretched`); what is cleared at the end makes it whole (`closed`).
use mathlib.Core.Path.{◌≡◌}
use Prim.Native.Nat.{◌+◌}
use Rattle.laws.proofs.Taking.{Compacting}
use Rattle.events.specs.Events.{zero_event}
use Rattle.eventlist.specs.Rows.{rows_of}
use Rattle.eventlist.specs.Windows.{taken_by_any}
use Rattle.eventlist.proofs.clear_windows.Given as goal

abbrev pub invariant-loop-gone : goal.invariant-loop-gone
invariant-loop-gone l =
    Compacting rows_of zero_event (taken_by_any l.windows) l.initial.events l.events l.count (l.n + l.gone) l.n × (l.moved + l.first ≡ l.n)
