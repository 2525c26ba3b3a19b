-- `span_of` meets its contract: the span covers the windows passed, and a widened one covers what it covered and one more.
use lib.ListN.{take}
use Rattle.eventlist.specs.Clearing.{Covers}
use Rattle.eventlist.proofs.span_of.Given as goal

abbrev pub invariant-loop-w : goal.invariant-loop-w
invariant-loop-w l = Covers l.span (take l.w-index l.windows)
