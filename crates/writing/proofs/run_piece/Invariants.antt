-- The invariant is `Adding`: the walk, the count and the records that come of what is left from here are those of the whole from the
-- start. The measure is the steps left.
use Rattle.std.proofs.Common.{◌≡◌, ◌+◌, ◌-◌, ◌≤◌, length}
use Rattle.eventlist.specs.Rows.{rows_of}
use Rattle.offers.specs.Rules.{rule_of}
use Rattle.offers.specs.Pieces.{points_of}
use Rattle.offers.proofs.Stepping.{left}
use Rattle.offers.proofs.Adding.{Adding}
use Rattle.writing.proofs.run_piece.Given as goal

abbrev pub invariant-loop-j : goal.invariant-loop-j
invariant-loop-j l = (l.j ≤ l.k + l.w.freq) × (length l.events ≡ length l.initial.events) × Adding (rule_of l.w) (points_of l.w.freq l.at l.t l.k) (rows_of l.initial.events) l.count l.initial.walk (left l.w.freq l.at l.t l.k l.j) (rows_of l.events) l.n l.walk

abbrev pub decreases-loop-j : goal.decreases-loop-j
decreases-loop-j l = l.k - l.j
