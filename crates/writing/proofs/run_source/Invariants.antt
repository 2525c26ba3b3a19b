-- The invariant is `Adding` over the offers of the pieces left; the measure is the number of pieces left.
use Rattle.std.proofs.Common.{◌≡◌, length}
use Rattle.eventlist.specs.Rows.{rows_of}
use Rattle.offers.specs.Rules.{rule_of}
use Rattle.offers.specs.Pieces.{offers}
use Rattle.offers.specs.Waves.{triples}
use Rattle.offers.specs.Sources.{rest_of}
use Rattle.offers.proofs.Adding.{Adding}
use Rattle.offers.proofs.Running.{Ahead}
use Rattle.writing.proofs.run_source.Given as goal

abbrev pub invariant-loop-t : goal.invariant-loop-t
invariant-loop-t l = Ahead (triples l.numbers) l.initial.s l.s l.at × (length l.events ≡ length l.initial.events)
    × Adding (rule_of l.w) (offers l.w.freq (rest_of (triples l.numbers) l.initial.s) l.limit 0) (rows_of l.initial.events) l.count l.initial.walk (offers l.w.freq (rest_of (triples l.numbers) l.s) l.steps l.at) (rows_of l.events) l.n l.walk

abbrev pub decreases-loop-t : goal.decreases-loop-t
decreases-loop-t l = length (rest_of (triples l.numbers) l.s)
