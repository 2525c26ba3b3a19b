-- What is summed and what the triples left last are together the whole.
use Rattle.std.proofs.Common.{◌≡◌, ◌+◌, drop}
use Rattle.offers.specs.Pieces.{total}
use Rattle.offers.specs.Waves.{triples}
use Rattle.offers.proofs.total_of.Given as goal

abbrev pub invariant-loop-i : goal.invariant-loop-i
invariant-loop-i l = l.sum + total (drop l.i (triples l.numbers)) ≡ total (triples l.numbers)
