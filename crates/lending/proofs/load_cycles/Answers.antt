-- Sixteen lent records are copied, of any other number none is.
use borrow.Author.Tests.{eq-eqb, ne_eqb}
use lib.ListN.{length}
use Rattle.lending.specs.Moving.{loaded_of}
use Rattle.lending.proofs.load_cycles.Goals as goal

pub returns-then-cycles-eq-PLACES : goal.returns-then-cycles-eq-PLACES
unfolding loaded_of
returns-then-cycles-eq-PLACES c = rw (eq-eqb (length c.args.cycles.now) 16 c.if-cycles-eq-PLACES.true) c.copy_from_slice.ensures.after

pub returns-else-cycles-eq-PLACES : goal.returns-else-cycles-eq-PLACES
unfolding loaded_of
returns-else-cycles-eq-PLACES c = rw (ne_eqb (length c.args.cycles.now) 16 c.if-cycles-eq-PLACES.false) (simp c.none-own.ensures)
