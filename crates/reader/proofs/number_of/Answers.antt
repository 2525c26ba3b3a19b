-- `number_of` meets its contract.
use borrow.Author.Tests.{eq-eqb, ne_eqb}
use Rattle.reader.proofs.number_of.Goals as goal

pub returns-then-code-eq1 : goal.returns-then-code-eq1
returns-then-code-eq1 c = rw (eq-eqb c.args.code 1 c.if-code-eq1.true)

pub returns : goal.returns
returns c = rw (ne_eqb c.args.code 1 c.if-code-eq1.false)
