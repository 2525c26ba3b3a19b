-- `note` meets its contract, by its velocity.
use mathlib.Core.Path.{◌∙◌}
use borrow.Author.Tests.{ne_eqb}
use Rattle.reader.proofs.note.Goals as goal

pub returns-then-f-eq0 : goal.returns-then-f-eq0
returns-then-f-eq0 c =
    c.plain.ensures ∙ rw c.if-f-eq0.true

pub returns : goal.returns
returns c =
    c.plain-2.ensures ∙ rw (ne_eqb c.args.f.second 0 c.if-f-eq0.false)
