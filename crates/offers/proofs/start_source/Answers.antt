-- `unchanged` by its two tests, each told by the branch that is taken.
use mathlib.Core.Path.{sym}
use mathlib.Core.Logic.{⊎_elim}
use borrow.Author.Tests.{eq-eqb, ne_eqb}
use Rattle.offers.specs.Sources.{starting_at}
use Rattle.offers.proofs.start_source.Goals as goal

pub returns-then-total-eq0 : goal.returns-then-total-eq0
unfolding starting_at
returns-then-total-eq0 c =
    ⊎_elim
    (λ n. rw (eq-eqb c.args.n 0 n))
    (λ w. sym (rw (← c.total_of-total.ensures, eq-eqb c.total_of-total.result 0 w.1, ne_eqb c.args.n 0 w.0)))
    c.if-total-eq0.either

pub returns-else-total-eq0 : goal.returns-else-total-eq0
unfolding starting_at
returns-else-total-eq0 c =
    let f = c.if-total-eq0.false in
    sym (rw (← c.total_of-total.ensures, ne_eqb c.args.n 0 f.0, ne_eqb c.total_of-total.result 0 f.1))
