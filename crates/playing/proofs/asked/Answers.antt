-- `asked`: by the two tests.
use mathlib.Core.Logic.{⊎_elim}
use Rattle.std.proofs.Common.{sym, ◌∙◌}
use borrow.Author.Tests.{ne_eqb}
use Rattle.playing.specs.Calls.{asked}
use Rattle.playing.proofs.Answers.{as-too-many, as-well}
use Rattle.playing.proofs.asked.Goals as goal

pub returns-then-ok : goal.returns-then-ok
returns-then-ok c = ⊎_elim (λ e. as-too-many c.args.ok (e ∙ c.number.ensures)) (λ w. as-well c.args.code w.1) c.if-ok.either

pub returns-else-ok : goal.returns-else-ok
unfolding asked
returns-else-ok c =
    let f = c.if-ok.false in
    rw (c.number-else-ok.ensures, f.1, ne_eqb c.args.code 3 (λ e. f.0 (e ∙ sym c.number.ensures)))
