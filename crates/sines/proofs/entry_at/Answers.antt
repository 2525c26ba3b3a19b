-- The lent table is the definition's, so its element is the entry.
use Rattle.std.proofs.Common.{ℕ, List, get_or, ap, ◌∙◌, arith}
use Rattle.sines.proofs.Rules.{entry-le}
use Rattle.sines.proofs.entry_at.Goals as goal

pub returns : goal.returns
returns c =
    let e = c.from.ensures ∙ ap (λ (l : List ℕ). get_or l c.args.k 0) c.requires.1 in
    (e, omega (arith, e, entry-le c.args.k (omega arith)))
