use Rattle.std.proofs.Common.{ℕ, ◌+◌, ◌*◌, ◌-◌, ap, ◌∙◌, w32, to_z-of_z}
use borrow.Author.Rules.{sfits_of}
use Rattle.text.specs.Little.{number_at}
use Rattle.reel.specs.Records.{last_at}
use Rattle.reel.proofs.records.last_at.Goals as goal

pub returns : goal.returns
unfolding last_at
returns c = let a = c.args in
    to_z-of_z {w = w32} (sfits_of c.number_at.type_inv) ∙ c.number_at.ensures ∙ ap (λ (w : ℕ). number_at a.tape.now (a.at + 2 + 4 * (w - 1))) c.width.ensures.value
