use Rattle.std.proofs.Common.{ap, ◌∙◌, sym, w32, to_z-of_z}
use borrow.Author.Rules.{sfits_of}
use Rattle.laws.specs.Integers.{cut}
use Rattle.reel.specs.Records.{count_at}
use Rattle.reel.proofs.records.count_at.Goals as goal

pub returns-then-has_list : goal.returns-then-has_list
unfolding count_at
returns-then-has_list c = rw (sym c.has_list.ensures ∙ c.if-has_list.true)
    (c.count_of.ensures ∙ ap cut (to_z-of_z {w = w32} (sfits_of c.last_at.type_inv) ∙ c.last_at.ensures))

pub returns-else-has_list : goal.returns-else-has_list
unfolding count_at
returns-else-has_list c = rw (sym c.has_list.ensures ∙ c.if-has_list.false)
