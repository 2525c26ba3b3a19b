-- `write_cc_on_time` is `write_on_time` of the target that `cc_target` names.
use mathlib.Core.Path.{ap, ◌∙◌}
use lib.IntN.{ℤ}
use lib.ListN.{length}
use mir.Syntax.{w32}
use mir.Facts.{to_z-of_z}
use borrow.Author.Rules.{sfits_of}
use Rattle.drawing.specs.Calls.{on_time, cc_target}
use Rattle.drawing.proofs.Drawn.{drawn-at}
use Rattle.drawing.proofs.write_cc_on_time.Goals as goal

pub returns : goal.returns
returns c =
    let a = c.args in
    drawn-at (λ (z : ℤ). on_time a.track z a.list.now a.budget a.events.now a.count (length a.store.now)) c.write_on_time.result c.write_on_time.new.events
    (to_z-of_z {w = w32} (sfits_of c.cc_target.type_inv) ∙ c.cc_target.ensures ∙ ap cc_target (to_z-of_z c.ranges.number))
    c.write_on_time.ensures
