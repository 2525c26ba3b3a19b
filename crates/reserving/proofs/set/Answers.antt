-- `set`: what is asked, and then what the kind puts (Settling).
use mathlib.Core.Path.{◌≡◌, sym, ap, ◌∙◌}
use mathlib.Core.Bool.{true}
use mir.Facts.{to_z-of_z}
use lib.IntN.{ℤ}
use Rattle.cycles.specs.Due.{key}
use Rattle.numbers.specs.Refusals.{told}
use Rattle.numbers.proofs.Asking.{some-number}
use Rattle.reserving.specs.Clearing.{refusal}
use Rattle.reserving.proofs.Refusing.{usable}
use Rattle.reserving.proofs.Settling.{turned-away, settled}
use Rattle.reserving.proofs.set.Given.{Over}
use Rattle.reserving.proofs.set.Goals.{After-asked}
use Rattle.reserving.proofs.set.Goals as goal

code_is : (g : Over) (c : After-asked g) → told c.asked.result ≡ refusal c.args.left.track c.args.size c.args.left.cycles c.args.target c.args.short c.args.ok true
code_is g c =
    c.asked.ensures
    ∙ ap (λ (z : ℤ). refusal c.args.left.track c.args.size c.args.left.cycles z c.args.short c.args.ok true) (to_z-of_z c.ranges.target)

pub put-requires-clause-lent : goal.put-requires-clause-lent
put-requires-clause-lent g c = usable _ _ _ _ _ _ _ (sym (code_is g (goal.at.put-requires-clause-lent g c).After-asked) ∙ ap told c.in-Ok.is)

pub returns-in-Ok : goal.returns-in-Ok
returns-in-Ok g c =
    let a = c.args in
    settled a.left.track a.size a.left.cycles a.target a.short a.ok g.T.Kind.room (g.T.Kind.put a.e)
    (code_is g (goal.at.returns-in-Ok g c).After-asked) (ap told c.in-Ok.is)
    (rw (c.key_of.ensures ∙ ap key (to_z-of_z c.ranges.target)) at c.put.ensures)

pub returns-in-Err : goal.returns-in-Err
returns-in-Err g c =
    let a = c.args in
    rw c.number.ensures (turned-away a.left.track a.size a.left.cycles a.target a.short a.ok g.T.Kind.room (g.T.Kind.put a.e)
    (sym (ap told c.in-Err.is) ∙ code_is g (goal.at.returns-in-Err g c).After-asked) (some-number c.in-Err.refusal))
