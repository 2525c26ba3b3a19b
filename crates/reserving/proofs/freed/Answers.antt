-- `freed`: the number that was asked chooses.
use mathlib.Core.Path.{◌≡◌, sym, ap, ◌∙◌}
use mathlib.Core.Bool.{true}
use mir.Facts.{to_z-of_z}
use lib.IntN.{ℤ}
use Rattle.cycles.specs.Due.{key}
use Rattle.numbers.specs.Refusals.{told}
use Rattle.numbers.proofs.Asking.{some-number}
use Rattle.reserving.specs.Clearing.{refusal, cleared, reserving}
use Rattle.reserving.proofs.Refusing.{usable}
use Rattle.reserving.proofs.Settling.{refused, done}
use Rattle.reserving.proofs.freed.Goals.{After-asked}
use Rattle.reserving.proofs.freed.Goals as goal

code_is : (c : After-asked) → told c.asked.result ≡ refusal c.args.left.track c.args.size c.args.left.cycles c.args.target c.args.short c.args.ok true
code_is c =
    c.asked.ensures
    ∙ ap (λ (z : ℤ). refusal c.args.left.track c.args.size c.args.left.cycles z c.args.short c.args.ok true) (to_z-of_z c.ranges.target)

pub cleared-requires-clause-lent : goal.cleared-requires-clause-lent
cleared-requires-clause-lent c = usable _ _ _ _ _ _ _ (sym (code_is (goal.at.cleared-requires-clause-lent c).After-asked) ∙ ap told c.in-Ok.is)

pub returns-in-Ok : goal.returns-in-Ok
unfolding reserving
returns-in-Ok c =
    c.cleared.ensures
    ∙ ap (cleared c.args.left.track c.args.left.cycles) (c.key_of.ensures ∙ ap key (to_z-of_z c.ranges.target))
    ∙ done (code_is (goal.at.returns-in-Ok c).After-asked) _ _ _ (ap told c.in-Ok.is)

pub returns-in-Err : goal.returns-in-Err
unfolding reserving
returns-in-Err c = rw c.number.ensures (refused (sym (ap told c.in-Err.is) ∙ code_is (goal.at.returns-in-Err c).After-asked) _ _ _ (some-number c.in-Err.refusal))
