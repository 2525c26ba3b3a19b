-- `get_write_opt`: what was asked, and then the option.
use Rattle.std.proofs.Common.{◌≡◌, sym, ap, ◌∙◌, to_z-of_z}
use borrow.Author.Tests.{ne_eqb}
use Rattle.numbers.specs.Refusals.{number_of, told}
use Rattle.numbers.proofs.Asking.{some-number}
use Rattle.drawing.specs.Options.{target_refusal, option_for}
use Rattle.drawing.proofs.get_write_opt.Goals.{After-ask_track}
use Rattle.drawing.proofs.get_write_opt.Goals as goal
use mathlib.Core.Bool.{true}

asked : (c : After-ask_track) → told c.ask_track.result ≡ target_refusal c.args.track c.args.target true
asked c = rw (to_z-of_z c.ranges.target) at c.ask_track.ensures

pub returns-in-Ok : goal.returns-in-Ok
unfolding option_for
returns-in-Ok c =
    let n = sym (asked (goal.at.returns-in-Ok c).After-ask_track) ∙ ap told c.in-Ok.is in
    rw (c.option_of.ensures, to_z-of_z c.ranges.target, n)

pub returns-in-Err : goal.returns-in-Err
unfolding option_for
returns-in-Err c =
    let n = sym (asked (goal.at.returns-in-Err c).After-ask_track) ∙ ap told c.in-Err.is in
    rw (c.number.ensures, c.new.ensures, n, ne_eqb (number_of c.in-Err.refusal) 0 (some-number c.in-Err.refusal))
