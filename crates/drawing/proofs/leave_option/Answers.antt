-- `leave_option`: the tests in their order, then one element is set.
use Rattle.std.proofs.Common.{◌≡◌, refl, sym, ap, ◌∙◌, to_z-of_z}
use Rattle.numbers.specs.Refusals.{told}
use Rattle.cycles.specs.Due.{key}
use Rattle.state.proofs.Answers.{asked-well, asked-ill}
use Rattle.drawing.specs.Options.{target_refusal, with_option, left}
use Rattle.drawing.proofs.leave_option.Goals.{then-is_ok, else-is_ok}
use Rattle.drawing.proofs.leave_option.Goals as goal

pub returns : goal.returns
unfolding left with_option
returns c =
    let a = c.args.track in
    let t = to_z-of_z c.ranges.target in
    let n : told c.ask_track-asked.result ≡ target_refusal a c.args.target c.args.allowed = rw t at c.ask_track-asked.ensures in
    elim c.if-is_ok.branch [
      | then-is_ok w ↦ rw (c.code_of.ensures, w.track-is, w.key_of.ensures ∙ ap key t) (asked-well _ n _ _ (sym c.is_ok.ensures.value ∙ w.if-is_ok.true))
      | else-is_ok w ↦ rw (c.code_of.ensures, w.track-is) (asked-ill _ n _ _ (sym c.is_ok.ensures.value ∙ w.if-is_ok.false))
    ]
