-- `set_cc_on_time_freq` asks the track and the number, and changes the track where both are well.
use Rattle.std.proofs.Common.{rules, ◌≡◌, sym, ap, ◌∙◌, to_z-of_z}
use Rattle.laws.proofs.Tests.{both}
use Rattle.numbers.specs.Refusals.{told}
use Rattle.numbers.specs.Ranges.{is_length}
use Rattle.reserved.specs.Setting.{demand}
use Rattle.numbers.proofs.Asking.{told-asked}
use Rattle.state.proofs.Answers.{asked-well, asked-ill}
use Rattle.state.proofs.set_cc_on_time_freq.Goals.{then-is_ok, else-is_ok}
use Rattle.state.proofs.set_cc_on_time_freq.Goals as goal

pub returns : goal.returns
returns c =
    let e : c.is_length.result ≡ is_length c.args.freq = search rules in
    let n = ap told c.ask-asked.ensures ∙ told-asked _ _ ∙ ap demand (both c.track_ok.ensures e) in
    elim c.if-is_ok.branch [
      | then-is_ok w ↦ rw (c.code_of.ensures, w.track-is, to_z-of_z c.ranges.freq) (asked-well _ n _ _ (sym c.is_ok.ensures.value ∙ w.if-is_ok.true))
      | else-is_ok w ↦ rw (c.code_of.ensures, w.track-is) (asked-ill _ n _ _ (sym c.is_ok.ensures.value ∙ w.if-is_ok.false))
    ]
