-- `set_channel` asks the track and the number, and changes the track where both are well.
use Rattle.std.proofs.Common.{rules, ◌≡◌, sym, ap, ◌∙◌, to_z-of_z}
use Rattle.laws.proofs.Tests.{both}
use Rattle.numbers.specs.Refusals.{told}
use Rattle.numbers.specs.Ranges.{is_channel}
use Rattle.reserved.specs.Setting.{demand}
use Rattle.numbers.proofs.Asking.{told-asked}
use Rattle.state.proofs.Answers.{asked-well, asked-ill}
use Rattle.state.proofs.set_channel.Goals.{then-is_ok, else-is_ok}
use Rattle.state.proofs.set_channel.Goals as goal

pub returns : goal.returns
returns c =
    let e : c.channel_ok.result ≡ is_channel c.args.channel = search rules in
    let n = ap told c.ask-asked.ensures ∙ told-asked _ _ ∙ ap demand (both c.track_ok.ensures e) in
    elim c.if-is_ok.branch [
      | then-is_ok w ↦ rw (c.code_of.ensures, w.track-is, to_z-of_z c.ranges.channel) (asked-well _ n _ _ (sym c.is_ok.ensures.value ∙ w.if-is_ok.true))
      | else-is_ok w ↦ rw (c.code_of.ensures, w.track-is) (asked-ill _ n _ _ (sym c.is_ok.ensures.value ∙ w.if-is_ok.false))
    ]
