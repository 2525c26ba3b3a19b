-- `new` tests the timebase and clamps the channel.
use Rattle.std.proofs.Common.{rules, ◌≡◌, sym, ap, ◌∙◌}
use Rattle.numbers.specs.Ranges.{is_timebase}
use Rattle.state.specs.Track.{new_track}
use Rattle.state.specs.Calls.{answer, on_channel, new_of}
use Rattle.state.proofs.Answers.{refused, done}
use Rattle.state.proofs.Track.new.Goals as goal

pub returns-then-is_timebase : goal.returns-then-is_timebase
unfolding new_of
returns-then-is_timebase c =
    let e : c.is_timebase.result ≡ is_timebase c.args.timebase = search rules in
    let b : c.blank.result ≡ new_track c.args.timebase (on_channel c.args.channel) = search rules in
    ap (answer 0) b ∙ done _ _ (sym e ∙ c.if-is_timebase.true)

pub returns-else-is_timebase : goal.returns-else-is_timebase
unfolding new_of
returns-else-is_timebase c =
    let e : c.is_timebase.result ≡ is_timebase c.args.timebase = search rules in
    rw (c.number.ensures, c.blank-else-is_timebase.ensures) (refused _ _ (sym e ∙ c.if-is_timebase.false))
