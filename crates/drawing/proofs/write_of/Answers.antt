-- `write_of`: each number of the track, read back, is itself.
use Rattle.std.proofs.Common.{rules, w32, w64, to_z-of_z}
use mir.Val.{SFits}
use Rattle.drawing.specs.Write.{write_of}
use Rattle.drawing.proofs.write_of.Goals as goal

pub returns : goal.returns
unfolding write_of
returns c =
    let a = c.args.track in
    let target = to_z-of_z c.ranges.target in
    let timebase : SFits w32 a.timebase = search rules in
    let time : SFits w64 a.timepos = search rules in
    let channel : SFits w32 a.channel = search rules in
    let ccfreq : SFits w32 a.ccfreq = search rules in
    let pbfreq : SFits w32 a.pbfreq = search rules in
    rw (
      rw (target, to_z-of_z ccfreq, to_z-of_z pbfreq, to_z-of_z timebase) at c.freq_for.ensures,
      rw target at c.option_of.ensures,
      target,
      to_z-of_z channel,
      to_z-of_z time,
    )
