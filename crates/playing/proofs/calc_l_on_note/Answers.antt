-- `calc_l_on_note` puts the settled answer of its parameter into the track.
use Rattle.std.proofs.Common.{rules, w32, FitsSigned, to_z-of_z}
use Rattle.playing.proofs.Leaving.{settled-on-note, span_left}
use Rattle.playing.proofs.calc_l_on_note.Goals as goal

pub returns : goal.returns
returns c =
    let a = c.args.track in
    let s = c.settled-left.result in
    let e = settled-on-note a a.l c.settled-left.ensures c.track_ok.ensures c.calc_on_note.ensures (to_z-of_z c.ranges.def) in
    let f : FitsSigned w32 s.value = search rules in
    rw (to_z-of_z f) (span_left a c.args.def s e)
