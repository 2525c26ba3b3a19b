-- `calc_qlen_on_note` puts the settled answer of its parameter into the track.
use Rattle.std.proofs.Common.{rules, ◌≡◌, true, false, sym, ◌∙◌, w32, FitsSigned, to_z-of_z}
use Rattle.playing.specs.Settled.{listed}
use Rattle.playing.proofs.Leaving.{settled-on-note, gate-left}
use Rattle.playing.proofs.calc_qlen_on_note.Goals.{then-is_listed, else-is_listed}
use Rattle.playing.proofs.calc_qlen_on_note.Goals as goal

pub returns : goal.returns
returns c =
    let a = c.args.track in
    let s = c.settled-left.result in
    let e = settled-on-note a a.q c.settled-left.ensures c.track_ok.ensures c.calc_on_note.ensures (to_z-of_z c.ranges.def) in
    let f : FitsSigned w32 s.value = search rules in
    elim c.if-is_listed.branch [
      | then-is_listed w ↦
          let l : listed s ≡ true = sym c.is_listed.ensures ∙ w.if-is_listed.true in
          rw (w.track-is, to_z-of_z f) (gate-left a c.args.def s s.value 0 e (rw l) (rw l))
      | else-is_listed w ↦
          let l : listed s ≡ false = sym c.is_listed.ensures ∙ w.if-is_listed.false in
          rw (w.track-is, to_z-of_z f) (gate-left a c.args.def s a.qlen a.step e (rw l) (rw l))
    ]
