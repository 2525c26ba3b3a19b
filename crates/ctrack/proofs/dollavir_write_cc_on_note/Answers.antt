-- `dollavir_write_cc_on_note` is `noting::write_cc_on_note`: what it answers and leaves is what that says.
use Rattle.noting.specs.declared.Noted.{Noted}
use mathlib.Core.Path.{ap}
use mir.Facts.{to_z-of_z}
use Rattle.ctrack.proofs.dollavir_write_cc_on_note.Goals as goal

pub returns : goal.returns
returns c =
    let e = rw (to_z-of_z c.ranges.start) at c.write_cc_on_note-r.ensures in
    record {
      code = ap (λ (a : Noted). a.code) e.0;
      count = ap (λ (a : Noted). a.count) e.0;
      budget = ap (λ (a : Noted). a.budget) e.0;
      track = ap (λ (a : Noted). a.track) e.0;
      events = e.1;
    }
