-- `write_cc_on_note` puts back what the call by value answers.
use mathlib.Core.Path.{ap}
use mir.Facts.{to_z-of_z}
use Rattle.noting.specs.declared.Noted.{Noted}
use Rattle.loans.specs.Lent.{note_told}
use Rattle.loans.proofs.write_cc_on_note.Goals as goal

pub returns : goal.returns
returns c =
    let e = rw (to_z-of_z c.ranges.start) at c.write_cc_on_note-o.ensures in
    record {
      answer = ap note_told e.0;
      spent = ap (λ (o : Noted). o.budget) e.0;
      left = e.1;
    }
