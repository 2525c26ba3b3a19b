-- `remember` meets its contract: what is remembered is what stands in the first i events, and one more takes it further
-- (`lasts-more`, `holds_more`).
use mathlib.Core.Path.{ap₂, ◌∙◌}
use native.Mathlib.Omega.{arith}
use lib.ListN.{get_or}
use Rattle.laws.proofs.Every.{all-below}
use Rattle.events.specs.Events.{zero_event}
use Rattle.eventlist.specs.Rows.{rows_of}
use Rattle.cutting.specs.Passes.{noted, sound}
use Rattle.cutting.proofs.Lasts.{lasts-more}
use Rattle.cutting.proofs.Stored.{sound-number}
use Rattle.cutting.proofs.Values.{holds_more}
use Rattle.cutting.proofs.remember.Goals as goal

pub note_value-requires : goal.note_value-requires
note_value-requires c =
    let rows = rows_of c.args.events.now in
    rw c.read_event-e.ensures
    (sound-number (get_or rows c.loop-i.i zero_event) (all-below sound rows c.args.count c.loop-i.i zero_event c.requires.1.0 (omega arith) c.requires.0))

pub loop-i-preserved : goal.loop-i-preserved
loop-i-preserved c =
    let rows = rows_of c.args.events.now in
    let number = sound-number (get_or rows c.loop-i.i zero_event) (all-below sound rows c.args.count c.loop-i.i zero_event c.requires.1.0 (omega arith) c.requires.0) in (
      c.note-last.ensures
          ∙ ap₂ (noted c.args.c.at) c.loop-i.invariant.0 c.read_event-e.ensures
          ∙ lasts-more c.args.c.at rows c.loop-i.i (omega arith),
      rw (c.note_value.ensures, c.read_event-e.ensures)
          (holds_more c.args.c.at rows c.loop-i.i (omega arith) c.loop-i.values c.loop-i.invariant.1 number),
    )
