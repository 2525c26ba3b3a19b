-- `one_more` meets its contract: each field of the tally is asked of the event behind the last.
use mathlib.Core.Path.{ap, ◌∙◌}
use lib.IntN.{pos}
use mir.Facts.{to_z-of_z}
use Rattle.laws.specs.Integers.{inside}
use Rattle.chunks.specs.Writing.{longest_gap}
use Rattle.chunks.proofs.Leaves.{time-fits, gap-fits, gap_back}
use Rattle.chunks.proofs.one_more.Goals as goal

pub overflow_sub-gap : goal.overflow_sub-gap
overflow_sub-gap c = gap-fits c.args.e.time c.args.t.last c.requires.1.0 c.requires.0

pub returns : goal.returns
returns c =
    let e = c.args.e in
    let t = c.args.t in
    let g = gap_back e.time t.last c.requires.1.0 c.requires.0 in
    rw (
      to_z-of_z (time-fits e.time c.requires.1.0),
      c.within.ensures ∙ ap (inside (pos 0) (pos longest_gap)) g,
      c.event_fits.ensures,
      c.event_size-size.ensures.value,
      to_z-of_z (time-fits t.last c.requires.0),
    )
