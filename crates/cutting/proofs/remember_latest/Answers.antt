-- `remember_latest` meets its contract: what it has after i events is what counts last among them, sorted, and one more takes
-- it further (`stood-more`, `holds-latest`).
use mathlib.Core.Path.{◌≡◌, ap, ap₂, ◌∙◌}
use native.Mathlib.Omega.{arith}
use lib.ListN.{get_or, take}
use Rattle.laws.proofs.Every.{all-below}
use Rattle.events.specs.Events.{zero_event}
use Rattle.eventlist.specs.Rows.{rows_of}
use Rattle.sorting.specs.Stable.{stable_sort}
use Rattle.sorting.specs.Sorting.{earlier}
use Rattle.cutting.specs.Cuts.{unset}
use Rattle.cutting.specs.Passes.{sound}
use Rattle.cutting.specs.ByTime.{stood, last_in, earliest}
use Rattle.cutting.proofs.ByTime.{stood-more, standing-last}
use Rattle.cutting.proofs.Stored.{sound-number}
use Rattle.cutting.proofs.Values.{holds-latest}
use Rattle.cutting.proofs.remember_latest.Goals as goal

pub note_latest-requires : goal.note_latest-requires
note_latest-requires c =
    let rows = rows_of c.args.events.now in
    rw c.read_event-e.ensures
    (sound-number (get_or rows c.loop-i.i zero_event) (all-below sound rows c.args.count c.loop-i.i zero_event c.requires.1.0 (omega arith) c.requires.0))

pub loop-i-preserved : goal.loop-i-preserved
loop-i-preserved c =
    let rows = rows_of c.args.events.now in
    let well = all-below sound rows c.args.count c.loop-i.i zero_event c.requires.1.0 (omega arith) c.requires.0 in
    let latest = holds-latest c.args.c.at rows c.loop-i.i (omega arith) c.loop-i.times well c.loop-i.invariant.1.1 in (
      c.stand-s.ensures
          ∙ ap₂ (stood c.args.c.at) c.loop-i.invariant.0 c.read_event-e.ensures
          ∙ stood-more rows c.loop-i.i (omega arith) c.args.c.at,
      (
        rw (c.note_latest.ensures.0, c.read_event-e.ensures) (latest (λ x. x.v2) unset c.loop-i.values c.loop-i.invariant.1.0),
        rw (c.note_latest.ensures.1, c.read_event-e.ensures) (latest (λ x. x.time) earliest c.loop-i.times c.loop-i.invariant.1.1),
      ),
    )

pub returns : goal.returns
returns c =
    let t = c.args in
    let all : c.loop-i.i ≡ t.count = omega arith in
    let inv = rw all at c.loop-i.invariant in
    (c.last_of.ensures ∙ ap last_in inv.0 ∙ standing-last t.c.at (stable_sort earlier (take t.count (rows_of t.events.now))), inv.1.0)
