-- `write_cc_on_cycle`: the lent records are loaded for the tests, and then advanced in place (InPlace).
use mathlib.Core.Path.{refl}
use mir.Facts.{to_z-of_z}
use Rattle.lending.proofs.InPlace.{lent-call}
use Rattle.lending.proofs.write_cc_on_cycle.Goals as goal

pub returns : goal.returns
returns c =
    let a = c.args in
    let x = c.load_cycles-loaded in
    let g = c.begin-going in
    let o = c.round_of-round in
    let r = c.advance_records-r in
    lent-call a.track a.cycles.now a.until a.budget.now a.events.now a.count x.result a.cycles.now g.result o.result
    x.ensures refl (rw (to_z-of_z c.ranges.until) at g.ensures) (rw (to_z-of_z c.ranges.until) at o.ensures)
    r.result r.new.cycles r.new.events r.ensures.0 r.ensures.1 r.ensures.2
