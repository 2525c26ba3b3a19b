use Rattle.reel.specs.declared.marks.Mark.TheVariants.{Track, Budget, Time, Freqs, Curve, Cycle, Turn, Cut}
use Rattle.carrying.proofs.Carrying.{by-mark}
use mathlib.Core.Path.{refl}
use Rattle.carrying.specs.Carry.{carried_as}
use Rattle.carrying.proofs.carry_out.Goals as goal

pub returns-in-Track : goal.returns-in-Track
unfolding carried_as
returns-in-Track c =
    let a = c.args in
    by-mark a.state a.r a.events.now Track c.in-Track.is c.make_track.ensures refl

pub returns-in-Budget : goal.returns-in-Budget
unfolding carried_as
returns-in-Budget c =
    let a = c.args in
    by-mark a.state a.r a.events.now Budget c.in-Budget.is c.make_budget.ensures refl

pub returns-in-Time : goal.returns-in-Time
unfolding carried_as
returns-in-Time c =
    let a = c.args in
    by-mark a.state a.r a.events.now Time c.in-Time.is c.move_to.ensures refl

pub returns-in-Freqs : goal.returns-in-Freqs
unfolding carried_as
returns-in-Freqs c =
    let a = c.args in
    by-mark a.state a.r a.events.now Freqs c.in-Freqs.is c.set_freqs.ensures refl

pub returns-in-Curve : goal.returns-in-Curve
unfolding carried_as
returns-in-Curve c =
    let a = c.args in
    let e = c.draw.ensures in
    by-mark a.state a.r a.events.now Curve c.in-Curve.is e.0 e.1

pub returns-in-Cycle : goal.returns-in-Cycle
unfolding carried_as
returns-in-Cycle c =
    let a = c.args in
    by-mark a.state a.r a.events.now Cycle c.in-Cycle.is c.set_cycle.ensures refl

pub returns-in-Turn : goal.returns-in-Turn
unfolding carried_as
returns-in-Turn c =
    let a = c.args in
    let e = c.turn.ensures in
    by-mark a.state a.r a.events.now Turn c.in-Turn.is e.0 e.1

pub returns-in-Cut : goal.returns-in-Cut
unfolding carried_as
returns-in-Cut c =
    let a = c.args in
    let e = c.cut.ensures in
    by-mark a.state a.r a.events.now Cut c.in-Cut.is e.0 e.1
