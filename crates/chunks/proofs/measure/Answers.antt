-- `measure` meets its contract: while every event is well the pen stands where `weigh` would count (WeighedTo, of Passes); the first that is not
-- leaves the answer to `weigh`.
use Rattle.std.proofs.Common.{◌≡◌, ◌∙◌, sym, arith, true, to_z-of_z}
use lib.Seq.{length-take-le}
use Rattle.eventlist.specs.Rows.{rows_of, events_of}
use Rattle.eventlist.proofs.EventRows.{length-rows_of}
use Rattle.chunks.specs.Steps.{well_after}
use Rattle.chunks.proofs.Leaves.{time-fits}
use Rattle.chunks.proofs.Well.{well-timed}
use Rattle.chunks.proofs.Passes.{next_of, weigh-begun, well-passed, weigh-ended}
use Rattle.chunks.proofs.measure.Goals as goal

pub loop-i-init : goal.loop-i-init
loop-i-init c = weigh-begun c.args.store (events_of c.args.events.now c.args.count)

pub move_on-p-requires : goal.move_on-p-requires
move_on-p-requires c =
    let w = c.loop-i.invariant in
    let timed = to_z-of_z (time-fits c.loop-i.p.time w.timed) in
    let met : well_after c.loop-i.p.time c.read_event-e.result ≡ true = rw timed at (sym c.is_well.ensures ∙ c.if-not-is_well.false) in
    (w.timed, (well-timed c.loop-i.p.time c.read_event-e.result met, omega (arith, w.few, length-rows_of c.args.events.now)))

pub loop-i-preserved : goal.loop-i-preserved
loop-i-preserved c =
    let a = c.args in
    let w = c.loop-i.invariant in
    let timed = to_z-of_z (time-fits c.loop-i.p.time w.timed) in
    let met : well_after c.loop-i.p.time c.read_event-e.result ≡ true = rw timed at (sym c.is_well.ensures ∙ c.if-not-is_well.false) in
    let next = next_of a.count (rows_of a.events.now) c.loop-i.i c.read_event-e.result (omega arith) c.requires c.read_event-e.ensures in
    rw c.move_on-p.ensures (well-passed w next met)

pub overflow_add-result : goal.overflow_add-result
overflow_add-result c =
    omega (arith, c.loop-i.invariant.few, length-rows_of c.args.events.now)

pub returns : goal.returns
returns c =
    weigh-ended c.loop-i.invariant (omega (arith, length-take-le c.args.count (rows_of c.args.events.now) c.requires))
