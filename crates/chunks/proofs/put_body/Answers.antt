-- `put_body` meets its contract: what is left of the events, put where the pen stands, makes the output that is promised (PutTo, of Passes).
use Rattle.std.proofs.Common.{arith}
use lib.Seq.{length-take-le}
use Rattle.eventlist.specs.Rows.{rows_of, events_of}
use Rattle.chunks.proofs.Passes.{next_of, put-begun, put-writable, put-room, put-passed, put-tail, put_ended}
use Rattle.chunks.proofs.put_body.Goals as goal

pub loop-i-init : goal.loop-i-init
loop-i-init c =
    let a = c.args in
    put-begun (events_of a.events.now a.count) a.at a.out.now c.requires.1.0

pub put_event-p-requires : goal.put_event-p-requires
put_event-p-requires c =
    let a = c.args in
    let v = c.loop-i.invariant in
    let room = c.requires.1.1 in
    let next = next_of a.count (rows_of a.events.now) c.loop-i.i c.read_event.result (omega arith) c.requires.0 c.read_event.ensures in
    (put-writable v room next, put-room v room next)

pub loop-i-preserved : goal.loop-i-preserved
loop-i-preserved c =
    let a = c.args in
    let next = next_of a.count (rows_of a.events.now) c.loop-i.i c.read_event.result (omega arith) c.requires.0 c.read_event.ensures in
    rw (c.put_event-p.ensures.0, c.put_event-p.ensures.1) (put-passed c.loop-i.invariant c.requires.1.1 next)

pub put-requires : goal.put-requires
put-requires c = put-tail c.loop-i.invariant c.requires.1.1 (omega (arith, length-take-le c.args.count (rows_of c.args.events.now) c.requires.0))

pub returns : goal.returns
returns c =
    put_ended c.loop-i.invariant c.requires.1.1 (omega (arith, length-take-le c.args.count (rows_of c.args.events.now) c.requires.0)) c.put.ensures.0 c.put.ensures.1
