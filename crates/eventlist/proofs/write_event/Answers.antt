-- `write_event` meets its contract: as `read_event`, the part that is lent being put back (`write-part`).
use native.Mathlib.Omega.{arith}
use Rattle.eventlist.proofs.EventRows.{room, write-part}
use Rattle.eventlist.proofs.write_event.Goals as goal

pub overflow_mul-at : goal.overflow_mul-at
overflow_mul-at c = omega (arith, room c.args.events.now c.args.i c.requires)

pub overflow_add-at : goal.overflow_add-at
overflow_add-at c = omega (arith, room c.args.events.now c.args.i c.requires)

pub offset_bounds-events-at : goal.offset_bounds-events-at
offset_bounds-events-at c = omega (arith, room c.args.events.now c.args.i c.requires)

pub returns : goal.returns
returns c =
    write-part c.args.events.now c.args.i c.requires c.encode.new.s c.args.e c.encode.ensures

pub slice_bounds-encode-end : goal.slice_bounds-encode-end
slice_bounds-encode-end c = omega (arith, room c.args.events.now c.args.i c.requires)
