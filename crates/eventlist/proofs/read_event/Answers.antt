-- `read_event` meets its contract: record i lies within the slice (`room`), and the part that is lent says it (`read-part`).
use mathlib.Core.Path.{◌∙◌}
use native.Mathlib.Omega.{arith}
use Rattle.eventlist.proofs.EventRows.{room, read-part}
use Rattle.eventlist.proofs.read_event.Goals as goal

pub overflow_mul-at : goal.overflow_mul-at
overflow_mul-at c = omega (arith, room c.args.events.now c.args.i c.requires)

pub overflow_add-at : goal.overflow_add-at
overflow_add-at c = omega (arith, room c.args.events.now c.args.i c.requires)

pub offset_bounds-events-at : goal.offset_bounds-events-at
offset_bounds-events-at c = omega (arith, room c.args.events.now c.args.i c.requires)

pub returns : goal.returns
returns c = c.decode.ensures ∙ read-part c.args.events.now c.args.i c.requires

pub slice_bounds-decode-end : goal.slice_bounds-decode-end
slice_bounds-decode-end c = omega (arith, room c.args.events.now c.args.i c.requires)
