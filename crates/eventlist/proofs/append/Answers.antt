-- `append` meets its contract: a record written after the first `count` is one more put first (`put-more`).
use mathlib.Core.Path.{refl, ◌∙◌}
use native.Mathlib.Omega.{arith}
use Rattle.laws.proofs.Compact.{put-more}
use Rattle.events.specs.Events.{zero_event}
use Rattle.eventlist.specs.Rows.{rows_of}
use Rattle.eventlist.proofs.EventRows.{room}
use Rattle.eventlist.proofs.append.Goals as goal

pub overflow_add-result : goal.overflow_add-result
overflow_add-result c = omega (arith, room c.args.events.now c.args.count c.requires)

pub returns : goal.returns
returns c =
    (refl, c.write_event.ensures ∙ put-more zero_event c.args.e c.args.count (rows_of c.args.events.now) c.requires)
