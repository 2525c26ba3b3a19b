use mir.Facts.{to_z-of_z}
use Rattle.carrying.proofs.Carrying.{first-refused, second-refused, both-set}
use Rattle.carrying.proofs.both_freqs.Goals as goal

pub returns-then-first-ne0 : goal.returns-then-first-ne0
returns-then-first-ne0 c =
    let x = to_z-of_z c.ranges.controllers in
    first-refused c.args.track c.args.controllers c.args.bends c.set_cc_on_time_freq-first.result (rw x at c.set_cc_on_time_freq-first.ensures) c.if-first-ne0.true

pub returns-then-second-ne0 : goal.returns-then-second-ne0
returns-then-second-ne0 c =
    let x = to_z-of_z c.ranges.controllers in
    let y = to_z-of_z c.ranges.bends in
    second-refused c.args.track c.args.controllers c.args.bends c.set_cc_on_time_freq-first.result (rw x at c.set_cc_on_time_freq-first.ensures) c.if-first-ne0.false
    c.set_pb_on_time_freq-second.result (rw y at c.set_pb_on_time_freq-second.ensures) c.if-second-ne0.true

pub returns-else-second-ne0 : goal.returns-else-second-ne0
returns-else-second-ne0 c =
    let x = to_z-of_z c.ranges.controllers in
    let y = to_z-of_z c.ranges.bends in
    both-set c.args.track c.args.controllers c.args.bends c.set_cc_on_time_freq-first.result (rw x at c.set_cc_on_time_freq-first.ensures) c.if-first-ne0.false
    c.set_pb_on_time_freq-second.result (rw y at c.set_pb_on_time_freq-second.ensures) c.if-second-ne0.false
