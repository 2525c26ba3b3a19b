-- `move_down` meets its contract: the numbers of a stretch written over others are its records (`rows_paste`).
use Rattle.std.proofs.Common.{◌≡◌, refl, ap, ◌∙◌, ◌+◌, ◌-◌, ◌*◌, drop, arith}
use Rattle.std.proofs.Math.Seq.{paste}
use Rattle.eventlist.specs.Rows.{rows_of, record_width}
use Rattle.eventlist.proofs.EventRows.{length-rows_of, rows_paste}
use Rattle.eventlist.proofs.move_down.Goals as goal

pub overflow_mul-from : goal.overflow_mul-from
overflow_mul-from c = omega (arith, c.requires.1, length-rows_of c.args.events.now)

pub overflow_add-from : goal.overflow_add-from
overflow_add-from c = omega (arith, c.requires.1, length-rows_of c.args.events.now)

pub overflow_mul-from-2 : goal.overflow_mul-from-2
overflow_mul-from-2 c = omega (arith, c.requires.1, length-rows_of c.args.events.now)

pub overflow_mul-to : goal.overflow_mul-to
overflow_mul-to c = omega (arith, c.requires.0, c.requires.1, length-rows_of c.args.events.now)

pub copy_within-requires-clause-in_bounds : goal.copy_within-requires-clause-in_bounds
copy_within-requires-clause-in_bounds c = omega (arith, c.requires.1, length-rows_of c.args.events.now)

pub copy_within-requires-clause-dest_in_bounds : goal.copy_within-requires-clause-dest_in_bounds
copy_within-requires-clause-dest_in_bounds c = omega (arith, c.requires.0, c.requires.1, length-rows_of c.args.events.now)

pub returns : goal.returns
returns c =
    let l = c.args.events.now in
    let from = c.args.from in
    let n = c.args.n in
    let m = (from + n) * record_width - from * record_width in
    let moved : c.copy_within.new.self ≡ paste l (c.args.to * record_width) (drop (from * record_width) l) m = c.copy_within.ensures.after in
    (refl, ap rows_of moved ∙ rows_paste l from c.args.to n m (omega arith) (omega (arith, c.requires.0)) c.requires.1)
