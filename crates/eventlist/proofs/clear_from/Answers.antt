-- `clear_from` meets its contract: the part that is filled is records of zeros (`zero_rows`), put back where it was lent.
use Rattle.std.proofs.Common.{◌≡◌, ap, ◌∙◌, ◌+◌, ℕ, ◌-◌, ◌*◌, ◌≤◌, max, pos, length, take, replicate, arith}
use lib.ListN.{length-replicate}
use Rattle.std.proofs.Math.Seq.{length-take-le, drop-drop}
use Rattle.eventlist.specs.Rows.{rows_of, record_width}
use Rattle.eventlist.proofs.EventRows.{length-rows_of, put-rows, part-long, zero_rows}
use Rattle.eventlist.proofs.clear_from.Goals as goal

pub overflow_mul-from : goal.overflow_mul-from
overflow_mul-from c = omega (arith, c.requires.0, c.requires.1, length-rows_of c.args.events.now)

pub overflow_mul-to : goal.overflow_mul-to
overflow_mul-to c = omega (arith, c.requires.1, length-rows_of c.args.events.now)

pub offset_bounds-events-from : goal.offset_bounds-events-from
offset_bounds-events-from c = omega (arith, c.requires.0, c.requires.1, length-rows_of c.args.events.now)

pub slice_bounds-fill-end : goal.slice_bounds-fill-end
slice_bounds-fill-end c = omega (arith, c.requires.1, length-rows_of c.args.events.now)

pub returns : goal.returns
returns c =
    let l = c.args.events.now in
    let from = c.args.from in
    let to = c.args.to in
    let n = to - from in
    let s = to * record_width - from * record_width in
    let whole : s ≡ n * record_width = omega arith in
    let inside : from * record_width + n * record_width ≤ length l = omega (arith, c.requires.0, c.requires.1, length-rows_of l) in
    let filled = c.fill.ensures.after (λ y e. e) ∙ ap (λ (k : ℕ). replicate k (pos 0)) (part-long l from n s whole inside) in
    let first : length (take from (rows_of l)) ≡ from = length-take-le from (rows_of l) (omega (arith, c.requires.0, c.requires.1)) in
    let most : max to from ≡ to = omega (arith, c.requires.0) in
    let on : from + n ≡ to = omega (arith, c.requires.0) in
    put-rows l from n s whole inside c.fill.new.self (rw filled (length-replicate (n * record_width) (pos 0)))
    ∙ rw (filled, zero_rows n, first, most, drop-drop, on)
