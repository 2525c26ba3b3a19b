-- `curve_at` walks the triples from the front (the law Curves).
use Rattle.std.proofs.Common.{rules, arith, ◌≡◌, length, Some, ap, sym, ◌∙◌}
use mir.Syntax.{w32}
use mir.Val.{SFits}
use mir.Facts.{to_z-of_z}
use Rattle.numbers.specs.Limits.{list_limit}
use Rattle.counted.specs.Numbers.{shown}
use Rattle.counted.specs.Curves.{triples}
use Rattle.counted.proofs.Counted.{curve-triples}
use Rattle.reserved.proofs.Curves.{over, here}
use Rattle.reserved.proofs.curve_at.Goals as goal

pub returns-then-left-len : goal.returns-then-left-len
returns-then-left-len c =
    let a = c.args.list in
    let m : length a.items ≡ list_limit = search rules in
    let h = curve-triples a m c.requires in
    let f : SFits w32 c.value_at.result = search rules in
    rw (to_z-of_z f)
    (ap Some c.value_at.ensures
    ∙ sym (c.loop-i.invariant ∙ here (triples (shown a)) c.loop-i.i c.loop-i.left (omega arith) c.length_at-len.result c.length_at-len.ensures c.if-left-len.true))

pub returns : goal.returns
returns c =
    let a = c.args.list in
    let m : length a.items ≡ list_limit = search rules in
    let h = curve-triples a m c.requires in
    sym (c.loop-i.invariant ∙ over (triples (shown a)) c.loop-i.i c.loop-i.left (omega arith))
