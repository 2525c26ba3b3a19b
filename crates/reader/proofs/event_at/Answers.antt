-- `event_at` meets its contract: the gap at the place, and what stands behind it (Places).
use Rattle.std.proofs.Common.{◌+◌, ◌<◌, ap, sym, ◌∙◌, arith, length, drop, length-drop}
use Rattle.std.proofs.Math.Seq.{drop-drop}
use Rattle.quantities.proofs.Groups.{quantity-within}
use Rattle.chunks.specs.Reader.{status_in}
use Rattle.reader.specs.Reading.{kept_in}
use Rattle.reader.proofs.Places.{answered, seen_nothing, seen-no-gap, seen-behind}
use Rattle.reader.proofs.event_at.Goals as goal

pub returns-then-s-from : goal.returns-then-s-from
returns-then-s-from c =
    let a = c.args in
    answered c.faulty.result c.faulty.ensures
    (λ t. seen_nothing kept_in a.running t (drop a.from a.s.now) (omega (arith, length-drop a.from a.s.now, c.if-s-from.true)))

pub returns-in_default : goal.returns-in_default
returns-in_default c =
    let a = c.args in
    let some : 0 < length (drop a.from a.s.now) = omega (arith, length-drop a.from a.s.now, c.if-s-from.false) in
    answered c.faulty-in_default.result c.faulty-in_default.ensures (λ t. seen-no-gap kept_in a.running t (drop a.from a.s.now) some c.in_default.ensures.value)

pub status_at-requires : goal.status_at-requires
status_at-requires c =
    let a = c.args in
    let w = quantity-within _ c.in-Some.n (sym c.in-Some.ensures.value) in
    (omega (arith, w.1, length-drop a.from a.s.now), c.in-Some.ensures.value_lt_quantity_top)

pub returns : goal.returns
returns c =
    let a = c.args in
    let n = c.in-Some.n in
    let some : 0 < length (drop a.from a.s.now) = omega (arith, length-drop a.from a.s.now, c.if-s-from.false) in
    answered c.status_at.result c.status_at.ensures
    (λ t.
    ap (status_in kept_in a.running (t + n.value) n.value n.used) (sym (drop-drop n.used a.from a.s.now))
    ∙ seen-behind kept_in a.running t (drop a.from a.s.now) some n c.in-Some.ensures.value)
