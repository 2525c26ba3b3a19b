-- `look_over` meets its contract: what is counted and what is left make what is answered (Passes).
use mathlib.Core.Path.{ap, ◌∙◌}
use Prim.Native.Nat.{ℕ}
use Rattle.reader.specs.Steps.{tells}
use Rattle.reader.proofs.Passes.{counts-as, place-begun, place-on, shorter, room-on, outline-begun, outline-on, outline-ends}
use Rattle.reader.proofs.look_over.Goals as goal

pub loop-q-init : goal.loop-q-init
loop-q-init c = let l = c.args.s.now in rw c.start-c.ensures (place-begun l, outline-begun l)

pub quick_at-requires : goal.quick_at-requires
quick_at-requires c = c.loop-q.invariant.0.within

pub behind-c-requires : goal.behind-c-requires
behind-c-requires c =
    let p = c.loop-q.c in
    let f = c.in-Some.q in
    let e = c.in-Some.ensures in (
      counts-as p.time f c.is_told.ensures (e.2 p.time),
      room-on c.args.s.now p f c.loop-q.invariant.0 (e.3 p.time) e.0 c.requires e.1,
    )

pub loop-q-smaller-in-Some : goal.loop-q-smaller-in-Some
unfolding tells
loop-q-smaller-in-Some c =
    let p = c.loop-q.c in
    let e = c.in-Some.ensures in
    rw c.behind-c.ensures (shorter c.args.s.now p c.in-Some.q c.loop-q.invariant.0 (e.3 p.time) e.0)

pub loop-q-preserved-in-Some : goal.loop-q-preserved-in-Some
loop-q-preserved-in-Some c =
    let b = c.args.s.now in
    let p = c.loop-q.c in
    let f = c.in-Some.q in
    let e = c.in-Some.ensures in
    let v = c.loop-q.invariant in
    rw c.behind-c.ensures (
      place-on b p f v.0 (e.3 p.time) e.0 e.1,
      outline-on b p f v.0 (e.3 p.time) e.0 ∙ v.1,
    )

pub event_at-f-requires : goal.event_at-f-requires
event_at-f-requires c = c.loop-q.invariant.0.within

pub returns-then-f-ne0 : goal.returns-then-f-ne0
returns-then-f-ne0 c =
    let p = c.loop-q.c in
    let v = c.loop-q.invariant in
    ap (λ (n : ℕ). record { code = n; kept = p.kept; late = p.late }) c.number_of.ensures
    ∙ outline-ends c.args.s.now p c.event_at-f.result v.0 (c.event_at-f.ensures.at_each_time p.time) c.if-f-ne0.true
    ∙ v.1

pub behind-c-requires-in-loop-q : goal.behind-c-requires-in-loop-q
behind-c-requires-in-loop-q c =
    let p = c.loop-q.c in
    let e = c.event_at-f.ensures in
    (c.is_kept.ensures p.time, room-on c.args.s.now p c.event_at-f.result c.loop-q.invariant.0 (e.at_each_time p.time) c.if-f-ne0.false c.requires e.gap_lt_quantity_top)

pub loop-q-smaller : goal.loop-q-smaller
unfolding tells
loop-q-smaller c =
    let p = c.loop-q.c in
    rw c.behind-c-in-loop-q.ensures (shorter c.args.s.now p c.event_at-f.result c.loop-q.invariant.0 (c.event_at-f.ensures.at_each_time p.time) c.if-f-ne0.false)

pub loop-q-preserved : goal.loop-q-preserved
loop-q-preserved c =
    let b = c.args.s.now in
    let p = c.loop-q.c in
    let f = c.event_at-f.result in
    let e = c.event_at-f.ensures in
    let v = c.loop-q.invariant in
    rw c.behind-c-in-loop-q.ensures (
      place-on b p f v.0 (e.at_each_time p.time) c.if-f-ne0.false e.gap_lt_quantity_top,
      outline-on b p f v.0 (e.at_each_time p.time) c.if-f-ne0.false ∙ v.1,
    )
