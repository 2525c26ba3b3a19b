-- `fill` meets its contract: what is left, laid behind what was put, makes the list that is promised (Passes).
use borrow.Author.Rules.{rules}
use mathlib.Core.Path.{◌≡◌, refl}
use mathlib.Core.List.{List}
use Prim.Native.Nat.{ℕ, ◌+◌, ◌≤◌, ◌<◌}
use lib.ListN.{length, drop}
use Rattle.events.specs.declared.Event.{Event}
use Rattle.eventlist.specs.Rows.{rows_of}
use Rattle.quantities.specs.Quantities.{quantity_top}
use Rattle.chunks.specs.Chunks.{length_top}
use Rattle.chunks.specs.Reader.{seen_in}
use Rattle.reader.specs.declared.Cursor.{Cursor}
use Rattle.reader.specs.declared.Found.{Found}
use Rattle.reader.specs.Reading.{kept_in}
use Rattle.reader.specs.Steps.{tells}
use Rattle.reader.proofs.Passes.{counts-as, shorter, room-on, Fills, fills-begun, fills-room, fills-on, fills-ends}
use Rattle.reader.proofs.fill.Goals as goal

-- room for what was found where the pass stands, and no number overflows
fits : (b : List ℕ) (l : List Event) (p : Cursor) (now : List Event) → Fills b l p now → length b < length_top
    → (f : Found) → tells p.time f ≡ seen_in kept_in p.status p.time (drop p.at b) → f.code ≡ 0 → f.gap < quantity_top
    → (p.time + f.gap < 9223372036854775808) × (p.kept + length (tells p.time f).kept ≤ length now)
fits b l p now v h f e z g = ((room-on b p f v.place e z h g).1.0, fills-room b l p now v f e z)

pub loop-q-init : goal.loop-q-init
loop-q-init c = (refl, rw c.start-c.ensures (fills-begun c.args.s.now (rows_of c.args.events.now) c.requires.1))

pub quick_at-requires : goal.quick_at-requires
quick_at-requires c = c.loop-q.invariant.1.place.within

pub put-requires : goal.put-requires
put-requires c =
    let p = c.loop-q.c in
    let f = c.in-Some.q in
    let e = c.in-Some.ensures in
    let v = c.loop-q.invariant.1 in (
      counts-as p.time f c.is_told-told.ensures (e.2 p.time),
      fits c.args.s.now (rows_of c.args.events.now) p (rows_of c.loop-q.events) v c.requires.0 f (e.3 p.time) e.0 e.1,
    )

pub behind-c-requires : goal.behind-c-requires
behind-c-requires c =
    let p = c.loop-q.c in
    let f = c.in-Some.q in
    let e = c.in-Some.ensures in
    let v = c.loop-q.invariant.1 in (
      counts-as p.time f c.is_told-told.ensures (e.2 p.time),
      room-on c.args.s.now p f v.place (e.3 p.time) e.0 c.requires.0 e.1,
    )

pub loop-q-smaller-in-Some : goal.loop-q-smaller-in-Some
unfolding tells
loop-q-smaller-in-Some c =
    let p = c.loop-q.c in
    let e = c.in-Some.ensures in
    rw c.behind-c.ensures (shorter c.args.s.now p c.in-Some.q c.loop-q.invariant.1.place (e.3 p.time) e.0)

pub loop-q-preserved-in-Some : goal.loop-q-preserved-in-Some
loop-q-preserved-in-Some c =
    let p = c.loop-q.c in
    let f = c.in-Some.q in
    let e = c.in-Some.ensures in
    let v = c.loop-q.invariant.1 in (
      search rules,
      rw c.behind-c.ensures
          (fills-on c.args.s.now (rows_of c.args.events.now) p (rows_of c.loop-q.events) v f (e.3 p.time) e.0 _ e.1 c.put.ensures),
    )

pub event_at-f-requires : goal.event_at-f-requires
event_at-f-requires c = c.loop-q.invariant.1.place.within

pub returns-then-f-ne0 : goal.returns-then-f-ne0
returns-then-f-ne0 c =
    let p = c.loop-q.c in
    fills-ends c.args.s.now (rows_of c.args.events.now) p (rows_of c.loop-q.events) c.loop-q.invariant.1 c.event_at-f.result (c.event_at-f.ensures.at_each_time p.time) c.if-f-ne0.true

pub put-requires-in-loop-q : goal.put-requires-in-loop-q
put-requires-in-loop-q c =
    let p = c.loop-q.c in
    let e = c.event_at-f.ensures in
    let v = c.loop-q.invariant.1 in (
      c.is_kept.ensures p.time,
      fits c.args.s.now (rows_of c.args.events.now) p (rows_of c.loop-q.events) v c.requires.0 c.event_at-f.result (e.at_each_time p.time) c.if-f-ne0.false e.gap_lt_quantity_top,
    )

pub behind-c-requires-in-loop-q : goal.behind-c-requires-in-loop-q
behind-c-requires-in-loop-q c =
    let p = c.loop-q.c in
    let e = c.event_at-f.ensures in (
      c.is_kept-in-loop-q.ensures p.time,
      room-on c.args.s.now p c.event_at-f.result c.loop-q.invariant.1.place (e.at_each_time p.time) c.if-f-ne0.false c.requires.0 e.gap_lt_quantity_top,
    )

pub loop-q-smaller : goal.loop-q-smaller
unfolding tells
loop-q-smaller c =
    let p = c.loop-q.c in
    rw c.behind-c-in-loop-q.ensures (shorter c.args.s.now p c.event_at-f.result c.loop-q.invariant.1.place (c.event_at-f.ensures.at_each_time p.time) c.if-f-ne0.false)

pub loop-q-preserved : goal.loop-q-preserved
loop-q-preserved c =
    let p = c.loop-q.c in
    let e = c.event_at-f.ensures in
    let v = c.loop-q.invariant.1 in (
      search rules,
      rw c.behind-c-in-loop-q.ensures
          (fills-on c.args.s.now (rows_of c.args.events.now) p (rows_of c.loop-q.events) v c.event_at-f.result (e.at_each_time p.time) c.if-f-ne0.false _ e.gap_lt_quantity_top c.put-in-loop-q.ensures),
    )
