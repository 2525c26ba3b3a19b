-- `put` meets its contract: one event is a store, and none changes nothing (Kept).
use mathlib.Core.Path.{◌≡◌, sym, ap, ◌∙◌}
use mathlib.Core.Bool.{Bool, cond}
use mathlib.Core.List.{List}
use Prim.Native.Nat.{◌<◌}
use native.Mathlib.Omega.{arith}
use lib.ListN.{length}
use Rattle.text.specs.Laying.{laid}
use Rattle.text.proofs.Laying.{laid-byte, laid_none}
use Rattle.events.specs.declared.Event.{Event}
use Rattle.eventlist.specs.Rows.{rows_of}
use Rattle.reader.specs.Steps.{tells}
use Rattle.reader.proofs.Kept.{found-one, found_none}
use Rattle.reader.proofs.put.Goals as goal

module _ (c : goal.After-event_of) where
  many : length (tells c.args.time c.args.f).kept ≡ 1
  many = c.requires.0 ∙ ap (λ (b : Bool). cond b 1 0) c.if-kept.true

  room : c.args.i < length (rows_of c.args.events.now)
  room = omega (arith, many, c.requires.1.1)

module _ (c : goal.After-events-1) where
  many-at-2 : length (tells c.args.time c.args.f).kept ≡ 1
  many-at-2 = c.requires.0 ∙ ap (λ (b : Bool). cond b 1 0) c.if-kept.true

  room-at-2 : c.args.i < length (rows_of c.args.events.now)
  room-at-2 = omega (arith, many-at-2, c.requires.1.1)

pub write_event-requires : goal.write_event-requires
write_event-requires c = room c

pub returns-then-kept : goal.returns-then-kept
returns-then-kept c =
    let a = c.args in
    let one = found-one a.time a.f a.kept c.requires.0 c.event_of.result c.if-kept.true c.event_of.ensures in
    c.write_event.ensures ∙ laid-byte a.i c.event_of.result (rows_of a.events.now) (room-at-2 c) ∙ ap (λ (es : List Event). laid a.i es (rows_of a.events.now)) (sym one)

pub returns-else-kept : goal.returns-else-kept
returns-else-kept c =
    let a = c.args in
    laid_none a.i (rows_of a.events.now)
    ∙ ap (λ (es : List Event). laid a.i es (rows_of a.events.now)) (sym (found_none a.time a.f a.kept c.requires.0 c.if-kept.false))
