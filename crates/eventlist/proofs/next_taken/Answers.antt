-- `next_taken` meets its contract: none of the events passed is taken, and those that stand before the next one are counted (Leading).
use mathlib.Core.Bool.{Bool, true, false, not}
use mathlib.Core.List.{List}
use mathlib.Core.Path.{◌≡◌, refl, sym, ap, ◌∙◌}
use Prim.Native.Nat.{◌<◌}
use native.Mathlib.Omega.{arith}
use lib.ListN.{length, get_or}
use lib.Seq.{length-take-le, get_or-take}
use Rattle.laws.proofs.Leading.{one_more, no_more, at-end}
use Rattle.events.specs.declared.Event.{Event}
use Rattle.events.specs.Events.{zero_event}
use Rattle.eventlist.specs.Rows.{rows_of, events_of}
use Rattle.eventlist.specs.Windows.{taken_by_any}
use Rattle.eventlist.proofs.next_taken.Goals as goal

-- what the test of event j says of it
module _ (c : goal.Then-takes) where
  abbrev out : Event → Bool
  out = taken_by_any c.args.windows.now

  abbrev es : List Event
  es = events_of c.args.events.now c.args.count

  at : c.loop-j.j < length es
  at = let n = length-take-le c.args.count (rows_of c.args.events.now) c.requires.1 in let i = c.loop-j-test.true in omega arith

  told : (t : Bool) → c.takes.result ≡ t → not (out (get_or es c.loop-j.j zero_event)) ≡ not t
  told t e =
      ap not
      (ap out (get_or-take c.args.count (rows_of c.args.events.now) c.loop-j.j zero_event c.loop-j-test.true ∙ sym c.read_event.ensures)
      ∙ sym c.takes.ensures
      ∙ e)

-- what the test of event j says of it
module _ (c : goal.Else-takes) where
  abbrev out-at-2 : Event → Bool
  out-at-2 = taken_by_any c.args.windows.now

  abbrev es-at-2 : List Event
  es-at-2 = events_of c.args.events.now c.args.count

  at-at-2 : c.loop-j.j < length es-at-2
  at-at-2 = let n = length-take-le c.args.count (rows_of c.args.events.now) c.requires.1 in let i = c.loop-j-test.true in omega arith

  told-at-2 : (t : Bool) → c.takes.result ≡ t → not (out-at-2 (get_or es-at-2 c.loop-j.j zero_event)) ≡ not t
  told-at-2 t e =
      ap not
      (ap out-at-2 (get_or-take c.args.count (rows_of c.args.events.now) c.loop-j.j zero_event c.loop-j-test.true ∙ sym c.read_event.ensures)
      ∙ sym c.takes.ensures
      ∙ e)

pub loop-j-init : goal.loop-j-init
loop-j-init c = refl

pub read_event-requires : goal.read_event-requires
read_event-requires c = omega (arith, c.requires.1)

pub takes-requires : goal.takes-requires
takes-requires c = c.requires.2

pub returns-then-takes : goal.returns-then-takes
returns-then-takes c =
    let z = no_more (λ e. not (out c e)) zero_event (es c) c.loop-j.j (at c) (told c true c.if-takes.true) in
    let v = c.loop-j.invariant in
    omega arith

pub loop-j-preserved : goal.loop-j-preserved
loop-j-preserved c =
    let z = one_more (λ e. not (out-at-2 c e)) zero_event (es-at-2 c) c.loop-j.j (at-at-2 c) (told-at-2 c false c.if-takes.false) in
    let v = c.loop-j.invariant in
    omega arith

pub returns : goal.returns
returns c =
    let n = length-take-le c.args.count (rows_of c.args.events.now) c.requires.1 in
    let z = at-end (λ e. not (taken_by_any c.args.windows.now e)) zero_event (events_of c.args.events.now c.args.count) c.loop-j.j (omega arith) in
    let v = c.loop-j.invariant in
    omega arith
