-- `survey` meets its contract: each turn passes one event more (laws of Surveying).
use mathlib.Core.Bool.{Bool, not, ◌&&◌}
use mathlib.Core.Path.{refl, sym, ◌∙◌}
use Prim.Native.Nat.{◌≤◌}
use native.Mathlib.Omega.{arith}
use lib.Dec.{eqb}
use Rattle.events.specs.declared.Event.{Event}
use Rattle.eventlist.specs.Rows.{rows_of}
use Rattle.eventlist.specs.Sound.{ok_events}
use Rattle.eventlist.specs.Windows.{taken_by_any}
use Rattle.eventlist.proofs.Surveying.{at_most_one, begun, first-le, refused, further-on, unstored, ended}
use Rattle.eventlist.proofs.survey.Goals as goal

module _ (c : goal.In-loop-i) where
  within : c.loop-i.i ≤ c.args.count
  within = c.loop-i.invariant.within

module _ (c : goal.Then-not-event_ok) where
  abbrev out-at-2 : Event → Bool
  out-at-2 = taken_by_any c.args.windows.now

module _ (c : goal.After-from-taken) where
  within-at-3 : c.loop-i.i ≤ c.args.count
  within-at-3 = c.loop-i.invariant.within

module _ (c : goal.After-from-first) where
  abbrev out-at-4 : Event → Bool
  out-at-4 = taken_by_any c.args.windows.now

  first-at-at-4 : c.loop-i.first ≤ c.loop-i.i
  first-at-at-4 = first-le c.args.store out-at-4 (rows_of c.args.events.now) c.args.count c.requires c.loop-i.first c.loop-i.taken c.loop-i.i c.loop-i.invariant

pub loop-i-init : goal.loop-i-init
loop-i-init c = begun c.args.store (taken_by_any c.args.windows.now) (rows_of c.args.events.now) c.args.count c.requires

pub read_event-e-requires : goal.read_event-e-requires
read_event-e-requires c = omega (arith, within c, c.requires)

pub returns-then-not-event_ok : goal.returns-then-not-event_ok
unfolding ok_events
returns-then-not-event_ok c =
    unstored c.args.store c.args.windows.now c.args.events.now c.args.count c.requires
    (refused c.args.store (out-at-2 c) (rows_of c.args.events.now) c.args.count c.requires c.loop-i.first c.loop-i.taken c.loop-i.i c.loop-i.invariant (omega arith)
    c.read_event-e.result c.read_event-e.ensures (sym c.event_ok.ensures ∙ c.if-not-event_ok.true))

pub takes-hit-requires : goal.takes-hit-requires
takes-hit-requires c = c.span_of-span.ensures

pub overflow_add-taken : goal.overflow_add-taken
overflow_add-taken c =
    let n = c.loop-i.invariant.counted in
    omega (arith, within-at-3 c, at_most_one c.takes-hit.result c.from-taken.ensures)

pub overflow_add-first : goal.overflow_add-first
overflow_add-first c =
    omega (arith, first-at-at-4 c, at_most_one (eqb c.loop-i.first c.loop-i.i && not c.takes-hit.result) c.from-first.ensures)

pub loop-i-preserved : goal.loop-i-preserved
loop-i-preserved c =
    rw (c.from-first.ensures, c.from-taken.ensures)
    (further-on c.args.store (out-at-4 c) (rows_of c.args.events.now) c.args.count c.requires c.loop-i.first c.loop-i.taken c.loop-i.i c.loop-i.invariant (omega arith)
    c.read_event-e.result c.read_event-e.ensures (sym c.event_ok.ensures ∙ c.if-not-event_ok.false) c.takes-hit.result _ c.takes-hit.ensures refl)

pub returns : goal.returns
returns c =
    ended c.args.store c.args.windows.now c.args.events.now c.args.count c.requires c.loop-i.first c.loop-i.taken c.loop-i.i c.loop-i.invariant (omega arith)
