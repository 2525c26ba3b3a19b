-- `records_ok` meets its contract: the events passed may be stored, so that those left decide (laws of Tests).
use mathlib.Core.Bool.{Bool}
use mathlib.Core.Path.{◌≡◌, refl, sym, ap, ◌∙◌}
use Prim.Native.Nat.{ℕ}
use native.Mathlib.Omega.{arith}
use Rattle.laws.proofs.Tests.{passed-of, failed-of, ended_of}
use Rattle.events.specs.declared.Event.{Event}
use Rattle.events.specs.Events.{ok_event, zero_event}
use Rattle.eventlist.specs.Rows.{rows_of}
use Rattle.eventlist.specs.Sound.{ok_events}
use Rattle.eventlist.proofs.records_ok.Goals as goal

-- what the test of an event e says of it
asked : (store : ℕ) {e d : Event} (t : Bool) → e ≡ d → ok_event store e ≡ t → ok_event store d ≡ t
asked store t p h = ap (ok_event store) (sym p) ∙ h

pub loop-i-init : goal.loop-i-init
loop-i-init c = refl

pub returns-then-not-event_ok : goal.returns-then-not-event_ok
unfolding ok_events
returns-then-not-event_ok c =
    failed-of (ok_event c.args.store) c.args.count (rows_of c.args.events.now) c.loop-i.i zero_event (omega arith) c.requires
    (asked c.args.store _ c.read_event.ensures (sym c.event_ok.ensures ∙ c.if-not-event_ok.true))
    c.loop-i.invariant

pub loop-i-preserved : goal.loop-i-preserved
loop-i-preserved c =
    passed-of (ok_event c.args.store) c.args.count (rows_of c.args.events.now) c.loop-i.i zero_event (omega arith) c.requires
    (asked c.args.store _ c.read_event.ensures (sym c.event_ok.ensures ∙ c.if-not-event_ok.false))
    c.loop-i.invariant

pub returns : goal.returns
unfolding ok_events
returns c =
    ended_of (ok_event c.args.store) c.args.count (rows_of c.args.events.now) c.loop-i.i c.requires (omega arith) c.loop-i.invariant
