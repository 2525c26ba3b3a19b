-- `ends_ok` meets its contract: the ends passed are well, so that those left decide (laws of Tests); each event may be
-- stored, so that the sum that its end asks fits.
use mathlib.Core.Bool.{Bool, true}
use mathlib.Core.Path.{◌≡◌, refl, sym, ap, ◌∙◌}
use native.Mathlib.Omega.{arith}
use Rattle.laws.proofs.Tests.{passed-of, failed-of, ended_of}
use Rattle.laws.proofs.Every.{all-below}
use Rattle.laws.proofs.Every.{all-below}
use Rattle.laws.proofs.Every.{all-below}
use Rattle.events.specs.declared.Event.{Event}
use Rattle.events.specs.Events.{ok_event, zero_event}
use Rattle.eventlist.specs.Rows.{rows_of}
use Rattle.eventlist.specs.Sound.{ok_events}
use Rattle.notes.specs.Notes.{ok_end}
use Rattle.notes.proofs.Near.{near}
use Rattle.notes.proofs.ends_ok.Goals as goal

-- what the test of its end says of an event e
asked : {e d : Event} (t : Bool) → e ≡ d → ok_end e ≡ t → ok_end d ≡ t
asked t p h = ap ok_end (sym p) ∙ h

-- the event read may be stored
stored : (c : goal.After-read_event) → ok_event c.args.store c.read_event.result ≡ true
unfolding ok_events
stored c =
    let r = rows_of c.args.events.now in
    ap (ok_event c.args.store) c.read_event.ensures
    ∙ all-below (ok_event c.args.store) r c.args.count c.loop-i.i zero_event c.requires.1 (omega arith) c.requires.0

pub loop-i-init : goal.loop-i-init
loop-i-init c = refl

pub end_ok-requires : goal.end_ok-requires
end_ok-requires c = near c.args.store c.read_event.result (stored c)

pub returns-then-not-end_ok : goal.returns-then-not-end_ok
returns-then-not-end_ok c =
    failed-of ok_end c.args.count (rows_of c.args.events.now) c.loop-i.i zero_event (omega arith) c.requires.0
    (asked _ c.read_event.ensures (sym c.end_ok.ensures ∙ c.if-not-end_ok.true))
    c.loop-i.invariant

pub loop-i-preserved : goal.loop-i-preserved
loop-i-preserved c =
    passed-of ok_end c.args.count (rows_of c.args.events.now) c.loop-i.i zero_event (omega arith) c.requires.0
    (asked _ c.read_event.ensures (sym c.end_ok.ensures ∙ c.if-not-end_ok.false))
    c.loop-i.invariant

pub returns : goal.returns
returns c =
    ended_of ok_end c.args.count (rows_of c.args.events.now) c.loop-i.i c.requires.0 (omega arith) c.loop-i.invariant
