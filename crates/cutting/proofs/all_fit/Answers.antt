-- `all_fit` meets its contract: the events passed fit, so that those left decide (laws of Tests).
use mathlib.Core.Path.{sym, ap, ◌∙◌}
use native.Mathlib.Omega.{arith}
use Rattle.laws.proofs.Tests.{passed-of, failed-of, ended_of}
use Rattle.events.specs.Events.{zero_event}
use Rattle.eventlist.specs.Rows.{rows_of}
use Rattle.cutting.specs.Cuts.{fits_cut}
use Rattle.cutting.proofs.all_fit.Goals as goal

pub returns-then-not-fits : goal.returns-then-not-fits
returns-then-not-fits c =
    failed-of (fits_cut c.args.store c.args.c) c.args.count (rows_of c.args.events.now) c.loop-i.i zero_event (omega arith) c.requires.0
    (ap (fits_cut c.args.store c.args.c) (sym c.read_event.ensures) ∙ sym c.fits.ensures ∙ c.if-not-fits.true)
    c.loop-i.invariant

pub loop-i-preserved : goal.loop-i-preserved
loop-i-preserved c =
    passed-of (fits_cut c.args.store c.args.c) c.args.count (rows_of c.args.events.now) c.loop-i.i zero_event (omega arith) c.requires.0
    (ap (fits_cut c.args.store c.args.c) (sym c.read_event.ensures) ∙ sym c.fits.ensures ∙ c.if-not-fits.false)
    c.loop-i.invariant

pub returns : goal.returns
returns c =
    ended_of (fits_cut c.args.store c.args.c) c.args.count (rows_of c.args.events.now) c.loop-i.i c.requires.0 (omega arith) c.loop-i.invariant
