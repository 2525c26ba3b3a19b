-- `weigh` meets its contract: what was seen of the events passed, and those left, say the answer (WeighedTo, of Passes).
use Rattle.std.proofs.Common.{◌∙◌, ◌≤◌, sym, arith, length}
use Rattle.std.proofs.lemmas.Result.{err_from_is_err_and}
use lib.Seq.{length-take-le}
use Rattle.eventlist.specs.Rows.{rows_of, events_of}
use Rattle.eventlist.proofs.EventRows.{length-rows_of}
use Rattle.events.proofs.Stored.{storable}
use Rattle.numbers.proofs.Asking.{asked-no, asked-yes}
use Rattle.chunks.proofs.Passes.{next_of, weigh-begun, weigh-failed, weigh-passed, weigh-ended}
use Rattle.chunks.proofs.weigh.Goals as goal

pub loop-i-init : goal.loop-i-init
loop-i-init c = weigh-begun c.args.store (events_of c.args.events.now c.args.count)

pub returns-in_err-ask : goal.returns-in_err-ask
returns-in_err-ask c =
    let a = c.args in
    let p = err_from_is_err_and c.from_residual.result c.from_residual.ensures.1 in
    let n = asked-no c.event_ok.result c.in_err-ask.ensures in
    let next = next_of a.count (rows_of a.events.now) c.loop-i.i c.read_event-e.result (omega arith) c.requires c.read_event-e.ensures in
    rw (p.1, p.2, n.1) (weigh-failed c.loop-i.invariant next (sym c.event_ok.ensures ∙ n.0))

pub one_more-t-requires : goal.one_more-t-requires
one_more-t-requires c =
    let w = c.loop-i.invariant in
    let ok = sym c.event_ok.ensures ∙ asked-yes c.event_ok.result _ c.in_ok-ask.ensures in
    (w.timed, ((storable c.args.store c.read_event-e.result ok).time, omega (arith, w.few, length-rows_of c.args.events.now)))

pub loop-i-preserved : goal.loop-i-preserved
loop-i-preserved c =
    let a = c.args in
    let next = next_of a.count (rows_of a.events.now) c.loop-i.i c.read_event-e.result (omega arith) c.requires c.read_event-e.ensures in
    let w = weigh-passed c.loop-i.invariant next (sym c.event_ok.ensures ∙ asked-yes c.event_ok.result _ c.in_ok-ask.ensures) in
    rw c.one_more-t.ensures w

pub returns-in_err-ask-2 : goal.returns-in_err-ask-2
returns-in_err-ask-2 c =
    let p = err_from_is_err_and c.from_residual-in_err-ask-2.result c.from_residual-in_err-ask-2.ensures.1 in
    let n = asked-no c.loop-i.t.gaps c.in_err-ask-2.ensures in
    let whole : length (events_of c.args.events.now c.args.count) ≤ c.loop-i.i = omega (arith, length-take-le c.args.count (rows_of c.args.events.now) c.requires) in
    rw (p.1, p.2, n.1) (rw n.0 at (weigh-ended c.loop-i.invariant whole))

pub returns-in_err-ask-3 : goal.returns-in_err-ask-3
returns-in_err-ask-3 c =
    let p = err_from_is_err_and c.from_residual-in_err-ask-3.result c.from_residual-in_err-ask-3.ensures.1 in
    let g = asked-yes c.loop-i.t.gaps _ c.in_ok-ask-2.ensures in
    let n = asked-no c.loop-i.t.fields c.in_err-ask-3.ensures in
    let whole : length (events_of c.args.events.now c.args.count) ≤ c.loop-i.i = omega (arith, length-take-le c.args.count (rows_of c.args.events.now) c.requires) in
    rw (p.1, p.2, n.1) (rw (g, n.0) at (weigh-ended c.loop-i.invariant whole))

pub overflow_add-result : goal.overflow_add-result
overflow_add-result c =
    omega (arith, c.loop-i.invariant.few, length-rows_of c.args.events.now)

pub returns : goal.returns
returns c =
    let g = asked-yes c.loop-i.t.gaps _ c.in_ok-ask-2.ensures in
    let f = asked-yes c.loop-i.t.fields _ c.in_ok-ask-3.ensures in
    let whole : length (events_of c.args.events.now c.args.count) ≤ c.loop-i.i = omega (arith, length-take-le c.args.count (rows_of c.args.events.now) c.requires) in
    rw (g, f) at (weigh-ended c.loop-i.invariant whole)
