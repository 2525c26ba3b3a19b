-- The invariant is `Adding` over the offers of the pieces left; the measure is the number of pieces left.
use mathlib.Core.Path.{◌≡◌, sym, ◌∙◌}
use mathlib.Core.List.{List, ◌++◌}
use Prim.Native.Nat.{◌+◌, ◌-◌, min}
use native.Mathlib.Omega.{arith}
use Rattle.std.specs.Prelude.{Some}
use Rattle.eventlist.specs.Rows.{rows_of}
use Rattle.values.specs.declared.Offer.{Offer}
use Rattle.offers.specs.Rules.{rule_of}
use Rattle.offers.specs.Pieces.{offers, points_of}
use Rattle.offers.specs.Waves.{triples}
use Rattle.offers.specs.Sources.{rest_of, next_of}
use Rattle.offers.proofs.Adding.{Adding, further, ended, counts_for}
use Rattle.offers.proofs.Running.{given, fewer, reach, mild, on, over, offers-more}
use Rattle.writing.proofs.run_source.Goals.{After-min-k}
use Rattle.writing.proofs.run_source.Goals as goal

-- after the least is taken: what is left begins with the points of this triple
module _ (c : After-min-k) where
  is_next : next_of (triples c.args.numbers.now) c.loop-t.s ≡ Some (c.in-Some.t, c.in-Some.next)
  is_next = sym c.in-Some.ensures

  abbrev all : List Offer
  all = let a = c.args in offers a.w.freq (rest_of (triples a.numbers.now) a.source) a.limit 0

  abbrev some : List Offer
  some = let t = c.in-Some.t in points_of c.args.w.freq c.loop-t.at t (min t.len c.loop-t.steps)

  abbrev rest : List Offer
  rest =
      let t = c.in-Some.t in
      offers c.args.w.freq (rest_of (triples c.args.numbers.now) c.in-Some.next) (c.loop-t.steps - min t.len c.loop-t.steps) (c.loop-t.at + t.len)

  more : (let a = c.args in Adding (rule_of a.w) all (rows_of a.events.now) a.count a.from (some ++ rest) (rows_of c.loop-t.events) c.loop-t.n c.loop-t.walk)
  more =
      let a = c.args in
      rw (given c.loop-t.invariant.0 is_next, offers-more a.w.freq c.in-Some.t (rest_of (triples a.numbers.now) c.in-Some.next) c.loop-t.steps c.loop-t.at) at c.loop-t.invariant.2

pub run_piece-done-requires-clause-ready : goal.run_piece-done-requires-clause-ready
run_piece-done-requires-clause-ready c =
    let m = c.min-k.ensures in
    let d = (goal.at.run_piece-done-requires-clause-ready c).After-min-k in
    (c.requires.ready.0, mild c.loop-t.invariant.0 (is_next d) c.requires.ready.1.far, omega arith, c.requires.ready.2)

pub run_piece-done-requires-clause-counted : goal.run_piece-done-requires-clause-counted
run_piece-done-requires-clause-counted c =
    let d = (goal.at.run_piece-done-requires-clause-counted c).After-min-k in
    rw c.min-k.ensures (omega (arith, counts_for (some d) (rest d) (more d), c.requires.counted))

pub overflow_add-at : goal.overflow_add-at
overflow_add-at c =
    let r = reach c.loop-t.invariant.0 (is_next (goal.at.overflow_add-at c).After-min-k) in
    let f = c.requires.ready.1.far in
    omega arith

pub loop-t-smaller : goal.loop-t-smaller
loop-t-smaller c = fewer c.loop-t.invariant.0 (is_next (goal.at.loop-t-smaller c).After-min-k)

pub loop-t-preserved : goal.loop-t-preserved
loop-t-preserved c =
    let m = c.min-k.ensures in
    let e = c.run_piece-done.ensures in
    let d = (goal.at.loop-t-preserved c).After-min-k in (
      on c.loop-t.invariant.0 (is_next d),
      c.run_piece-done.auto.events ∙ c.loop-t.invariant.1,
      rw m (further (some d) (rest d) (more d) (rw m at e.0) (rw m at e.1) (rw m at e.2)),
    )

pub returns : goal.returns
unfolding offers
returns c =
    let o = over c.loop-t.invariant.0 (sym c.in_default.ensures) in
    ended (rw o at c.loop-t.invariant.2)
