-- The invariant is `Adding`: the walk, the count and the records that come of what is left from here are those of the whole from the
-- start. An event for which there is no room is only counted, and then the list has no room for all.
use mathlib.Core.Path.{◌≡◌, ap, ◌∙◌}
use mathlib.Core.List.{List, ◌∷◌}
use Prim.Native.Nat.{◌+◌, ◌<◌}
use native.Mathlib.Omega.{arith}
use lib.ListN.{length, set}
use Rattle.std.specs.Prelude.{option_to_list}
use Rattle.eventlist.specs.Rows.{rows_of}
use Rattle.eventlist.proofs.EventRows.{length-rows_of}
use Rattle.values.specs.declared.Offer.{Offer}
use Rattle.offers.specs.Rules.{rule_of}
use Rattle.offers.specs.Walks.{advance, emit}
use Rattle.offers.specs.Pieces.{points_of, point_at}
use Rattle.offers.proofs.Stepping.{left, left-more, left-none}
use Rattle.offers.proofs.Adding.{Adding, ended, put, skip, counts-one, one_of, none_of}
use Rattle.writing.proofs.run_piece.Goals.{After-take_offer-s, then-n-events, else-n-events}
use Rattle.writing.proofs.run_piece.Goals as goal

-- after the offer was taken: what is left begins with it
module _ (c : After-take_offer-s) where
  abbrev offer : Offer
  offer = point_at c.args.at c.args.t c.loop-j.j

  abbrev rest : List Offer
  rest = left c.args.w.freq c.args.at c.args.t c.args.k (c.loop-j.j + c.args.w.freq)

  more : (let a = c.args in Adding (rule_of a.w) (points_of a.w.freq a.at a.t a.k) (rows_of a.events.now) a.count a.from (offer ∷ rest) (rows_of c.loop-j.events) c.loop-j.n c.loop-j.walk)
  more =
      let a = c.args in
      rw (left-more a.w.freq a.at a.t a.k c.loop-j.j (omega arith) c.requires.ready.0.some) at c.loop-j.invariant.2

  walks : c.take_offer-s.result.walk ≡ advance (rule_of c.args.w) c.loop-j.walk offer
  walks = c.take_offer-s.ensures.0 ∙ ap (advance (rule_of c.args.w) c.loop-j.walk) c.point.ensures.0

  emits : option_to_list c.take_offer-s.result.event ≡ emit (rule_of c.args.w) c.loop-j.walk offer
  emits = c.take_offer-s.ensures.1 ∙ ap (emit (rule_of c.args.w) c.loop-j.walk) c.point.ensures.0

pub write_event-requires : goal.write_event-requires
write_event-requires c = omega (arith, length-rows_of c.loop-j.events)

pub overflow_add-n : goal.overflow_add-n
overflow_add-n c =
    let d = (goal.at.overflow_add-n c).After-take_offer-s in
    omega (arith, counts-one (offer d) (rest d) (more d) (one_of c.in-Some.is (emits d)), c.requires.counted)

pub loop-j-preserved-in-Some : goal.loop-j-preserved-in-Some
loop-j-preserved-in-Some c =
    let d = (goal.at.loop-j-preserved-in-Some c).After-take_offer-s in
    let now : c.loop-j.n < length (rows_of c.loop-j.events) → rows_of c.if-n-events.events ≡ set (rows_of c.loop-j.events) c.loop-j.n c.in-Some.e =
    elim c.if-n-events.branch [
      | then-n-events w ↦ λ h. ap rows_of w.events-is ∙ w.write_event.ensures
      | else-n-events w ↦ λ h. absurd (let f = w.if-n-events.false in omega (arith, length-rows_of c.loop-j.events))
    ] in
    (omega arith, omega arith, put (offer d) (rest d) (more d) (walks d) (one_of c.in-Some.is (emits d)) now)

pub loop-j-preserved : goal.loop-j-preserved
loop-j-preserved c =
    let d = (goal.at.loop-j-preserved c).After-take_offer-s in
    (omega arith, c.loop-j.invariant.1, skip (offer d) (rest d) (more d) (walks d) (none_of c.in_default.is (emits d)))

pub returns : goal.returns
returns c =
    let s = c.args in
    ended (rw (left-none s.w.freq s.at s.t s.k c.loop-j.j (omega arith)) at c.loop-j.invariant.2)
