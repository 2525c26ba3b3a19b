-- What was added, and what the rest come to, is what all come to (`Putting`).
use mathlib.Core.Path.{ap, ap₂, ◌∙◌}
use mathlib.Core.List.{List}
use Prim.Native.Nat.{ℕ, ◌+◌, ◌≤◌, ◌<◌}
use native.Mathlib.Omega.{arith}
use borrow.Author.Tests.{ltb-true}
use lib.ListN.{length}
use Rattle.laws.proofs.Ranges.{left}
use Rattle.budget.specs.declared.Budget.{Budget}
use Rattle.events.specs.declared.Event.{Event}
use Rattle.eventlist.specs.Rows.{rows_of}
use Rattle.offers.specs.Walks.{append}
use Rattle.writing.specs.declared.Outcome.{Outcome}
use Rattle.state.proofs.Stored.{waves-few, sines-few}
use Rattle.waving.specs.Drawings.{drawings_of}
use Rattle.waving.proofs.Places.{drawings-long, next-drawing}
use Rattle.waving.proofs.Passing.{ended, put_ended, put-room, put-further, drafts-news, drafts-budget}
use Rattle.waving.proofs.add_all.Goals.{Start, In-loop-i}
use Rattle.waving.proofs.add_all.Goals as goal

total-few : (c : Start) → c.args.track.waves.count + c.args.track.sines.count ≤ 32
total-few c = omega (arith, waves-few c.args.track c.requires.0.passed, sines-few c.args.track c.requires.0.passed)

-- in a turn
inside : (c : In-loop-i) → c.loop-i.i < c.args.track.waves.count + c.args.track.sines.count
inside c = ltb-true _ _ (left _ _ c.loop-i-test.true)

pub overflow_add-all : goal.overflow_add-all
overflow_add-all c = omega (arith, total-few (goal.at.overflow_add-all c).Start)

pub add_draft-o-requires : goal.add_draft-o-requires
add_draft-o-requires c =
    let A = c.args in
    let D = c.draft_at-d.ensures in
    let next = next-drawing A.track c.requires.0 A.n c.loop-i.i (inside (goal.at.add_draft-o-requires c).In-loop-i) in
    let room = put-room (drawings_of A.track A.n) A.b (rows_of A.events.now) A.count c.requires.3 c.loop-i.i _ c.loop-i.rest (rows_of c.loop-i.events) c.loop-i.c
    (drawings-long A.track c.requires.0 A.n) c.loop-i.invariant.1 _ next c.loop-i-test.true in
    (D.able, c.requires.2, rw (drafts-news c.draft_at-d.result _ c.loop-i.rest D) room)

pub overflow_add-i : goal.overflow_add-i
overflow_add-i c =
    let at = goal.at.overflow_add-i c in
    omega (arith, inside at.In-loop-i, total-few at.Start)

pub loop-i-preserved : goal.loop-i-preserved
loop-i-preserved c =
    let A = c.args in
    let D = c.draft_at-d.ensures in
    let r = c.draft_at-d.result in
    let o = c.add_draft-o.ensures in
    let next = next-drawing A.track c.requires.0 A.n c.loop-i.i (inside (goal.at.loop-i-preserved c).In-loop-i) in
    let news = drafts-news r _ c.loop-i.rest D in (
      c.add_draft-o.auto.events ∙ c.loop-i.invariant.0,
      put-further (drawings_of A.track A.n) A.b (rows_of A.events.now) A.count c.requires.3 c.loop-i.i _ c.loop-i.rest (rows_of c.loop-i.events) c.loop-i.c
          (drawings-long A.track c.requires.0 A.n) c.loop-i.invariant.1 _ next c.loop-i-test.true
          (ap (λ (x : Outcome). x.budget) o.0 ∙ drafts-budget r _ c.loop-i.rest D)
          (ap (λ (x : Outcome). x.count) o.0 ∙ ap (λ (es : List Event). c.loop-i.c + length es) news)
          (o.1 ∙ ap (append (rows_of c.loop-i.events) c.loop-i.c) news),
    )

pub returns : goal.returns
returns c =
    let A = c.args in
    let ds = drawings_of A.track A.n in
    let long = drawings-long A.track c.requires.0 A.n in
    let v = c.loop-i.invariant.1 in
    let e = put_ended ds A.b (rows_of A.events.now) A.count c.requires.3 c.loop-i.i _ c.loop-i.rest (rows_of c.loop-i.events) c.loop-i.c long v c.loop-i-test.false in
    (ap₂ (λ (n : ℕ) (b : Budget). record { code = 0; count = n; budget = b }) e.0 (ended ds A.b c.loop-i.i _ c.loop-i.rest long v.pass c.loop-i-test.false), e.1)
