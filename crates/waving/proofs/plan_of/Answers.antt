-- What was planned, and what the rest comes to, is what all come to (`Passing`); the windows are laid down one after the other.
use mathlib.Core.Path.{◌≡◌, sym, ap, ◌∙◌}
use mathlib.Core.List.{◌++◌, append-nil}
use Prim.Native.Nat.{◌+◌, ◌*◌, ◌≤◌, ◌<◌}
use native.Mathlib.Omega.{arith}
use borrow.Author.Tests.{ltb-true}
use lib.ListN.{length, take, length-set}
use Rattle.laws.proofs.Ranges.{left}
use Rattle.budget.specs.declared.Budget.{Budget}
use Rattle.counted.specs.Numbers.{shown}
use Rattle.offers.specs.Waves.{triples}
use Rattle.writing.proofs.Origins.{far}
use Rattle.state.proofs.Stored.{waves-few, sines-few}
use Rattle.waving.specs.Drawings.{drawings_of}
use Rattle.waving.specs.Passes.{Passes, passes}
use Rattle.waving.proofs.Places.{drawings-long, next-drawing}
use Rattle.waving.proofs.Passing.{ended, further, window-further, stops, pass-used, drafts-budget, drafts-window}
use Rattle.waving.proofs.plan_of.Goals.{Start, In-loop-i, After-loop-i}
use Rattle.waving.proofs.plan_of.Goals as goal

total-few : (c : Start) → c.args.track.waves.count + c.args.track.sines.count ≤ 32
total-few c = omega (arith, waves-few c.args.track c.requires.0.passed, sines-few c.args.track c.requires.0.passed)

-- in a turn
module _ (c : In-loop-i) (few : c.args.track.waves.count + c.args.track.sines.count ≤ 32) where
  inside : c.loop-i.i < c.args.track.waves.count + c.args.track.sines.count
  inside = ltb-true _ _ (left _ _ c.loop-i-test.true)

  -- a window has its place
  held : c.loop-i.i < length c.loop-i.windows
  held = let n = c.loop-i.invariant.1 in omega (arith, inside, few)

-- after the last
module _ (c : After-loop-i) where
  used : c.loop-i.rest.used ≡ c.args.b.used + 8 * length (passes (drawings_of c.args.track c.args.n) c.args.b).news
  used =
      let A = c.args in
      let ds = drawings_of A.track A.n in
      ap (λ (x : Budget). x.used) (ended ds A.b c.loop-i.i _ c.loop-i.rest (drawings-long A.track c.requires.0 A.n) c.loop-i.invariant.0 c.loop-i-test.false) ∙ pass-used ds A.b

pub overflow_add-total : goal.overflow_add-total
overflow_add-total c = omega (arith, total-few (goal.at.overflow_add-total c).Start)

pub figure_window-requires : goal.figure_window-requires
figure_window-requires c =
    let r = c.draft_at-d.result in
    let a = c.draft_at-d.ensures.able in
    let f = far (triples (shown r.numbers)) r.figure.origin a.shaped.asked in
    let l = a.shaped.long in
    (a.ready, omega arith)

pub offset_bounds-windows-i : goal.offset_bounds-windows-i
offset_bounds-windows-i c =
    let at = goal.at.offset_bounds-windows-i c in
    omega (arith, inside at.In-loop-i (total-few at.Start), total-few at.Start)

pub bounds-windows-i : goal.bounds-windows-i
bounds-windows-i c =
    let at = goal.at.bounds-windows-i c in
    omega (arith, inside at.In-loop-i (total-few at.Start), total-few at.Start)

pub overflow_add-i : goal.overflow_add-i
overflow_add-i c =
    let at = goal.at.overflow_add-i c in
    let few = total-few at.Start in
    omega (arith, inside at.In-loop-i few, few)

pub loop-i-preserved : goal.loop-i-preserved
loop-i-preserved c =
    let A = c.args in
    let at = goal.at.loop-i-preserved c in
    let few = total-few at.Start in
    let ds = drawings_of A.track A.n in
    let long = drawings-long A.track c.requires.0 A.n in
    let next = next-drawing A.track c.requires.0 A.n c.loop-i.i (inside at.In-loop-i few) in
    let v = c.loop-i.invariant in
    let D = c.draft_at-d.ensures in
    let left = c.foresee_draft-rest.ensures ∙ drafts-budget c.draft_at-d.result _ c.loop-i.rest D in
    let more =
    window-further ds A.b c.loop-i.i _ c.loop-i.rest long v.0 _ next c.loop-i-test.true c.loop-i.windows (held at.In-loop-i few)
    (c.figure_window.ensures ∙ drafts-window c.draft_at-d.result _ c.loop-i.rest D) left v.2 in (
      further ds A.b c.loop-i.i _ c.loop-i.rest long v.0 _ next c.loop-i-test.true left,
      length-set c.loop-i.windows c.loop-i.i _ ∙ v.1,
      more,
    )

pub overflow_sub-result : goal.overflow_sub-result
overflow_sub-result c = let u = used (goal.at.overflow_sub-result c).After-loop-i in omega arith

pub returns : goal.returns
returns c =
    let A = c.args in
    let at = goal.at.returns c in
    let ds = drawings_of A.track A.n in
    let long = drawings-long A.track c.requires.0 A.n in
    let v = c.loop-i.invariant in
    let u = used at.After-loop-i in
    let m : c.loop-i.i ≤ 32 = let w = v.0.within in omega (arith, long, total-few at.Start) in
    let ws = take c.loop-i.i c.loop-i.windows in
    record {
      few = m;
      long = v.1;
      windows =
          sym (append-nil ws)
          ∙ sym (ap (λ (p : Passes). ws ++ p.windows) (stops ds c.loop-i.i _ c.loop-i.rest long c.loop-i-test.false))
          ∙ v.2;
      added = omega arith;
    }
