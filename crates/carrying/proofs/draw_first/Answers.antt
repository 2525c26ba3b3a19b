use mathlib.Core.Path.{ap, sym, ◌∙◌}
use lib.IntN.{ℤ}
use mir.Facts.{to_z-of_z}
use lib.ListN.{take}
use lib.Seq.{length-take-le}
use Rattle.carrying.specs.Carry.{drawn_to}
use Rattle.drawing.specs.Calls.{on_time, draw_answer, draw_left}
use Rattle.carrying.proofs.Carrying.{refuses, goes-on}
use Rattle.carrying.proofs.draw_first.Goals as goal

pub slice_bounds-write_on_time-end : goal.slice_bounds-write_on_time-end
slice_bounds-write_on_time-end c = sym (length-take-le _ _ c.requires)

pub returns-then-o-ne0 : goal.returns-then-o-ne0
returns-then-o-ne0 c =
    let a = c.args in
    let x = to_z-of_z c.ranges.target in
    let v = take a.n a.items.now in
    let l = a.events.now in
    let e = c.write_on_time-o.ensures in (
      refuses c.write_on_time-o.result.code _ c.if-o-ne0.true ∙ ap (drawn_to a.state) (e.answer ∙ ap (λ (z : ℤ). draw_answer (on_time a.state.track z v a.state.budget l a.state.count 0)) x),
      e.left ∙ ap (λ (z : ℤ). draw_left (on_time a.state.track z v a.state.budget l a.state.count 0)) x,
    )

pub returns : goal.returns
returns c =
    let a = c.args in
    let x = to_z-of_z c.ranges.target in
    let v = take a.n a.items.now in
    let l = a.events.now in
    let e = c.write_on_time-o.ensures in (
      goes-on c.write_on_time-o.result.code _ c.if-o-ne0.false ∙ ap (drawn_to a.state) (e.answer ∙ ap (λ (z : ℤ). draw_answer (on_time a.state.track z v a.state.budget l a.state.count 0)) x),
      e.left ∙ ap (λ (z : ℤ). draw_left (on_time a.state.track z v a.state.budget l a.state.count 0)) x,
    )
