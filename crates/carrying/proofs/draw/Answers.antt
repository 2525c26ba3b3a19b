use mathlib.Core.Path.{◌≡◌, ap, sym, ◌∙◌}
use native.Mathlib.Omega.{arith}
use lib.IntN.{ℤ}
use lib.ListN.{length}
use mir.Syntax.{w32}
use Rattle.laws.proofs.Fitting.{back}
use borrow.Author.Rules.{rules}
use Rattle.numbers.specs.Limits.{list_limit}
use Rattle.carrying.specs.Carry.{drawn_to, curve_of}
use Rattle.counted.specs.Numbers.{shown}
use Rattle.drawing.specs.Calls.{on_time, draw_answer, draw_left}
use Rattle.carrying.proofs.draw.Goals as goal

pub slice_bounds-draw_first-end : goal.slice_bounds-draw_first-end
slice_bounds-draw_first-end c =
    let e : length c.args.r.list.items ≡ list_limit = search rules in
    sym e

pub draw_first-requires : goal.draw_first-requires
draw_first-requires c =
    let e : length c.args.r.list.items ≡ list_limit = search rules in
    omega (arith, c.requires)

pub returns : goal.returns
unfolding curve_of
returns c =
    let a = c.args in
    let s = a.state in
    let x = back w32 a.r.x (omega arith) in
    let v = shown a.r.list in
    let l = a.events.now in
    let e = c.draw_first.ensures in (
      e.0 ∙ ap (λ (z : ℤ). drawn_to s (draw_answer (on_time s.track z v s.budget l s.count 0))) x,
      e.1 ∙ ap (λ (z : ℤ). draw_left (on_time s.track z v s.budget l s.count 0)) x,
    )
