-- `note_value` meets its contract: the number of a controller's event is a place of the table.
use mathlib.Core.Path.{sym, ◌∙◌}
use native.Mathlib.Omega.{arith}
use mir.Syntax.{w64}
use Rattle.laws.proofs.Fitting.{back}
use Rattle.cutting.specs.Passes.{valued}
use Rattle.cutting.proofs.Stored.{numbered, controller-up, controller-cut}
use Rattle.cutting.proofs.note_value.Goals as goal

pub overflow_cast-e : goal.overflow_cast-e
overflow_cast-e c =
    let a = c.args in
    let up = controller-up a.e.v1 (numbered a.c.at a.e c.requires (sym c.is_control.ensures ∙ c.if-is_control.true)) in
    rw (back w64 a.e.v1 (omega arith)) (up.0, let u = up.1 in omega arith)

pub offset_bounds-values-e : goal.offset_bounds-values-e
offset_bounds-values-e c =
    let a = c.args in
    let up = controller-up a.e.v1 (numbered a.c.at a.e c.requires (sym c.is_control.ensures ∙ c.if-is_control.true)) in
    rw (back w64 a.e.v1 (omega arith)) (let u = up.1 in omega arith)

pub bounds-values-e : goal.bounds-values-e
bounds-values-e c =
    let a = c.args in
    rw (back w64 a.e.v1 (omega arith)) (controller-up a.e.v1 (numbered a.c.at a.e c.requires (sym c.is_control.ensures ∙ c.if-is_control.true))).1

pub returns-then-is_control : goal.returns-then-is_control
unfolding valued
returns-then-is_control c =
    let a = c.args in
    let is = sym c.is_control.ensures ∙ c.if-is_control.true in
    rw (is, back w64 a.e.v1 (omega arith), back w64 a.e.v2 (omega arith), controller-cut a.e.v1 (numbered a.c.at a.e c.requires is))

pub returns-else-is_control : goal.returns-else-is_control
unfolding valued
returns-else-is_control c = let is = sym c.is_control.ensures ∙ c.if-is_control.false in rw is
