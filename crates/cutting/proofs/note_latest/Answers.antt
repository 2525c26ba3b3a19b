-- `note_latest` meets its contract: the number of a controller's event is a place of both tables.
use mathlib.Core.Path.{◌≡◌, sym, ap, ap₂, ◌∙◌}
use mathlib.Core.Bool.{true}
use mathlib.Core.List.{List}
use Prim.Native.Nat.{ℕ, ◌<◌}
use native.Mathlib.Omega.{arith}
use lib.Dec.{T}
use lib.IntN.{ℤ, pos, nat_abs}
use lib.ListN.{get_or}
use lib.Signed.{non_neg, le_z}
use mir.Syntax.{w64}
use mir.Val.{SFits, to_z, of_z}
use mir.Facts.{to_z-of_z}
use Rattle.laws.specs.Integers.{cut}
use Rattle.laws.proofs.Fitting.{fit, back}
use Rattle.events.specs.declared.Event.{Event}
use Rattle.events.specs.Events.{ok_numbered}
use Rattle.events.specs.Kinds.{control_change}
use Rattle.cutting.specs.Cuts.{folds}
use Rattle.cutting.specs.ByTime.{dated}
use Rattle.cutting.proofs.Stored.{numbered, controller-up, controller-cut}
use Rattle.cutting.proofs.note_latest.Goals as goal

-- a controller's event before the cut: its number is a place of the tables,
module _ (at : ℤ) (e : Event) (y : ok_numbered e ≡ true) (f : folds control_change at e ≡ true) (v : SFits w64 e.v1) where
  up : T (non_neg (to_z w64 (of_z w64 e.v1))) × (nat_abs (to_z w64 (of_z w64 e.v1)) < 128)
  up = rw (to_z-of_z v) (controller-up e.v1 (numbered at e y f))

  place : nat_abs (to_z w64 (of_z w64 e.v1)) ≡ cut e.v1
  place = ap nat_abs (to_z-of_z v) ∙ controller-cut e.v1 (numbered at e y f)

  -- and the test of the times is of the numbers themselves
  read : (times : List ℤ) → SFits w64 e.time → SFits w64 (get_or times (nat_abs (to_z w64 (of_z w64 e.v1))) (pos 0))
      → le_z (to_z w64 (of_z w64 (get_or times (nat_abs (to_z w64 (of_z w64 e.v1))) (pos 0)))) (to_z w64 (of_z w64 e.time)) ≡ dated at times e
  unfolding dated
  read times t s = rw f (ap₂ le_z (to_z-of_z s ∙ ap (λ (k : ℕ). get_or times k (pos 0)) place) (to_z-of_z t))

pub overflow_cast-k : goal.overflow_cast-k
overflow_cast-k c =
    let u = up c.args.c.at c.args.e c.requires (sym c.is_control.ensures ∙ c.if-is_control.true) (fit w64 c.args.e.v1 (omega arith)) in
    (u.0, let h = u.1 in omega arith)

pub offset_bounds-times-k : goal.offset_bounds-times-k
offset_bounds-times-k c =
    let u = (up c.args.c.at c.args.e c.requires (sym c.is_control.ensures ∙ c.if-is_control.true) (fit w64 c.args.e.v1 (omega arith))).1 in
    omega arith

pub bounds-times-k : goal.bounds-times-k
bounds-times-k c = (up c.args.c.at c.args.e c.requires (sym c.is_control.ensures ∙ c.if-is_control.true) (fit w64 c.args.e.v1 (omega arith))).1

pub offset_bounds-times-k-then-times-k : goal.offset_bounds-times-k-then-times-k
offset_bounds-times-k-then-times-k c =
    let u = (up c.args.c.at c.args.e c.requires (sym c.is_control.ensures ∙ c.if-is_control.true) (fit w64 c.args.e.v1 (omega arith))).1 in
    omega arith

pub bounds-times-k-then-times-k : goal.bounds-times-k-then-times-k
bounds-times-k-then-times-k c =
    (up c.args.c.at c.args.e c.requires (sym c.is_control.ensures ∙ c.if-is_control.true) (fit w64 c.args.e.v1 (omega arith))).1

pub offset_bounds-values-k : goal.offset_bounds-values-k
offset_bounds-values-k c =
    let u = (up c.args.c.at c.args.e c.requires (sym c.is_control.ensures ∙ c.if-is_control.true) (fit w64 c.args.e.v1 (omega arith))).1 in
    omega arith

pub bounds-values-k : goal.bounds-values-k
bounds-values-k c = (up c.args.c.at c.args.e c.requires (sym c.is_control.ensures ∙ c.if-is_control.true) (fit w64 c.args.e.v1 (omega arith))).1

pub returns-then-times-k : goal.returns-then-times-k
returns-then-times-k c =
    let x = c.args.e in
    let f = sym c.is_control.ensures ∙ c.if-is_control.true in
    let v = fit w64 x.v1 (omega arith) in
    let q = sym (read c.args.c.at x c.requires f v c.args.times.now (fit w64 x.time (omega arith)) (fit w64 _ (omega arith))) ∙ c.if-times-k.true in
    let p = place c.args.c.at x c.requires f v in
    (rw (q, p, back w64 x.v2 (omega arith)), rw (q, p, back w64 x.time (omega arith)))

pub returns-else-times-k : goal.returns-else-times-k
returns-else-times-k c =
    let x = c.args.e in
    let f = sym c.is_control.ensures ∙ c.if-is_control.true in
    let v = fit w64 x.v1 (omega arith) in
    let q = sym (read c.args.c.at x c.requires f v c.args.times.now (fit w64 x.time (omega arith)) (fit w64 _ (omega arith))) ∙ c.if-times-k.false in
    (rw q, rw q)

pub returns-else-is_control : goal.returns-else-is_control
unfolding dated
returns-else-is_control c = let f = sym c.is_control.ensures ∙ c.if-is_control.false in (rw f, rw f)
