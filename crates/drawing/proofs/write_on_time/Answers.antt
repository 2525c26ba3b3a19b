-- `write_on_time`: the arguments are tested (Drawn); past that the write's own contract says what is left.
use mathlib.Core.Path.{◌≡◌, sym, ap, ◌∙◌}
use mathlib.Core.Bool.{◌&&◌}
use mathlib.Core.List.{List}
use native.Mathlib.Omega.{arith}
use borrow.Author.Tests.{leb-true}
use lib.IntN.{ℤ}
use lib.ListN.{length}
use mir.Facts.{to_z-of_z}
use Rattle.laws.proofs.Tests.{both}
use Rattle.numbers.specs.Limits.{list_limit}
use Rattle.std.proofs.Common.{Result}
use Rattle.std.specs.Result.{is_ok, result_unwrap_or}
use Rattle.numbers.specs.declared.refusals.Refusal.{Refusal}
use Rattle.counted.specs.declared.Numbers.{Numbers}
use Rattle.counted.specs.Numbers.{none}
use Rattle.counted.specs.Curves.{ok_curve}
use Rattle.writing.proofs.Allowed.{fine}
use Rattle.numbers.specs.Refusals.{told}
use Rattle.numbers.proofs.Asking.{some-number}
use Rattle.drawing.specs.Write.{write_of}
use Rattle.drawing.specs.Calls.{Draw, on_time}
use Rattle.drawing.proofs.Drawn.{asked-first, asked-as, refused, well, allowed-well, ready-draw, count-well, tested}
use Rattle.drawing.proofs.Listed.{laid-short, laid-test}
use Rattle.drawing.proofs.write_on_time.Goals.{After-asked}
use Rattle.drawing.proofs.write_on_time.Goals as goal

module _ (c : After-asked) where
  abbrev draw : Draw
  draw = on_time c.args.track c.args.target c.args.list.now c.args.budget c.args.events.now c.args.count (length c.args.store.now)

  abbrev v : List ℤ
  v = c.args.list.now

  all-asked : told c.asked.result ≡ asked-first draw
  all-asked =
      let listed = c.numbers_of-listed.ensures in
      asked-as draw c.is_ok.result (c.track_ok.result && c.budget_ok.result && c.curve_ok.result)
      (rw (to_z-of_z c.ranges.target) at c.asked.ensures) (c.is_ok.ensures.value ∙ ap is_ok listed ∙ laid-short v)
      (λ h. both (both c.track_ok.ensures c.budget_ok.ensures) ((rw (c.unwrap_or-numbers.ensures, c.empty.ensures) at c.curve_ok.ensures) ∙ ap (λ (x : Result Numbers Refusal). ok_curve (result_unwrap_or x none)) listed ∙ laid-test v h))

pub returns-in-Err : goal.returns-in-Err
returns-in-Err c =
    let d = (goal.at.returns-in-Err c).After-asked in
    rw c.number.ensures (refused (draw d) (sym (ap told c.in-Err.is) ∙ all-asked d) (some-number c.in-Err.refusal))

pub write_curve-requires : goal.write_curve-requires
write_curve-requires c =
    let d = (goal.at.write_curve-requires c).After-asked in
    let e = sym (all-asked d) ∙ ap told c.in_default.is in
    let w = c.write_of-w.ensures ∙ ap (write_of c.args.track) (to_z-of_z c.ranges.target) in (
      ready-draw (draw d) e w,
      fine (v d) (allowed-well (draw d) e) (omega (arith, leb-true (length (v d)) list_limit (well (draw d) e).short-well)),
      count-well (draw d) e,
    )

pub returns : goal.returns
returns c =
    let d = (goal.at.returns c).After-asked in
    let e = sym (all-asked d) ∙ ap told c.in_default.is in
    let w = c.write_of-w.ensures ∙ ap (write_of c.args.track) (to_z-of_z c.ranges.target) in
    tested (draw d) c.write_curve.result c.write_curve.new.events c.write_curve.auto.events e w c.write_curve.ensures
