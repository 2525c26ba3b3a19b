-- `write_sine`: as `write_on_time`, of one piece whose numbers are read back.
use mathlib.Core.Path.{◌≡◌, refl, sym, ap, ◌∙◌}
use mathlib.Core.Bool.{true, ◌&&◌}
use lib.IntN.{pos}
use lib.ListN.{length}
use mir.Syntax.{w64}
use mir.Val.{to_z, of_z}
use mir.Facts.{to_z-of_z, to_z_pos}
use borrow.Author.Rules.{sfits_of}
use Rattle.laws.proofs.Tests.{both}
use Rattle.eventlist.specs.Rows.{rows_of}
use Rattle.sines.specs.declared.SineType.{SineType}
use Rattle.sines.specs.Kinds.{sine_type}
use Rattle.sines.proofs.Named.{kind-told}
use Rattle.tables.specs.declared.OnNoteSine.{OnNoteSine}
use Rattle.tables.proofs.Sines.{sine-low, sine-high, sine-length, sine-times}
use Rattle.writing.specs.Sines.{sine_pieces}
use Rattle.writing.proofs.Writes.{told_of_lem}
use Rattle.numbers.specs.Refusals.{told}
use Rattle.numbers.proofs.Asking.{some-number}
use Rattle.drawing.specs.Write.{write_of}
use Rattle.drawing.specs.Calls.{Draw, sine_for, on_sine}
use Rattle.drawing.proofs.Drawn.{asked-first, asked-as, refused, allowed-well, ready-draw, count-well, tested}
use Rattle.drawing.proofs.write_sine.Goals.{After-asked}
use Rattle.drawing.proofs.write_sine.Goals as goal

module _ (c : After-asked) where
  abbrev sine : OnNoteSine
  sine = sine_for c.args.target c.args.shape c.args.low c.args.high c.args.len c.args.times

  abbrev draw : Draw
  draw = on_sine c.args.track sine c.args.budget c.args.events.now c.args.count (length c.args.store.now)

  all-asked : told c.asked.result ≡ asked-first draw
  all-asked =
      let f = c.ranges in
      asked-as draw true (c.track_ok.result && c.budget_ok.result && c.sine_ok.result)
      (rw (to_z-of_z f.target) at c.asked.ensures) refl
      (λ h.
      both (both c.track_ok.ensures c.budget_ok.ensures)
      (c.sine_ok.ensures ∙ rw (to_z-of_z f.target, to_z-of_z f.low, to_z-of_z f.high, to_z-of_z f.len, to_z-of_z f.times)))

pub returns-in-Err : goal.returns-in-Err
returns-in-Err c =
    let d = (goal.at.returns-in-Err c).After-asked in
    rw c.number.ensures (refused (draw d) (sym (ap told c.in-Err.is) ∙ all-asked d) (some-number c.in-Err.refusal))

pub write_sine-requires : goal.write_sine-requires
write_sine-requires c =
    let d = (goal.at.write_sine-requires c).After-asked in
    let e = sym (all-asked d) ∙ ap told c.in_default.is in
    let w = c.write_of-w.ensures ∙ ap (write_of c.args.track) (to_z-of_z c.ranges.target) in
    let k = allowed-well (draw d) e in
    let f = c.ranges in (
      ready-draw (draw d) e w,
      rw (to_z-of_z f.low) (sine-low (sine d) k),
      rw (to_z-of_z f.high) (sine-high (sine d) k),
      rw (to_z-of_z f.len) (sine-length (sine d) k),
      rw (to_z-of_z f.times) (sine-times (sine d) k),
      count-well (draw d) e,
    )

pub returns : goal.returns
returns c =
    let d = (goal.at.returns c).After-asked in
    let e = sym (all-asked d) ∙ ap told c.in_default.is in
    let w = c.write_of-w.ensures ∙ ap (write_of c.args.track) (to_z-of_z c.ranges.target) in
    let shaped : c.from_i-stype.result ≡ sine_type (pos c.args.shape) =
    kind-told (to_z w64 (of_z w64 c.from.result)) c.from_i-stype.result c.from_i-stype.ensures ∙ ap sine_type (to_z-of_z {w = w64} (sfits_of c.from.type_inv) ∙ c.from.ensures) in
    let l = c.write_sine.new.events in
    tested (draw d) c.write_sine.result l c.write_sine.auto.events e w
    (told_of_lem (length c.args.store.now) c.write_of-w.result c.args.budget c.args.events.now c.args.count c.write_sine.result (rows_of l)
    (rw (to_z-of_z c.ranges.low, to_z-of_z c.ranges.high, to_z-of_z c.ranges.len, to_z-of_z c.ranges.times)
    (ap (λ (x : SineType). sine_pieces x c.args.low c.args.high c.args.len c.args.times) shaped))
    c.write_sine.ensures)
