use mathlib.Core.Path.{refl, sym, ◌∙◌}
use mathlib.Core.List.{List}
use mir.Facts.{to_z-of_z}
use Rattle.offers.specs.declared.Piece.{Piece}
use Rattle.writing.specs.declared.Origin.TheVariants.{Sine}
use Rattle.writing.specs.Sines.{sine_piece}
use Rattle.writing.proofs.Origins.{sine-total}
use Rattle.writing.proofs.Writes.{sine-gives}
use Rattle.writing.proofs.sine_figure.Goals as goal

pub returns : goal.returns
returns c =
    let p = c.sine_piece-piece.ensures in (
      λ (ts : List Piece). (
        record { asked = p.1; long = sym (sine-total ts {origin = Sine c.sine_piece-piece.result} refl) },
        sine-gives ts (sine_piece c.args.stype c.args.low c.args.high c.args.len c.args.times)
            (p.0 ∙ rw (to_z-of_z c.ranges.low, to_z-of_z c.ranges.high, to_z-of_z c.ranges.len, to_z-of_z c.ranges.times)),
      ),
      refl,
    )
