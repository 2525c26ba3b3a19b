use mathlib.Core.Path.{refl, sym, ◌∙◌}
use mathlib.Core.List.{[], ◌∷◌}
use lib.IntN.{pos}
use mir.Facts.{to_z-of_z}
use Rattle.eventlist.specs.Rows.{rows_of}
use Rattle.offers.specs.Waves.{triples}
use Rattle.writing.specs.declared.Origin.TheVariants.{Sine}
use Rattle.writing.specs.Sines.{sine_piece}
use Rattle.writing.proofs.Origins.{sine-total}
use Rattle.writing.proofs.Writes.{told_of_lem, sine-gives}
use Rattle.writing.proofs.write_sine.Goals as goal

pub write_tested-requires : goal.write_tested-requires
write_tested-requires c =
    (c.requires.0, c.sine_piece-piece.ensures.1, c.quarter_table-quarter.ensures, sym (sine-total (triples (pos 0 ∷ [])) {origin = Sine c.sine_piece-piece.result} refl), c.requires.5)

pub returns : goal.returns
returns c =
    told_of_lem c.args.store c.args.w c.args.b c.args.events.now c.args.count c.write_tested.result (rows_of c.write_tested.new.events)
    (sine-gives (triples (pos 0 ∷ [])) (sine_piece c.args.stype c.args.low c.args.high c.args.len c.args.times)
    (c.sine_piece-piece.ensures.0 ∙ rw (to_z-of_z c.ranges.low, to_z-of_z c.ranges.high, to_z-of_z c.ranges.len, to_z-of_z c.ranges.times)))
    c.write_tested.ensures
