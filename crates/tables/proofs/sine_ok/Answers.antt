-- `tables::sine_ok`: each test, read back, joined.
use mathlib.Core.Path.{refl}
use borrow.Author.Rules.{rules}
use lib.Dec.{leb}
use mir.Syntax.{w32}
use Rattle.laws.proofs.Tests.{both, is_at}
use Rattle.numbers.specs.Ranges.{is_target, is_sine_end, is_length}
use Rattle.tables.specs.Reservations.{ok_sine}
use Rattle.tables.proofs.sine_ok.Goals as goal

pub returns : goal.returns
unfolding ok_sine
returns c =
    let x = c.args.e in
    both
    (both
    (both
    (both
    (both {b = leb x.shape 2} (is_at w32 {z = x.target} is_target (search rules) c.is_target.ensures) refl)
    (is_at w32 {z = x.low} is_sine_end (search rules) c.is_sine_end.ensures))
    (is_at w32 {z = x.high} is_sine_end (search rules) c.is_sine_end-2.ensures))
    (is_at w32 {z = x.length} is_length (search rules) c.is_length.ensures))
    (is_at w32 {z = x.times} is_length (search rules) c.is_length-2.ensures)
