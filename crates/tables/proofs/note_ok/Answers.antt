-- `tables::note_ok`: each test, read back, joined.
use mathlib.Core.Path.{refl}
use borrow.Author.Rules.{rules}
use lib.Dec.{leb}
use mir.Syntax.{w32}
use Rattle.laws.proofs.Tests.{both, is_at}
use Rattle.numbers.specs.Ranges.{is_target}
use Rattle.tables.specs.Reservations.{ok_values}
use Rattle.tables.proofs.note_ok.Goals as goal

pub returns : goal.returns
unfolding ok_values
returns c =
    let x = c.args.e in
    both
    (both {b = leb x.cycling 1}
    (both {b = leb x.index x.values.count} (is_at w32 {z = x.target} is_target (search rules) c.is_target.ensures) refl)
    refl)
    c.numbers_ok.ensures
