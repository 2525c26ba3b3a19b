-- `cycles::cycle_ok`: each test read back, joined.
use mathlib.Core.Path.{refl, ap}
use lib.Dec.{ltb}
use lib.IntN.{pos}
use mir.Val.{SFits}
use lib.Signed.{le_z}
use mir.Facts.{to_z-of_z}
use mir.Syntax.{w32, w64}
use Rattle.laws.proofs.Tests.{both, is_at}
use Rattle.numbers.specs.Ranges.{is_target, is_length, is_stored_time}
use Rattle.cycles.specs.Rules.{ok_cycle}
use borrow.Author.Rules.{rules}
use Rattle.cycles.proofs.cycle_ok.Goals as goal

pub returns : goal.returns
unfolding ok_cycle
returns c =
    let x = c.args.c in
    let f : SFits w32 x.length = search rules in
    both {b = ltb x.index x.values.count}
    (both
    (both
    (both
    (both (is_at w32 is_target (search rules) c.is_target.ensures) (ap (le_z (pos 1)) (to_z-of_z f)))
    (is_at w32 {z = x.length} is_length f.sfits c.is_length.ensures))
    (is_at w64 {z = x.next} is_stored_time (search rules) c.is_stored_time.ensures))
    c.numbers_ok.ensures)
    refl
