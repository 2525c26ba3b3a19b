-- Where there is no random, the value is itself and the seed stays.
use Rattle.std.proofs.Common.{pos}
use Rattle.numbers.proofs.Spreading.{spread-off}
use Rattle.laws.proofs.Signed.{le-back-l}
use mir.Facts.{to_z-of_z}
use Rattle.budget.proofs.calc_rand_value.Goals as goal

pub returns-then-width-le0 : goal.returns-then-width-le0
returns-then-width-le0 c =
    let off = le-back-l (pos 0) c.ranges.width c.if-width-le0.true in
    rw (to_z-of_z c.ranges.value, spread-off c.args.value c.args.width _ off, off)
