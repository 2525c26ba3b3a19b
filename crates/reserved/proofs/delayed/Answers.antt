-- The sum of a time and a length fits.
use Rattle.std.proofs.Common.{arith}
use lib.IntN.{◌+ℤ◌}
use mir.Syntax.{w64}
use mir.Val.{SFits}
use mir.Facts.{to_z-of_z}
use Rattle.laws.proofs.Signed.{mag-add}
use Rattle.counted.proofs.Sizes.{time-mag, length-mag}
use Rattle.reserved.proofs.delayed.Goals as goal

fit : (c : goal.After-from) → SFits w64 (c.args.timepos +ℤ c.args.delay)
fit c =
    let h = time-mag c.args.timepos c.requires.timepos_value in
    let k = length-mag c.args.delay c.requires.delay_value in
    omega (arith, mag-add c.args.timepos c.args.delay)

wide : (c : goal.After-from) → SFits w64 c.args.delay
wide c = let k = length-mag c.args.delay c.requires.delay_value in omega arith

pub overflow_add-result : goal.overflow_add-result
overflow_add-result c = rw (to_z-of_z c.ranges.timepos, c.from.ensures, to_z-of_z c.ranges.delay, to_z-of_z (wide c)) (fit c)

pub returns : goal.returns
returns c =
    rw (to_z-of_z c.ranges.timepos, c.from.ensures, to_z-of_z c.ranges.delay, to_z-of_z (wide c), to_z-of_z (fit c))
