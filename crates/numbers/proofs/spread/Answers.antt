-- The remainder and the half, read back from their bits, are the definition's; the rest are the sums of `Spreading`.
use mathlib.Core.Path.{◌≡◌, ap, ap₂, sym, ◌∙◌}
use mathlib.Core.Bool.{false}
use native.Mathlib.Omega.{arith}
use Prim.Native.Nat.{◌/◌, ◌%◌}
use lib.Dec.{lit<}
use lib.IntN.{ℤ, pos, ◌+ℤ◌}
use lib.Signed.{le_z, quot_z, rem_z}
use mir.Syntax.{w64}
use mir.Val.{SFits, to_z, of_z}
use mir.Facts.{to_z-of_z}
use Rattle.laws.specs.Integers.{cut}
use Rattle.laws.proofs.Signed.{back, le-back-l, pos-bits, quot_fits}
use Rattle.numbers.proofs.Spreading as S
use Rattle.numbers.proofs.spread.Goals as goal

module _ (c : goal.After-from) where
  up : le_z c.args.width (pos 0) ≡ false
  up = le-back-l (pos 0) c.ranges.width c.if-width-le0.false

  y-is : to_z w64 (of_z w64 c.from.result) ≡ pos c.args.y
  y-is = back {w = w64} c.from.ensures (omega arith)

  rem_read : to_z w64 (of_z w64 (rem_z (to_z w64 (of_z w64 c.from.result)) (to_z w64 (of_z w64 c.args.width)))) ≡ pos (c.args.y % cut c.args.width)
  rem_read =
      back (ap₂ rem_z y-is (to_z-of_z c.ranges.width) ∙ S.rem_is c.args.width c.args.y up) (S.rem-fits c.args.v c.args.width c.args.y c.requires.0 c.requires.1 up)

  half-read : to_z w64 (of_z w64 (quot_z (to_z w64 (of_z w64 c.args.width)) (pos 2))) ≡ pos (cut c.args.width / 2)
  half-read =
      back (ap (λ (n : ℤ). quot_z n (pos 2)) (to_z-of_z c.ranges.width) ∙ S.half_is c.args.width up) (S.half-fits c.args.v c.args.width c.args.y c.requires.0 c.requires.1 up)

  gain-fits : SFits w64 (S.gain c.args.width c.args.y)
  gain-fits = S.gain-fits c.args.v c.args.width c.args.y c.requires.0 c.requires.1 up

  sum_fits : SFits w64 (c.args.v +ℤ S.gain c.args.width c.args.y)
  sum_fits = S.sum_fits c.args.v c.args.width c.args.y c.requires.0 c.requires.1 up

pub returns-then-width-le0 : goal.returns-then-width-le0
returns-then-width-le0 c =
    to_z-of_z c.ranges.v ∙ sym (S.spread-off c.args.v c.args.width c.args.y (le-back-l (pos 0) c.ranges.width c.if-width-le0.true))

pub nonzero_rem-r : goal.nonzero_rem-r
nonzero_rem-r c =
    (pos-bits w64 c.args.width (up c), rw (y-is c, to_z-of_z c.ranges.width) (quot_fits (pos c.args.y) c.args.width (up c) (omega arith)))

pub nonzero_div-r : goal.nonzero_div-r
nonzero_div-r c =
    (lit< tt, rw (to_z-of_z c.ranges.width, S.half_is c.args.width (up c)) (S.half-fits c.args.v c.args.width c.args.y c.requires.0 c.requires.1 (up c)))

pub overflow_sub-r : goal.overflow_sub-r
overflow_sub-r c = rw (rem_read c, half-read c) (gain-fits c)

pub overflow_add-result : goal.overflow_add-result
overflow_add-result c = rw (rem_read c, half-read c, to_z-of_z (gain-fits c), to_z-of_z c.ranges.v) (sum_fits c)

pub returns-else-width-le0 : goal.returns-else-width-le0
returns-else-width-le0 c =
    rw (rem_read c, half-read c, to_z-of_z (gain-fits c), to_z-of_z c.ranges.v, to_z-of_z (sum_fits c)) (sym (S.spread-on c.args.v c.args.width c.args.y (up c)))
