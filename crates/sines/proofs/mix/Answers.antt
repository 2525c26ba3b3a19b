-- Each step fits 64 bits, so that what the code reads back is what the definition says; the size of the sum is the law `mix-le`.
use mathlib.Core.Path.{◌≡◌, refl}
use Prim.Native.Nat.{◌*◌, ◌≤◌, ◌^◌}
use native.Mathlib.Nat.{mul-le-mul_right}
use native.Mathlib.Omega.{arith}
use lib.IntN.{pos, nat_abs, ◌-ℤ◌, ◌*ℤ◌}
use mir.Syntax.{w64}
use mir.Val.{SFits, to_z}
use mir.Facts.{to_z-of_z, to_z_pos}
use Rattle.laws.proofs.Sizes.{abs-fits, abs-sub, abs-mul}
use Rattle.sines.specs.Sine.{mix_of}
use Rattle.sines.proofs.Mixing.{mix-le}
use Rattle.sines.proofs.mix.Goals as goal

module _ (c : goal.Start) where
  w-is : to_z w64 c.args.w ≡ pos c.args.w
  w-is = to_z_pos w64 (omega arith)

  d-is : to_z w64 c.args.d ≡ pos c.args.d
  d-is = to_z_pos w64 (omega arith)

  low_fits : SFits w64 (c.args.low *ℤ pos c.args.d)
  low_fits = abs-fits _ (omega (arith, abs-mul c.args.low c.args.d, mul-le-mul_right c.args.d c.requires.0))

  span-le : nat_abs (c.args.high -ℤ c.args.low) ≤ 2 ^ 15
  span-le = omega (arith, abs-sub c.args.high c.args.low)

  span_fits : SFits w64 (c.args.high -ℤ c.args.low)
  span_fits = abs-fits _ (omega (arith, span-le))

  gone-fits : SFits w64 ((c.args.high -ℤ c.args.low) *ℤ pos c.args.w)
  gone-fits = abs-fits _ (omega (arith, abs-mul (c.args.high -ℤ c.args.low) c.args.w, mul-le-mul_right c.args.w span-le))

  small : nat_abs (mix_of c.args.low c.args.high c.args.w c.args.d) ≤ 2 ^ 14 * c.args.d
  small = mix-le c.args.low c.args.high c.args.w c.args.d (2 ^ 14) c.requires.0 c.requires.1 c.requires.2

  mix-fits : SFits w64 (mix_of c.args.low c.args.high c.args.w c.args.d)
  mix-fits = abs-fits _ (omega (arith, small))

pub overflow_mul-result : goal.overflow_mul-result
overflow_mul-result c = rw (to_z-of_z c.ranges.low, d-is c) (low_fits c)

pub overflow_sub-result : goal.overflow_sub-result
overflow_sub-result c = rw (to_z-of_z c.ranges.high, to_z-of_z c.ranges.low) (span_fits c)

pub overflow_mul-result-2 : goal.overflow_mul-result-2
overflow_mul-result-2 c = rw (to_z-of_z c.ranges.high, to_z-of_z c.ranges.low, to_z-of_z (span_fits c), w-is c) (gone-fits c)

pub overflow_add-result : goal.overflow_add-result
overflow_add-result c =
    rw (to_z-of_z c.ranges.high, to_z-of_z c.ranges.low, d-is c, w-is c, to_z-of_z (low_fits c), to_z-of_z (span_fits c), to_z-of_z (gone-fits c)) (mix-fits c)

pub returns : goal.returns
returns c =
    rw
    (to_z-of_z c.ranges.high, to_z-of_z c.ranges.low, d-is c, w-is c, to_z-of_z (low_fits c), to_z-of_z (span_fits c), to_z-of_z (gone-fits c), to_z-of_z (mix-fits c))
    (refl, small c)
