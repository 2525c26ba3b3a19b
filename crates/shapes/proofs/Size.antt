-- How large a curve's value can get, from its definition alone: at most |high - low| + |low|, where that sum and the length are at most 2^24, up to which
-- an f32 counts without a gap. So the value fits every sum that is made of it later.
use Rattle.std.proofs.Common.{ℕ, ◌+◌, ◌^◌, ◌<◌, ◌≤◌, false, ℤ, pos, ◌-ℤ◌, nat_abs, le_trans, mul-one, arith, lit≤}
use lib.Signed.{mag}
use lib.Ieee.{Float, binary32, of_int, div, mul}
use lib.Ieee.Exact.{HasValue}
use lib.Ieee.Back.{round_whole}
use Rattle.laws.proofs.Signed.{mag-sub, nat_abs_le}
use Rattle.laws.proofs.Floats.{Within, of_int-within, mul-within, add-within, div-within, to_signed-within}
use Rattle.shapes.specs.Curve.{curve_f, curve_of}

-- a count up to 2^24 is an f32 exactly
pub whole : (n : ℕ) → n ≤ 2 ^ 24 → HasValue (of_int binary32 (pos n)) false n 1
unfolding of_int
whole n h = round_whole binary32 false n h

-- the part of the way that lies behind a step
abbrev pub part : ℕ → ℕ → Float
part j len = div binary32 (of_int binary32 (pos j)) (of_int binary32 (pos len))

module _ (low high : ℤ) (j len : ℕ) (h : nat_abs (high -ℤ low) + nat_abs low ≤ 2 ^ 24) (k : j ≤ len) (p : 0 < len) (l : len ≤ 2 ^ 24) where
  gone : Within (mul binary32 (of_int binary32 (high -ℤ low)) (part j len)) (nat_abs (high -ℤ low))
  gone =
      let d = nat_abs (high -ℤ low) in
      let q = div-within binary32 (of_int binary32 (pos j)) (of_int binary32 (pos len)) j len (whole j (le_trans k l)) (whole len l) k p (lit≤ tt) in
      rw (mul-one d) at
      (mul-within binary32 (of_int binary32 (high -ℤ low)) (part j len) d 1 (of_int-within binary32 (high -ℤ low) (omega arith)) q (rw (mul-one d) (omega arith)))

  pub curve-within : Within (curve_f low high j len) (nat_abs (high -ℤ low) + nat_abs low)
  unfolding curve_f
  curve-within =
      add-within binary32 (mul binary32 (of_int binary32 (high -ℤ low)) (part j len)) (of_int binary32 low) (nat_abs (high -ℤ low)) (nat_abs low) gone
      (of_int-within binary32 low (omega arith)) h

  pub curve-mag : mag (curve_of low high j len) ≤ nat_abs (high -ℤ low) + nat_abs low
  unfolding curve_of
  curve-mag = to_signed-within 63 (curve_f low high j len) (nat_abs (high -ℤ low) + nat_abs low) curve-within

-- ends within ±2^22 are enough
pub room : (low high : ℤ) → mag low ≤ 2 ^ 22 → mag high ≤ 2 ^ 22 → nat_abs (high -ℤ low) + nat_abs low ≤ 2 ^ 24
room low high h k = omega (arith, nat_abs_le (high -ℤ low), nat_abs_le low, mag-sub high low)
