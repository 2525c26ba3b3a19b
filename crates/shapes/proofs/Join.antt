-- From what the four conversions ensure to the definition.
use Rattle.std.proofs.Common.{◌≡◌, ℕ, ℤ, pos, ◌-ℤ◌}
use lib.Ieee.{Float, binary32, add, mul, div, of_int}
use Rattle.shapes.specs.Curve.{curve_f}

pub join : (low high : ℤ) (j len : ℕ) {s a b l : Float} → s ≡ of_int binary32 (high -ℤ low) → a ≡ of_int binary32 (pos j) → b ≡ of_int binary32 (pos len)
    → l ≡ of_int binary32 low → add binary32 (mul binary32 s (div binary32 a b)) l ≡ curve_f low high j len
unfolding curve_f
join low high j len p q r s = cc
