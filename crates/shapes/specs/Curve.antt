-- 01, "On-time curves": the value of a curve at a step. A float is one of the logic's own binary32 values.
use Rattle.std.specs.Prelude.{ℕ, ℤ, pos, ◌-ℤ◌, Float}
use Rattle.std.specs.Float.{binary32}
use Rattle.std.specs.Float.Ieee.{add, mul, div, of_int, to_signed}

-- "(high - low) * (j / length) + low in f32, each operation rounded once"
unfoldable pub curve_f : ℤ → ℤ → ℕ → ℕ → Float
unfolding add mul div of_int
curve_f low high j len =
    add binary32
    (mul binary32 (of_int binary32 (high -ℤ low)) (div binary32 (of_int binary32 (pos j)) (of_int binary32 (pos len))))
    (of_int binary32 low)

-- "cut toward zero"
unfoldable pub curve_of : ℤ → ℤ → ℕ → ℕ → ℤ
unfolding curve_f to_signed
curve_of low high j len = to_signed 63 (curve_f low high j len)
