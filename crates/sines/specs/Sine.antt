-- 01, "Sine": the value of a sine at position p of length len. Everything up to the last rounding is an exact fraction: a sine or cosine is a number over top * len,
-- the share of `high` a number over 2 * top * len.
use Rattle.std.specs.Prelude.{cond, ℕ, suc, ◌+◌, ◌-◌, ◌*◌, ◌/◌, ◌%◌, eqb, ℤ, pos, negsuc, neg_ℤ, ◌+ℤ◌, ◌-ℤ◌, ◌*ℤ◌}
use Rattle.sines.specs.Table.{top, entry}
use Rattle.sines.specs.declared.SineType.{SineType}
use Rattle.sines.specs.declared.SineType.TheVariants.{Sine, UpSine, DownSine}

-- "straight line between the neighbouring entries as an exact fraction": the sine at q of len of a quarter
unfoldable pub sin_of : ℕ → ℕ → ℕ
sin_of q len = entry (q * 1024 / len) * (len - q * 1024 % len) + entry (q * 1024 / len + 1) * (q * 1024 % len)

-- "extended to cosine": the same from the other end
abbrev pub cos_of : ℕ → ℕ → ℕ
cos_of q len = sin_of (len - q) len

-- "and four quarters by symmetry": 1 - cos at r of len of the quarter t
unfoldable pub lift_in : ℕ → ℕ → ℕ → ℕ
lift_in t r len =
    cond (eqb t 0) (top * len - cos_of r len)
    (cond (eqb t 1) (top * len + sin_of r len)
    (cond (eqb t 2) (top * len + cos_of r len)
    (top * len - sin_of r len)))

-- 1 - cos at p of len of a full turn
abbrev pub lift_of : ℕ → ℕ → ℕ
lift_of p len = lift_in (4 * p / len) (4 * p % len) len

-- how much of high - low is added to low: "(1-cos)/2 over a full turn", "sin" and "cos" "over a quarter"
unfoldable pub share_of : SineType → ℕ → ℕ → ℕ
share_of Sine p len = lift_of p len
share_of UpSine p len = 2 * sin_of p len
share_of DownSine p len = 2 * cos_of p len

-- "round halves away from zero": n over d
abbrev pub nearest : ℕ → ℕ → ℕ
nearest n d = (2 * n + d) / (2 * d)

unfoldable pub round_away : ℤ → ℕ → ℤ
round_away (pos n) d = pos (nearest n d)
round_away (negsuc n) d = neg_ℤ (pos (nearest (suc n) d))

-- low + (high - low) * w / d, over d
abbrev pub mix_of : ℤ → ℤ → ℕ → ℕ → ℤ
mix_of low high w d = low *ℤ pos d +ℤ (high -ℤ low) *ℤ pos w

unfoldable pub sine_of : SineType → ℤ → ℤ → ℕ → ℕ → ℤ
sine_of stype low high p len = round_away (mix_of low high (share_of stype p len) (2 * (top * len))) (2 * (top * len))
