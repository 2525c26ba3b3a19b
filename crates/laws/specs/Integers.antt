-- Words for signed numbers: equality, ranges and the clamp, each a Bool that computes.
use Rattle.std.specs.Prelude.{Bool, true, false, cond, ◌&&◌, ℕ, eqb, ℤ, pos, negsuc, neg_ℤ}
use Rattle.std.specs.Int.Signed.{lt_z, le_z}

-- two numbers are equal
abbrev pub eq_z : ℤ → ℤ → Bool
eq_z (pos a) (pos b) = eqb a b
eq_z (pos a) (negsuc b) = false
eq_z (negsuc a) (pos b) = false
eq_z (negsuc a) (negsuc b) = eqb a b

-- low ≤ z ≤ high
unfoldable pub inside : ℤ → ℤ → ℤ → Bool
inside low high z = le_z low z && le_z z high

-- within ±n, both ends included
unfoldable pub sized : ℕ → ℤ → Bool
unfolding inside
sized n z = inside (neg_ℤ (pos n)) (pos n) z

-- below low gives low, otherwise above high gives high
abbrev pub range_of : ℤ → ℤ → ℤ → ℤ
range_of low v high = cond (lt_z v low) low (cond (lt_z high v) high v)

-- cut off below 0
abbrev pub cut : ℤ → ℕ
cut (pos n) = n
cut (negsuc n) = 0
