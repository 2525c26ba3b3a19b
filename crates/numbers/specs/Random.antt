-- 01, "Random": the seed's step, and what a random width adds to a value.
use Rattle.std.specs.Prelude.{cond, ℕ, ◌*◌, ◌/◌, ◌%◌, ◌^◌, ℤ, pos, ◌+ℤ◌, ◌-ℤ◌}
use Rattle.std.specs.Int.Bits.{bit_xor}
use Rattle.std.specs.Int.Signed.{le_z}
use Rattle.laws.specs.Integers.{cut}

-- y ^= y<<k on 32 bits, the left shift dropping high bits
abbrev pub left : ℕ → ℕ → ℕ
left k y = bit_xor y (y * 2 ^ k % 2 ^ 32)

-- y ^= y>>k
abbrev pub right : ℕ → ℕ → ℕ
right k y = bit_xor y (y / 2 ^ k)

abbrev pub next_rand : ℕ → ℕ
next_rand y = left 5 (right 17 (left 13 y))

-- with random n > 0 the value gains (y mod n) - n/2, n halved downwards
unfoldable pub spread : ℤ → ℤ → ℕ → ℤ
spread v n y = cond (le_z n (pos 0)) v (v +ℤ (pos (y % cut n) -ℤ pos (cut n / 2)))

-- the seed steps only where there is random
abbrev pub seed_after : ℤ → ℕ → ℕ
seed_after n y = cond (le_z n (pos 0)) y (next_rand y)
