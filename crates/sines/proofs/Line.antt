-- The straight line between two neighbouring entries, and the last quotient.
use mathlib.Core.Path.{◌≡◌}
use Prim.Native.Nat.{ℕ, ◌+◌, ◌*◌, ◌-◌, ◌/◌, ◌%◌, ◌^◌, ◌≤◌, ◌<◌}
use native.Mathlib.Nat.{div-le_of_le-mul, mul-le-mul_right, div-add-mod', div-lt_iff_lt-mul, sub-zero, mul-zero, add-zero}
use native.Mathlib.Omega.{arith}
use native.Mathlib.Decide.{dec_lt}
use Rattle.sines.specs.Table.{top, entry}
use Rattle.sines.specs.Sine.{sin_of, nearest}

-- the entry before q of len; where q lies past it, it has a next
pub place : (q len : ℕ) → q ≤ len → q * 1024 / len ≤ 1024
place q len h = div-le_of_le-mul len (omega arith)

pub place-next : (q len : ℕ) → q ≤ len → (q * 1024 % len ≡ 0 → ⊥) → q * 1024 / len < 1024
place-next q len h n =
    elim (dec_lt (q * 1024 / len) 1024) [
      | yes p ↦ p
      | no p ↦
          let k : 1024 ≤ q * 1024 / len = omega arith in
          absurd (n (omega (arith, div-add-mod' (q * 1024) len, mul-le-mul_right len k)))
    ]

pub on-entry : (q len : ℕ) {a : ℕ} → q * 1024 % len ≡ 0 → a ≡ entry (q * 1024 / len) → a * len ≡ sin_of q len
unfolding sin_of
on-entry q len z e = simp (z, e, sub-zero, mul-zero, add-zero)

pub between : (q len : ℕ) {a b : ℕ} → a ≡ entry (q * 1024 / len) → b ≡ entry (q * 1024 / len + 1)
    → a * (len - q * 1024 % len) + b * (q * 1024 % len) ≡ sin_of q len
unfolding sin_of
between q len e f = rw (e, f)

-- what lies between two numbers up to the top is no higher
pub line-le : (a b r len : ℕ) → a ≤ top → b ≤ top → r ≤ len → a * (len - r) + b * r ≤ top * len
line-le a b r len p q h = omega (arith, mul-le-mul_right (len - r) p, mul-le-mul_right r q)

-- a quotient that is at most 2^14 stays so when it is rounded
pub nearest-le : (n d : ℕ) → n ≤ 2 ^ 14 * d → 0 < d → nearest n d ≤ 2 ^ 14
nearest-le n d h p =
    let q : nearest n d < 2 ^ 14 + 1 = (div-lt_iff_lt-mul {k = 2 * d} {x = 2 * n + d} {y = 2 ^ 14 + 1} (omega arith)).1 (omega arith) in
    omega arith
