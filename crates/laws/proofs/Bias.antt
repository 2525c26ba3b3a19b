-- Signed numbers for omega, which reads none: `lift z` is z moved up by 2^64, a natural number for every z of 64 bits.
--     lt-false   not less
--     lift-sub   a difference
use mathlib.Core.Path.{◌≡◌}
use mathlib.Core.Bool.{true, false, true≢false}
use mathlib.Core.Logic.{⊎_elim}
use Prim.Native.Nat.{ℕ, zero, suc, ◌+◌, ◌-◌, ◌^◌, ◌≤◌, ◌<◌}
use native.Mathlib.Omega.{arith}
use lib.Dec.{ltb}
use borrow.Author.Tests.{ltb-true, ltb-false}
use lib.IntN.{ℤ, pos, negsuc, neg_ℤ, sub_ℕ, ◌+ℤ◌, ◌-ℤ◌}
use lib.Signed.{mag, lt_z}
use Rattle.laws.proofs.Bools.{which}
use Rattle.laws.proofs.Signed.{mag-neg}

abbrev pub lift : ℤ → ℕ
lift (pos n) = 2 ^ 64 + n
lift (negsuc n) = 2 ^ 64 - suc n

pub lt-false : (a b : ℤ) → mag a < 2 ^ 64 → mag b < 2 ^ 64 → lt_z a b ≡ false → lift b ≤ lift a
lt-false (pos a) (pos b) h k e = omega (arith, ltb-false a b e)
lt-false (pos a) (negsuc b) h k e = omega arith
lt-false (negsuc a) (pos b) h k e = absurd (true≢false e)
lt-false (negsuc a) (negsuc b) h k e = omega (arith, ltb-false b a e)

down : (a b : ℕ) → b < 2 ^ 64 + a → lift (sub_ℕ a b) + b ≡ 2 ^ 64 + a
down a b h =
    ⊎_elim
    (λ t. let k = ltb-true a b t in rw t (omega arith))
    (λ t. let k = ltb-false a b t in rw t (omega arith))
    (which (ltb a b))

sum : (a b : ℤ) → mag a + mag b < 2 ^ 64 - 1 → lift (a +ℤ b) + 2 ^ 64 ≡ lift a + lift b
sum (pos a) (pos b) h = omega arith
sum (pos a) (negsuc b) h = omega (arith, down a (suc b) (omega arith))
sum (negsuc a) (pos b) h = omega (arith, down b (suc a) (omega arith))
sum (negsuc a) (negsuc b) h = omega arith

opposite : (a : ℤ) → mag a < 2 ^ 64 - 1 → lift (neg_ℤ a) + lift a ≡ 2 ^ 65
opposite (pos zero) h = omega arith
opposite (pos (suc a)) h = omega arith
opposite (negsuc a) h = omega arith

pub lift-sub : (a b : ℤ) → mag a < 2 ^ 62 → mag b < 2 ^ 62 → lift (a -ℤ b) + lift b ≡ lift a + 2 ^ 64
lift-sub a b h k =
    let m = mag-neg b in
    omega (arith, sum a (neg_ℤ b) (omega arith), opposite b (omega arith))
