-- 01, "Sine": what is proved of the table's entries. One test, computed over the whole table (`passed`), and from it a law for every index:
--     first, last   the ends are 0 and top
--     rising        each entry is below the next; so none is above top (`entry-le`)
--     squares       those of entries k and 1024 - k sum to top * top within 2 * top, as sine and cosine do
--     doubles       twice the product of entries k and 1024 - k is top times entry 2 * k within 2 * top, as the sine of the double angle
use mathlib.Core.Path.{◌≡◌, refl, ap, ◌∙◌}
use mathlib.Core.Bool.{Bool, true, ◌&&◌}
use Prim.Native.Nat.{ℕ, zero, suc, ◌+◌, ◌-◌, ◌*◌, ◌≤◌, ◌<◌}
use native.Mathlib.Nat.{not-suc-le-zero}
use native.Mathlib.Omega.{arith}
use native.Mathlib.Decide.{dec_lt}
use borrow.Author.Tests.{eqb-true, ltb-true, leb-true}
use lib.Dec.{eqb, leb, ltb}
use Rattle.laws.proofs.Ranges.{left, right}
use Rattle.sines.specs.Table.{top, quarter_table, entry, Near}

-- the test f passes at each number below n
every : ℕ → (ℕ → Bool) → Bool
every zero f = true
every (suc n) f = f n && every n f

at : (n : ℕ) (f : ℕ → Bool) → every n f ≡ true → (k : ℕ) → k < n → f k ≡ true
unfolding every
at zero f e k h = absurd (not-suc-le-zero h)
at (suc n) f e k h =
    elim (dec_lt k n) [
      | yes p ↦ at n f (right (f n) (every n f) e) k p
      | no p ↦ ap f (omega arith) ∙ left (f n) (every n f) e
    ]

near : ℕ → ℕ → Bool
near a b = leb a (b + 2 * top) && leb b (a + 2 * top)

is-near : (a b : ℕ) → near a b ≡ true → Near a b
unfolding near
is-near a b e = (
  leb-true a (b + 2 * top) (left (leb a (b + 2 * top)) (leb b (a + 2 * top)) e),
  leb-true b (a + 2 * top) (right (leb a (b + 2 * top)) (leb b (a + 2 * top)) e),
)

ends : Bool
ends = eqb (entry 0) 0 && eqb (entry 1024) top

rise : ℕ → Bool
rise k = ltb (entry k) (entry (k + 1))

square : ℕ → Bool
square k = near (entry k * entry k + entry (1024 - k) * entry (1024 - k)) (top * top)

double : ℕ → Bool
double k = near (2 * (entry k * entry (1024 - k))) (top * entry (2 * k))

test : Bool
test = (ends && every 1024 rise) && (every 1025 square && every 513 double)

-- computed over the whole table
passed : test ≡ true
unfolding test ends every near rise square double quarter_table
passed = refl

outer : (ends && every 1024 rise) ≡ true
unfolding test
outer = left (ends && every 1024 rise) (every 1025 square && every 513 double) passed

inner : (every 1025 square && every 513 double) ≡ true
unfolding test
inner = right (ends && every 1024 rise) (every 1025 square && every 513 double) passed

pub first : entry 0 ≡ 0
unfolding ends
first = eqb-true (entry 0) 0 (left (eqb (entry 0) 0) (eqb (entry 1024) top) (left ends (every 1024 rise) outer))

pub last : entry 1024 ≡ top
unfolding ends
last = eqb-true (entry 1024) top (right (eqb (entry 0) 0) (eqb (entry 1024) top) (left ends (every 1024 rise) outer))

pub rising : (k : ℕ) → k < 1024 → entry k < entry (k + 1)
unfolding rise
rising k h = ltb-true (entry k) (entry (k + 1)) (at 1024 rise (right ends (every 1024 rise) outer) k h)

pub squares : (k : ℕ) → k ≤ 1024 → Near (entry k * entry k + entry (1024 - k) * entry (1024 - k)) (top * top)
unfolding square
squares k h =
    is-near (entry k * entry k + entry (1024 - k) * entry (1024 - k)) (top * top) (at 1025 square (left (every 1025 square) (every 513 double) inner) k (omega arith))

pub doubles : (k : ℕ) → k ≤ 512 → Near (2 * (entry k * entry (1024 - k))) (top * entry (2 * k))
unfolding double
doubles k h =
    is-near (2 * (entry k * entry (1024 - k))) (top * entry (2 * k)) (at 513 double (right (every 1025 square) (every 513 double) inner) k (omega arith))

-- from the last entry down
below_last : (j k : ℕ) → k + j ≡ 1024 → entry k ≤ top
below_last zero k e = let q : k ≡ 1024 = omega arith in rw q (omega (arith, last))
below_last (suc j) k e = let n = below_last j (k + 1) (omega arith) in omega (arith, rising k (omega arith))

pub entry-le : (k : ℕ) → k ≤ 1024 → entry k ≤ top
entry-le k h = below_last (1024 - k) k (omega arith)
