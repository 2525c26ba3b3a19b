-- Limits.
--     range_size    a number in a range is no larger than it was, or than an end
--     range_inside  it lies in the range, where that is not upside down
--     never-above   a limited value is never above the maximum
--     limited-inside   it lies in the range where there is no maximum
use mathlib.Core.Path.{◌≡◌, refl}
use mathlib.Core.Bool.{Bool, true, false, cond, ◌&&◌}
use Prim.Native.Nat.{ℕ, ◌<◌}
use native.Mathlib.Nat.{le_refl}
use borrow.Author.Tests.{le-leb, ltb-false, eq-eqb, ne_eqb}
use lib.IntN.{ℤ, pos, negsuc}
use lib.Signed.{mag, lt_z, le_z}
use mathlib.Core.Bool.{true≢false}
use Rattle.laws.specs.Integers.{range_of, inside}
use Rattle.params.specs.declared.NoteParam.{NoteParam}
use Rattle.std.proofs.Common.{Some}
use Rattle.params.specs.Param.{under_max, in_range, range_for, limited}

either : (b : Bool) (x y : ℤ) (n : ℕ) → mag x < n → mag y < n → mag (cond b x y) < n
either true x y n h k = h
either false x y n h k = k

pub range_size : (low v high : ℤ) (n : ℕ) → mag low < n → mag v < n → mag high < n → mag (range_of low v high) < n
range_size low v high n h k l = either (lt_z v low) low (cond (lt_z high v) high v) n h (either (lt_z high v) high v n l k)

-- ---- orders
le-self : (z : ℤ) → le_z z z ≡ true
le-self (pos n) = le-leb n n (le_refl n)
le-self (negsuc n) = le-leb n n (le_refl n)

not-less : (a b : ℤ) → lt_z a b ≡ false → le_z b a ≡ true
not-less (pos a) (pos b) e = le-leb b a (ltb-false a b e)
not-less (pos a) (negsuc b) e = refl
not-less (negsuc a) (pos b) e = absurd (true≢false e)
not-less (negsuc a) (negsuc b) e = le-leb a b (ltb-false b a e)

both_hold : {a b : Bool} → a ≡ true → b ≡ true → (a && b) ≡ true
both_hold p q = rw (p, q)

-- ---- the range
pub range_inside : (low v high : ℤ) → le_z low high ≡ true → inside low high (range_of low v high) ≡ true
unfolding inside
range_inside low v high h = below (lt_z v low) refl
  where
    above : (b : Bool) → lt_z high v ≡ b → lt_z v low ≡ false → (le_z low (cond b high v) && le_z (cond b high v) high) ≡ true
    above true e f = both_hold h (le-self high)
    above false e f = both_hold (not-less v low f) (not-less high v e)

    below : (b : Bool) → lt_z v low ≡ b → (le_z low (cond b low (cond (lt_z high v) high v)) && le_z (cond b low (cond (lt_z high v) high v)) high) ≡ true
    below true e = both_hold (le-self low) h
    below false e = above (lt_z high v) refl e

-- ---- the maximum
under : (top v : ℤ) → le_z (under_max (Some top) v) top ≡ true
under top v = go (lt_z top v) refl
  where
    go : (b : Bool) → lt_z top v ≡ b → le_z (cond b top v) top ≡ true
    go true e = le-self top
    go false e = not-less top v e

module _ (a : NoteParam) (v : ℤ) where
  pub never-above : (a.maxed ≡ 0 → ⊥) → le_z (limited a v) a.max ≡ true
  unfolding limited
  never-above h = rw (ne_eqb a.maxed 0 h) (under a.max (in_range (range_for a) v))

  pub limited-inside : a.maxed ≡ 0 → (a.ranged ≡ 0 → ⊥) → le_z a.low a.high ≡ true → inside a.low a.high (limited a v) ≡ true
  unfolding limited
  limited-inside m r h = rw (eq-eqb a.maxed 0 m, ne_eqb a.ranged 0 r) (range_inside a.low v a.high h)
