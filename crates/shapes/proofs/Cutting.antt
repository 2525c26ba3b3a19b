-- Cutting a float toward zero by its sign: below zero the whole part of -x is taken, and taken off.
use Rattle.std.proofs.Common.{◌≡◌, ℕ, ◌+◌, ◌-◌, ◌*◌, ◌/◌, ◌^◌, ◌<◌, ◌≤◌, min, true, false, T, ℤ, pos, ◌-ℤ◌, neg_ℤ, sym, ap, ◌∙◌, le_trans, le_of_eq, mul_comm, mul-lt-mul_of_pos_right, zero-mul, arith, lt→ltb, ltb-false, ltb-true}
use native.Mathlib.Nat.{div-le_of_le-mul}
use lib.IntN.{+ℤ_idl}
use lib.Ieee.{Float, nan, inf, fin, up, down, lt, neg, to_signed, to_unsigned}
use lib.Ieee.Fits.{down_pos}
use Rattle.laws.proofs.Floats.{Within}

abbrev nought : Float
nought = fin false 0 (pos 0)

-- a count, taken off
abbrev pub minus : ℕ → ℤ
minus n = pos 0 -ℤ pos n

-- the whole part of a fraction that is at most n
whole_le : (a d n : ℕ) → 0 < d → a ≤ n * d → a / d ≤ n
whole_le a d n p h = div-le_of_le-mul d (le_trans h (le_of_eq (mul_comm n d)))

-- what `truncating_f32_to_u64` asks of x, and that the number z is made by f of what it answers
pub record Whole (x : Float) (n : ℕ) (f : ℕ → ℤ) (z : ℤ) : Type 0 where
  pub above : T (lt (fin true 1 (pos 0)) x)
  pub below : T (lt x (fin false 1 (pos 64)))
  pub small : to_unsigned 64 x ≤ n
  pub is : f (to_unsigned 64 x) ≡ z

pub at-least-nought : (x : Float) (n : ℕ) → Within x n → n < 2 ^ 63 → lt x nought ≡ false → Whole x n pos (to_signed 63 x)
unfolding to_signed to_unsigned lt
at-least-nought nan n p h t = absurd p
at-least-nought (inf s) n p h t = absurd p
at-least-nought (fin false m e) n p h t =
    let d = down_pos e in
    let k : n * down e < 2 ^ 63 * down e = mul-lt-mul_of_pos_right h d in
    let q = whole_le (m * up e) (down e) n d p in
    record {
      above = lt→ltb 0 (1 * 1 * down e + m * up e * 1) (omega arith);
      below = lt→ltb (m * up e * 1) (1 * 2 ^ 64 * down e) (omega arith);
      small = omega arith;
      is = ap pos (omega arith);
    }
at-least-nought (fin true m e) n p h t =
    let d = down_pos e in
    let k = ltb-false 0 (m * up e * 1 + 0 * down e) t in
    let q = whole_le (m * up e) (down e) 0 d (omega arith) in
    let z : min (m * up e / down e) (2 ^ 63) ≡ 0 = omega arith in
    record {
      above = lt→ltb (m * up e * 1) (1 * 1 * down e) (omega arith);
      below = lt→ltb 0 (m * up e * 1 + 1 * 2 ^ 64 * down e) (omega arith);
      small = omega arith;
      is = sym (ap (λ (n : ℕ). neg_ℤ (pos n)) z);
    }

pub below-nought : (x : Float) (n : ℕ) → Within x n → n < 2 ^ 63 → lt x nought ≡ true → Whole (neg x) n minus (to_signed 63 x)
unfolding to_signed to_unsigned neg lt
below-nought nan n p h t = absurd p
below-nought (inf s) n p h t = absurd p
below-nought (fin false m e) n p h t = let k = ltb-true (m * up e * 1) (0 * down e) t in absurd (omega (arith, zero-mul (down e)))
below-nought (fin true m e) n p h t =
    let d = down_pos e in
    let k : n * down e < 2 ^ 63 * down e = mul-lt-mul_of_pos_right h d in
    let q = whole_le (m * up e) (down e) n d p in
    let z : min (m * up e / down e) (2 ^ 64 - 1) ≡ min (m * up e / down e) (2 ^ 63) = omega arith in
    record {
      above = lt→ltb 0 (1 * 1 * down e + m * up e * 1) (omega arith);
      below = lt→ltb (m * up e * 1) (1 * 2 ^ 64 * down e) (omega arith);
      small = omega arith;
      is = +ℤ_idl (neg_ℤ (pos (min (m * up e / down e) (2 ^ 64 - 1)))) ∙ ap (λ (n : ℕ). neg_ℤ (pos n)) z;
    }
