-- low + (high - low) * w / d is low's part of d and high's, so that it is no larger than the larger of the two; and what `round_away` makes of its sign.
use mathlib.Core.Path.{◌≡◌, refl, sym, ap, ◌∙◌}
use mathlib.Core.Bool.{true, false, true≢false}
use Prim.Native.Nat.{ℕ, ◌+◌, ◌*◌, ◌-◌, ◌≤◌}
use native.Mathlib.Nat.{mul-le-mul_right, mul-add}
use native.Mathlib.Omega.{arith}
use borrow.Author.Tests.{ltb-true}
use lib.Dec.{T}
use lib.Signed.{lt_z, non_neg}
use lib.IntN.{ℤ, pos, negsuc, neg_ℤ, nat_abs, ◌+ℤ◌, ◌-ℤ◌, ◌*ℤ◌, +ℤ_assoc, +ℤ_comm, -ℤ-+ℤ_cancel}
use Rattle.laws.proofs.Sizes.{abs-add, abs-mul, sum-times, times-sum}
use Rattle.sines.specs.Sine.{mix_of, nearest, round_away}

-- ---- the mix: low's part of d and high's
pub parts : (low high : ℤ) (w v : ℕ) → mix_of low high w (v + w) ≡ low *ℤ pos v +ℤ high *ℤ pos w
parts low high w v =
    ap (λ (z : ℤ). z +ℤ (high -ℤ low) *ℤ pos w) (times-sum low v w)
    ∙ +ℤ_assoc (low *ℤ pos v) (low *ℤ pos w) ((high -ℤ low) *ℤ pos w)
    ∙ ap (λ (z : ℤ). low *ℤ pos v +ℤ z) (sym (sum-times low (high -ℤ low) w) ∙ ap (λ (z : ℤ). z *ℤ pos w) (+ℤ_comm low (high -ℤ low) ∙ -ℤ-+ℤ_cancel high low))

pub mix-le : (low high : ℤ) (w d n : ℕ) → nat_abs low ≤ n → nat_abs high ≤ n → w ≤ d → nat_abs (mix_of low high w d) ≤ n * d
mix-le low high w d n p q h =
    let v = d - w in
    let e : v + w ≡ d = omega arith in
    let i : mix_of low high w d ≡ low *ℤ pos v +ℤ high *ℤ pos w = ap (mix_of low high w) (sym e) ∙ parts low high w v in
    rw i (omega (arith, e, abs-add (low *ℤ pos v) (high *ℤ pos w), abs-mul low v, abs-mul high w, mul-le-mul_right v p, mul-le-mul_right w q, mul-add n v w, ap (λ (x : ℕ). n * x) e))

-- ---- the sign that `round_away` looks at
pub round-below : (n : ℤ) (d : ℕ) → lt_z n (pos 0) ≡ true → T (non_neg (neg_ℤ n)) × (neg_ℤ (pos (nearest (nat_abs n) d)) ≡ round_away n d)
unfolding round_away
round-below (pos n) d e = let h = ltb-true n 0 e in absurd (omega arith)
round-below (negsuc n) d e = (tt, refl)

pub round-above : (n : ℤ) (d : ℕ) → lt_z n (pos 0) ≡ false → T (non_neg n) × (pos (nearest (nat_abs n) d) ≡ round_away n d)
unfolding round_away
round-above (pos n) d e = (tt, refl)
round-above (negsuc n) d e = absurd (true≢false e)
