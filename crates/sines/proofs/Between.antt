-- The value of a sine lies between its ends, both included, whichever of the two is the lower: low + (high - low) * w / d grows with w, from low at 0 to high at d, and rounding
-- keeps the order. So it is no larger in size than they are.
use mathlib.Core.Path.{◌≡◌, refl, sym, ap, subst, ◌∙◌}
use mathlib.Core.Bool.{Bool, true, false, cond, true≢false}
use Prim.Native.Nat.{ℕ, suc, ◌+◌, ◌*◌, ◌-◌, ◌/◌, ◌%◌, ◌≤◌, ◌<◌}
use native.Mathlib.Nat.{le_of_lt, mod-lt, mul-le-mul_right}
use native.Mathlib.Omega.{arith}
use native.Mathlib.Decide.{dec_lt}
use borrow.Author.Tests.{le-leb, leb-true}
use lib.Dec.{eqb}
use lib.Ieee.Nearest.{div_mono}
use lib.IntN.{ℤ, pos, negsuc, nat_abs, ◌+ℤ◌, ◌-ℤ◌, ◌*ℤ◌, +ℤ_assoc, +ℤ_comm}
use lib.Signed.{mag, le_z, pos-nat_abs}
use Rattle.laws.specs.Integers.{inside}
use Rattle.laws.proofs.Sizes.{times-sum}
use Rattle.laws.proofs.Ends.{neg-pos, neg-neg, gap, grows, total, mag-inside}
use Rattle.sines.specs.Table.{top, entry}
use Rattle.sines.specs.Sine.{sin_of, lift_in, share_of, nearest, round_away, mix_of, sine_of}
use Rattle.sines.specs.declared.SineType.{SineType}
use Rattle.sines.specs.declared.SineType.TheVariants.{Sine, UpSine, DownSine}
use Rattle.sines.proofs.Rules.{entry-le}
use Rattle.sines.proofs.Line.{place, place-next, on-entry, line-le}
use Rattle.sines.proofs.Mixing.{parts}
use Rattle.sines.proofs.Start.{round_whole, whole}

-- ---- the share is at most the whole
sin-le : (q len : ℕ) → 0 < len → q ≤ len → sin_of q len ≤ top * len
unfolding sin_of
sin-le q len p h =
    elim (dec_lt 0 (q * 1024 % len)) [
      | yes r ↦
          line-le (entry (q * 1024 / len)) (entry (q * 1024 / len + 1)) (q * 1024 % len) len (entry-le (q * 1024 / len) (place q len h))
          (entry-le (q * 1024 / len + 1) (omega (arith, place-next q len h (λ z. omega arith)))) (le_of_lt (mod-lt (q * 1024) p))
      | no r ↦
          subst (λ (n : ℕ). n ≤ top * len) (on-entry q len {a = entry (q * 1024 / len)} (omega arith) refl)
          (mul-le-mul_right len (entry-le (q * 1024 / len) (place q len h)))
    ]

cond-le : (t : Bool) (a b n : ℕ) → a ≤ n → b ≤ n → cond t a b ≤ n
cond-le true a b n h k = h
cond-le false a b n h k = k

lift-le : (t r len : ℕ) → 0 < len → r ≤ len → lift_in t r len ≤ 2 * (top * len)
unfolding lift_in
lift-le t r len p h =
    let s = sin-le r len p h in
    let c = sin-le (len - r) len p (omega arith) in
    cond-le (eqb t 0) _ _ _ (omega arith) (cond-le (eqb t 1) _ _ _ (omega arith) (cond-le (eqb t 2) _ _ _ (omega arith) (omega arith)))

pub share-le : (stype : SineType) (p len : ℕ) → p < len → share_of stype p len ≤ 2 * (top * len)
unfolding share_of
share-le Sine p len h = let l : 0 < len = omega arith in lift-le (4 * p / len) (4 * p % len) len l (le_of_lt (mod-lt (4 * p) l))
share-le UpSine p len h = omega (arith, sin-le p len (omega arith) (omega arith))
share-le DownSine p len h = omega (arith, sin-le (len - p) len (omega arith) (omega arith))

-- ---- rounding keeps the order
nearest-mono : (a b d : ℕ) → 0 < d → a ≤ b → nearest a d ≤ nearest b d
nearest-mono a b d p h = div_mono (2 * a + d) (2 * d) (2 * b + d) (2 * d) (omega arith) (omega arith) (mul-le-mul_right (2 * d) (omega arith))

round_mono : (a b : ℤ) (d : ℕ) → 0 < d → le_z a b ≡ true → le_z (round_away a d) (round_away b d) ≡ true
unfolding round_away
round_mono (pos a) (pos b) d p e = le-leb (nearest a d) (nearest b d) (nearest-mono a b d p (leb-true a b e))
round_mono (pos a) (negsuc b) d p e = absurd (true≢false (sym e))
round_mono (negsuc a) (pos b) d p e = neg-pos (nearest (suc a) d) (nearest b d)
round_mono (negsuc a) (negsuc b) d p e =
    let h = leb-true b a e in neg-neg (nearest (suc a) d) (nearest (suc b) d) (nearest-mono (suc b) (suc a) d p (omega arith))

-- ---- the mix of two numbers in order
module _ (a b : ℤ) (w d : ℕ) (e : le_z a b ≡ true) (h : w ≤ d) (p : 0 < d) where
  far : ℕ
  far = nat_abs (b -ℤ a)

  by_count : (n : ℕ) → (b -ℤ a) *ℤ pos n ≡ pos (far * n)
  unfolding far
  by_count n = ap (λ (z : ℤ). z *ℤ pos n) (sym (pos-nat_abs (b -ℤ a) (gap a b e)))

  above_low : le_z (a *ℤ pos d) (mix_of a b w d) ≡ true
  above_low = rw (by_count w) (grows (a *ℤ pos d) (far * w))

  to_high : mix_of a b w d +ℤ pos (far * (d - w)) ≡ b *ℤ pos d
  to_high =
      let l : w + (d - w) ≡ d = omega arith in
      ap (λ (z : ℤ). mix_of a b w d +ℤ z) (sym (by_count (d - w)))
      ∙ +ℤ_assoc (a *ℤ pos d) ((b -ℤ a) *ℤ pos w) ((b -ℤ a) *ℤ pos (d - w))
      ∙ ap (λ (z : ℤ). a *ℤ pos d +ℤ z) (sym (times-sum (b -ℤ a) w (d - w)) ∙ ap (λ (n : ℕ). (b -ℤ a) *ℤ pos n) l)
      ∙ whole a b d

  below-high : le_z (mix_of a b w d) (b *ℤ pos d) ≡ true
  below-high = subst (λ (z : ℤ). le_z (mix_of a b w d) z ≡ true) to_high (grows (mix_of a b w d) (far * (d - w)))

  rounded-inside : inside a b (round_away (mix_of a b w d) d) ≡ true
  unfolding inside
  rounded-inside =
      let l = subst (λ (z : ℤ). le_z z (round_away (mix_of a b w d) d) ≡ true) (round_whole a d p) (round_mono (a *ℤ pos d) (mix_of a b w d) d p above_low) in
      let u = subst (λ (z : ℤ). le_z (round_away (mix_of a b w d) d) z ≡ true) (round_whole b d p) (round_mono (mix_of a b w d) (b *ℤ pos d) d p below-high) in
      rw (l, u) refl

-- the mix from the other end
turned : (a b : ℤ) (w d : ℕ) → w ≤ d → mix_of b a (d - w) d ≡ mix_of a b w d
turned a b w d h =
    let l : w + (d - w) ≡ d = omega arith in
    let r : d - w + w ≡ d = omega arith in
    ap (mix_of b a (d - w)) (sym l) ∙ parts b a (d - w) w ∙ +ℤ_comm (b *ℤ pos w) (a *ℤ pos (d - w)) ∙ sym (ap (mix_of a b w) (sym r) ∙ parts a b w (d - w))

-- ---- the sine
module _ (stype : SineType) (low high : ℤ) (p len : ℕ) (h : p < len) where
  pub sine-inside : le_z low high ≡ true → inside low high (sine_of stype low high p len) ≡ true
  unfolding sine_of
  sine-inside e = rounded-inside low high (share_of stype p len) (2 * (top * len)) e (share-le stype p len h) (omega arith)

  pub sine-inside-down : le_z high low ≡ true → inside high low (sine_of stype low high p len) ≡ true
  unfolding sine_of
  sine-inside-down e =
      let d = 2 * (top * len) in
      let w = share_of stype p len in
      let k = share-le stype p len h in
      subst (λ (z : ℤ). inside high low (round_away z d) ≡ true) (turned low high w d k) (rounded-inside high low (d - w) d e (omega arith) (omega arith))

-- ---- so it is no larger than the ends
pub sine-mag : (stype : SineType) (low high : ℤ) (p len n : ℕ) → p < len → mag low ≤ n → mag high ≤ n → mag (sine_of stype low high p len) ≤ n
sine-mag stype low high p len n h l k = go (le_z low high) refl
  where
    go : (t : Bool) → le_z low high ≡ t → mag (sine_of stype low high p len) ≤ n
    go true e = mag-inside low high (sine_of stype low high p len) n (sine-inside stype low high p len h e) l k
    go false e = mag-inside high low (sine_of stype low high p len) n (sine-inside-down stype low high p len h (total low high e)) k l
