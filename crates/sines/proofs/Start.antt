-- Where a sine starts: the full turn and the rising quarter at low, the falling one at high, whatever the ends and the length are.
use mathlib.Core.Path.{◌≡◌, refl, sym, ap, ◌∙◌}
use Prim.Native.Nat.{ℕ, zero, suc, ◌+◌, ◌*◌, ◌<◌}
use native.Mathlib.Nat.{zero-mul, zero-add, add-mul, mul-pos, mul_left_comm, sub-zero, sub_self, zero-div, zero-mod, zero-lt-suc, not-suc-le-zero, mul-mod_right, mul-div_cancel_left, div-eq_of_lt-le}
use native.Mathlib.Omega.{arith}
use lib.IntN.{ℤ, pos, negsuc, neg_ℤ, ◌+ℤ◌, ◌-ℤ◌, ◌*ℤ◌, *ℤ-zero, +ℤ_idl, +ℤ_idr}
use Rattle.sines.specs.Table.{top, entry}
use Rattle.sines.specs.Sine.{sin_of, lift_in, lift_of, share_of, nearest, round_away, mix_of, sine_of}
use Rattle.sines.specs.declared.SineType.TheVariants.{Sine, UpSine, DownSine}
use Rattle.sines.proofs.Rules.{first, last}
use Rattle.sines.proofs.Line.{on-entry}
use Rattle.sines.proofs.Mixing.{parts}

-- ---- the ends of a quarter
sin-first : (len : ℕ) → sin_of 0 len ≡ 0
sin-first len = sym (on-entry 0 len (zero-mod len) (sym first ∙ ap entry (sym (zero-div len)))) ∙ zero-mul len

sin-last : (len : ℕ) → 0 < len → sin_of len len ≡ top * len
sin-last len h = sym (on-entry len len (mul-mod_right len 1024) (sym last ∙ ap entry (sym (mul-div_cancel_left 1024 h))))

-- ---- a quotient without a rest is itself
nearest-whole : (n d : ℕ) → 0 < d → nearest (n * d) d ≡ n
nearest-whole n d h =
    let e = mul_left_comm n 2 d in
    div-eq_of_lt-le {k = n} (2 * d) {m = 2 * (n * d) + d} (omega (arith, e)) (omega (arith, e, add-mul n 1 (2 * d)))

round-below-nought : (m d : ℕ) → 0 < m → round_away (neg_ℤ (pos m)) d ≡ neg_ℤ (pos (nearest m d))
unfolding round_away
round-below-nought zero d h = absurd (not-suc-le-zero h)
round-below-nought (suc m) d h = refl

pub round_whole : (z : ℤ) (d : ℕ) → 0 < d → round_away (z *ℤ pos d) d ≡ z
unfolding round_away
round_whole (pos n) d h = ap pos (nearest-whole n d h)
round_whole (negsuc n) d h =
    round-below-nought (suc n * d) d (mul-pos (zero-lt-suc n) h) ∙ ap (λ (m : ℕ). neg_ℤ (pos m)) (nearest-whole (suc n) d h)

-- ---- none of the way, and all of it
none : (low high : ℤ) (d : ℕ) → mix_of low high 0 d ≡ low *ℤ pos d
none low high d = ap (λ (z : ℤ). low *ℤ pos d +ℤ z) (*ℤ-zero (high -ℤ low)) ∙ +ℤ_idr (low *ℤ pos d)

pub whole : (low high : ℤ) (d : ℕ) → mix_of low high d d ≡ high *ℤ pos d
whole low high d =
    ap (mix_of low high d) (sym (zero-add d)) ∙ parts low high d 0 ∙ ap (λ (z : ℤ). z +ℤ high *ℤ pos d) (*ℤ-zero low) ∙ +ℤ_idl (high *ℤ pos d)

module _ (low high : ℤ) (len : ℕ) (h : 0 < len) where
  d-pos : 0 < 2 * (top * len)
  d-pos = omega arith

  pub up_start : sine_of UpSine low high 0 len ≡ low
  unfolding sine_of share_of
  up_start = rw (sin-first len, none low high (2 * (top * len))) (round_whole low (2 * (top * len)) d-pos)

  pub down-start : sine_of DownSine low high 0 len ≡ high
  unfolding sine_of share_of
  down-start = rw (sub-zero len, sin-last len h, whole low high (2 * (top * len))) (round_whole high (2 * (top * len)) d-pos)

  lift-first : lift_of 0 len ≡ 0
  unfolding lift_in
  lift-first = simp (zero-div, zero-mod, sub-zero, sin-last len h, sub_self)

  pub turn-start : sine_of Sine low high 0 len ≡ low
  unfolding sine_of share_of
  turn-start = rw (lift-first, none low high (2 * (top * len))) (round_whole low (2 * (top * len)) d-pos)
