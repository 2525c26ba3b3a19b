-- A record's numbers fit where the code holds them, the sum and the difference that it makes too; and a record that is
-- advanced while it is due stays within its ranges.
use mathlib.Core.Path.{◌≡◌, refl, sym, ap, ◌∙◌}
use mathlib.Core.Bool.{Bool, true, false, not, cond, ◌&&◌}
use Prim.Native.Nat.{ℕ, suc, ◌+◌, ◌-◌, ◌/◌, ◌%◌, ◌≤◌, ◌<◌, ◌^◌}
use native.Mathlib.Nat.{mod-lt, div-le_self}
use native.Mathlib.Numerals.{add-one}
use native.Mathlib.Omega.{arith}
use borrow.Author.Tests.{lt-ltb}
use mir.Syntax.{w32, w64}
use mir.Val.{SFits, Fits}
use lib.Dec.{T, ltb, not_T, leb→le}
use lib.IntN.{ℤ, pos, negsuc, neg_ℤ, nat_abs, ◌+ℤ◌, ◌-ℤ◌, +ℤ_invr, +ℤ_idl}
use lib.Signed.{mag, non_neg, le_z, lt_z, le_z_yes, lt_z_yes, lt_z_no, clash_ℤ}
use Rattle.laws.specs.Integers.{cut}
use Rattle.laws.proofs.Signed.{mag-add, mag-sub}
use Rattle.laws.proofs.Ranges.{left, sized-mag, sized-small}
use Rattle.laws.proofs.Differences.{more, swap}
use Rattle.numbers.specs.Ranges.{is_target, is_length, is_stored_time, is_time}
use Rattle.counted.specs.Numbers.{ok_numbers}
use Rattle.cycles.specs.declared.Cycle.{Cycle}
use Rattle.cycles.specs.Due.{advanced, gap, steps, due_count}
use Rattle.cycles.specs.Rules.{ok_cycle}
use Rattle.cycles.proofs.Rules.{Sound, sound}
use Rattle.cycles.proofs.Count.{test-no}

-- the code asks `until < next`
pub late : (n u : ℤ) → lt_z u n ≡ true → T (not (le_z n u))
late n u e = not_T (le_z n u) (λ p. clash_ℤ {a = u} {b = n} (lt_z_yes (rw e tt)) (le_z_yes p))

pub early : (n u : ℤ) → lt_z u n ≡ false → T (le_z n u)
early n u e = (lt_z_no {a = u} {b = n} (rw e tt)).le

-- ---- in their places

mag-cut : (l : ℤ) → 0 < cut l → mag l ≡ cut l
mag-cut (pos l) h = refl
mag-cut (negsuc l) h = absurd (omega arith)

module _ (c : Cycle) (s : Sound c) where
  pub fits-target : SFits w32 c.target
  fits-target = record { sfits = omega arith }

  pub fits-length : SFits w32 c.length
  fits-length = record { sfits = omega arith }

  pub fits-wide : SFits w64 c.length
  fits-wide = record { sfits = omega arith }

  pub fits_next : SFits w64 c.next
  fits_next = record { sfits = omega arith }

  pub fits_sum : SFits w64 (c.next +ℤ c.length)
  fits_sum = record { sfits = omega (arith, mag-add c.next c.length) }

pub nat_abs-cut : (l : ℤ) → 0 < cut l → nat_abs l ≡ cut l
nat_abs-cut (pos l) h = refl
nat_abs-cut (negsuc l) h = absurd (omega arith)

pub up : (l : ℤ) → 0 < cut l → T (non_neg l)
up (pos l) h = tt
up (negsuc l) h = absurd (omega arith)

module _ (c : Cycle) (s : Sound c) where
  pub abs-fits : Fits w64 (nat_abs c.length)
  abs-fits = rw (nat_abs-cut c.length s.forward) (omega (arith, mag-cut c.length s.forward))

-- ---- the count by division

-- how far u is ahead of n
ahead : (n u : ℤ) → T (le_z n u) → (d : ℕ) × (u -ℤ n ≡ pos d) × (gap u n ≡ suc d)
unfolding gap
ahead n u t =
    let m = more n u t in
    let d : ℕ = m.0 in
    let e : n +ℤ pos d -ℤ n ≡ pos d = swap n (pos d) (neg_ℤ n) ∙ ap (λ (z : ℤ). z +ℤ pos d) (+ℤ_invr n) ∙ +ℤ_idl (pos d) in (
      d,
      ap (λ (z : ℤ). z -ℤ n) m.1 ∙ e,
      ap (λ (z : ℤ). cut (z +ℤ pos 1 -ℤ n)) m.1 ∙ ap cut (swap (n +ℤ pos d) (pos 1) (neg_ℤ n) ∙ ap (λ (z : ℤ). z +ℤ pos 1) e) ∙ add-one d,
    )

module _ (c : Cycle) (s : Sound c) (until : ℤ) (b : is_time until ≡ true) where
  pub fits-gap : SFits w64 (until -ℤ c.next)
  unfolding is_time
  fits-gap = record { sfits = omega (arith, mag-sub until c.next, sized-mag (2 ^ 40) until b) }

  pub none : lt_z until c.next ≡ true → 0 ≡ due_count until c
  none e = sym (test-no until c (late c.next until e))

  module _ (e : lt_z until c.next ≡ false) where
    pub gap_up : T (non_neg (until -ℤ c.next))
    gap_up = let a = ahead c.next until (early c.next until e) in rw a.1 tt

    pub gap-size : nat_abs (until -ℤ c.next) < 2 ^ 63
    gap-size =
        let a = ahead c.next until (early c.next until e) in
        let f : mag (until -ℤ c.next) < 2 ^ 63 = fits-gap.sfits in
        rw a.1 (rw a.1 at f)

    pub some : nat_abs (until -ℤ c.next) / cut c.length + 1 ≡ due_count until c
    unfolding due_count steps
    some =
        let a = ahead c.next until (early c.next until e) in
        rw (a.1, a.2, add-one)

-- a record owes no more than there are ticks between the ends of its ranges
pub few-due : (c : Cycle) → ok_cycle c ≡ true → (until : ℤ) → is_time until ≡ true → due_count until c ≤ 2 ^ 42
unfolding due_count
few-due c e until b = go (lt_z until c.next) refl
  where
    s : Sound c
    s = sound c e

    go : (t : Bool) → lt_z until c.next ≡ t → due_count until c ≤ 2 ^ 42
    go true q = omega (arith, none c s until b q)
    go false q =
        let a = ahead c.next until (early c.next until q) in
        let m : mag (until -ℤ c.next) ≤ mag until + mag c.next + 2 = mag-sub until c.next in
        let d : a.0 ≤ mag until + mag c.next + 2 = rw a.1 at m in
        omega (arith, some c s until b q, div-le_self (nat_abs (until -ℤ c.next)) (cut c.length), ap nat_abs a.1, sized-mag (2 ^ 40) until (unfold is_time in b), s.near)

-- ---- a step of a record that is due

-- from at or below u, by less than what u leaves to a bound
mag-step : (a u l : ℤ) (m n : ℕ) → T (le_z a u) → mag a ≤ n → 0 < cut l → cut l ≤ m → mag u + m < n → mag (a +ℤ l) < n
mag-step (pos a) (pos u) (pos l) m n t h p k b = omega (arith, leb→le a u t)
mag-step (pos a) (negsuc u) (pos l) m n t h p k b = absurd t
mag-step (negsuc a) u (pos l) m n t h p k b = go (ltb l (suc a)) refl
  where
    go : (t : Bool) → ltb l (suc a) ≡ t → mag (cond t (negsuc (suc a - suc l)) (pos (l - suc a))) < n
    go true e = omega arith
    go false e = omega arith
mag-step a u (negsuc l) m n t h p k b = absurd (omega arith)

pub kept : (c : Cycle) (u : ℤ) → ok_cycle c ≡ true → is_time u ≡ true → T (le_z c.next u) → ok_cycle (advanced c) ≡ true
unfolding ok_cycle advanced is_stored_time is_time
kept c u e b t =
    let s = sound c e in
    let target = is_target c.target in
    let forward = le_z (pos 1) c.length in
    let short = is_length c.length in
    let near = is_stored_time c.next in
    let numbers = ok_numbers c.values in
    let placed = ltb c.index c.values.count in
    let e3 = left (target && forward && short) near (left (target && forward && short && near) numbers (left (target && forward && short && near && numbers) placed e)) in
    let step : mag (c.next +ℤ c.length) < 2 ^ 41 =
    mag-step c.next u c.length (2 ^ 20) (2 ^ 41) t s.near s.forward (omega (arith, mag-cut c.length s.forward)) (omega (arith, sized-mag (2 ^ 40) u b)) in
    let again : (c.index + 1) % c.values.count < c.values.count = mod-lt (c.index + 1) (omega arith) in
    rw (e3, sized-small (2 ^ 41) (c.next +ℤ c.length) step, s.numbers, lt-ltb ((c.index + 1) % c.values.count) c.values.count again)
