-- A parameter in range stays in range when an option is set.
use mathlib.Core.Path.{◌≡◌, refl}
use mathlib.Core.Bool.{Bool, true, false, cond, ◌&&◌}
use Prim.Native.Nat.{ℕ}
use native.Mathlib.Omega.{arith}
use lib.Dec.{leb}
use lib.IntN.{ℤ, pos}
use Rattle.laws.proofs.Ranges.{left, right}
use Rattle.numbers.specs.Ranges.{is_number, is_length, is_random, absent_or}
use Rattle.reserved.specs.Reserve.{ok_reserve}
use Rattle.params.specs.declared.NoteParam.{NoteParam}
use Rattle.params.specs.Param.{with_random, with_range, with_delay, with_max, with_repeat, is_flag, ok_limits, ok_param}
use Rattle.params.specs.Calls.{set_random, set_range, clear_range, set_delay, set_max, clear_max, set_repeat}
use Rattle.params.proofs.Calls.{param-reserve, param-delay, param-limits, limits-repeat}
use Rattle.params.proofs.Kept.{answered-kept}

-- each number in range
made : (a : NoteParam) → ok_reserve a.reserve ≡ true → is_length a.delay ≡ true → is_random a.random ≡ true → is_flag a.ranged ≡ true → absent_or a.ranged (is_number a.low && is_number a.high) ≡ true → is_flag a.maxed ≡ true → absent_or a.maxed (is_number a.max) ≡ true → is_flag a.repeat ≡ true → ok_param a ≡ true
unfolding ok_param ok_limits
made a r d n g l m x p = rw (r, d, n, g, l, m, x, p)

both_hold : {b c : Bool} → b ≡ true → c ≡ true → (b && c) ≡ true
both_hold p q = rw (p, q)

-- a call that does not refuse passed its tests
passed : (ok : Bool) → ◌≡◌ {A = ℕ} (cond ok 0 4) 0 → ok ≡ true
passed true z = refl
passed false z = absurd (omega arith)

module _ (a : NoteParam) (e : ok_param a ≡ true) where
  abbrev N : Bool
  N = is_random a.random

  abbrev G : Bool
  G = is_flag a.ranged

  abbrev L : Bool
  L = absent_or a.ranged (is_number a.low && is_number a.high)

  abbrev M : Bool
  M = is_flag a.maxed

  abbrev X : Bool
  X = absent_or a.maxed (is_number a.max)

  to-max : (N && G && L && M && X) ≡ true
  unfolding ok_limits
  to-max = left (N && G && L && M && X) (is_flag a.repeat) (param-limits a e)

  to-maxed : (N && G && L && M) ≡ true
  to-maxed = left (N && G && L && M) X to-max

  to-ends : (N && G && L) ≡ true
  to-ends = left (N && G && L) M to-maxed

  to-ranged : (N && G) ≡ true
  to-ranged = left (N && G) L to-ends

  reserve-in : ok_reserve a.reserve ≡ true
  reserve-in = param-reserve a e

  delay-in : is_length a.delay ≡ true
  delay-in = param-delay a e

  random-in : N ≡ true
  random-in = left N G to-ranged

  ranged-in : G ≡ true
  ranged-in = right N G to-ranged

  ends-in : L ≡ true
  ends-in = right (N && G) L to-ends

  maxed-in : M ≡ true
  maxed-in = right (N && G && L) M to-maxed

  max-in : X ≡ true
  max-in = right (N && G && L && M) X to-max

  repeat-in : is_flag a.repeat ≡ true
  repeat-in = limits-repeat a (param-limits a e)

  pub set-random-kept : (v : ℤ) → ok_param (set_random a v).param ≡ true
  set-random-kept v = answered-kept a e _ _ (λ z. made (with_random a v) reserve-in delay-in (right (ok_param a) (is_random v) (passed (ok_param a && is_random v) z)) ranged-in ends-in maxed-in max-in repeat-in)

  pub set-range-kept : (v w : ℤ) → ok_param (set_range a v w).param ≡ true
  set-range-kept v w =
      answered-kept a e _ _
      (λ z.
      let q = passed (ok_param a && is_number v && is_number w) z in
      made (with_range a 1 v w) reserve-in delay-in random-in refl (both_hold (right (ok_param a) (is_number v) (left (ok_param a && is_number v) (is_number w) q)) (right (ok_param a && is_number v) (is_number w) q)) maxed-in max-in repeat-in)

  pub clear-range-kept : ok_param (clear_range a).param ≡ true
  clear-range-kept = answered-kept a e _ _ (λ z. made (with_range a 0 (pos 0) (pos 0)) reserve-in delay-in random-in refl refl maxed-in max-in repeat-in)

  pub set-delay-kept : (v : ℤ) → ok_param (set_delay a v).param ≡ true
  set-delay-kept v = answered-kept a e _ _ (λ z. made (with_delay a v) reserve-in (right (ok_param a) (is_length v) (passed (ok_param a && is_length v) z)) random-in ranged-in ends-in maxed-in max-in repeat-in)

  pub set-max-kept : (v : ℤ) → ok_param (set_max a v).param ≡ true
  set-max-kept v = answered-kept a e _ _ (λ z. made (with_max a 1 v) reserve-in delay-in random-in ranged-in ends-in refl (right (ok_param a) (is_number v) (passed (ok_param a && is_number v) z)) repeat-in)

  pub clear-max-kept : ok_param (clear_max a).param ≡ true
  clear-max-kept = answered-kept a e _ _ (λ z. made (with_max a 0 (pos 0)) reserve-in delay-in random-in ranged-in ends-in refl refl repeat-in)

  pub set-repeat-kept : (c : ℕ) → ok_param (set_repeat a c).param ≡ true
  set-repeat-kept c = answered-kept a e _ _ (λ z. made (with_repeat a c) reserve-in delay-in random-in ranged-in ends-in maxed-in max-in (right (ok_param a) (leb c 1) (passed (ok_param a && leb c 1) z)))
