-- A parameter in range stays in range, whatever is called on it: so the calls that follow take it.
use mathlib.Core.Path.{◌≡◌, refl, ◌∙◌}
use mathlib.Core.Bool.{Bool, true, false, cond, ◌&&◌}
use mathlib.Core.List.{List}
use Prim.Native.Nat.{ℕ}
use native.Mathlib.Omega.{arith}
use borrow.Author.Tests.{ltb-false, eqb-true}
use lib.Dec.{eqb, ltb}
use lib.IntN.{ℤ, pos, ◌+ℤ◌}
use lib.ListN.{length}
use Rattle.laws.specs.Lists.{all}
use Rattle.laws.proofs.Ranges.{left, right}
use Rattle.numbers.specs.Limits.{list_limit}
use Rattle.numbers.specs.Ranges.{is_time, is_number, is_length}
use Rattle.counted.specs.Numbers.{numbers}
use Rattle.counted.specs.Curves.{is_curve}
use Rattle.counted.proofs.Counted.{laid-numbers, laid-curve}
use Rattle.reserved.specs.declared.Reserve.{Reserve}
use Rattle.reserved.specs.declared.Taken.{Taken}
use Rattle.reserved.specs.Reserve.{ok_reserve, idle, curve_from, notes_from}
use Rattle.reserved.specs.Setting.{length_of, rest_of, cycle_for}
use Rattle.reserved.proofs.Kept.{idle-ok, delayed-stored, curve-kept, cycle-kept, notes-kept, noted-kept, timed-kept}
use Rattle.reserved.proofs.Settings.{rest-fits}
use Rattle.params.specs.declared.NoteParam.{NoteParam}
use Rattle.params.specs.declared.ParamAnswer.{ParamAnswer}
use Rattle.params.specs.declared.ParamValue.{ParamValue}
use Rattle.params.specs.Param.{with_reserve, ok_limits, ok_param}
use Rattle.params.specs.Calls.{answered, given, clear_reserve, set_on_time, set_on_cycle, set_on_note, calc_on_time, calc_on_note}
use Rattle.params.proofs.Calls.{param-reserve, param-delay, param-limits, limits-repeat}

pub with-kept : (a : NoteParam) (r : Reserve) → ok_param a ≡ true → ok_reserve r ≡ true → ok_param (with_reserve a r) ≡ true
unfolding ok_param ok_limits
with-kept a r e h = rw (h, param-delay a e) (param-limits a e)

module _ (a : NoteParam) (e : ok_param a ≡ true) where
  pub answered-kept : (n : ℕ) (b : NoteParam) → (n ≡ 0 → ok_param b ≡ true) → ok_param (answered n a b).param ≡ true
  unfolding answered
  answered-kept n b h = go (eqb n 0) refl
    where
      go : (t : Bool) → eqb n 0 ≡ t → ok_param (cond {A = ParamAnswer} t (record { code = 0; param = b }) (record { code = n; param = a })).param ≡ true
      go true q = h (eqb-true n 0 q)
      go false q = e

  given-kept : (n : ℕ) (t : Taken) → ok_reserve t.reserve ≡ true → ok_param (given n a t).param ≡ true
  unfolding given
  given-kept n t h = go (eqb n 0)
    where
      go : (b : Bool) → ok_param (cond {A = ParamValue} b (record { code = 0; value = t.value; param = with_reserve a t.reserve }) (record { code = n; value = pos 0; param = a })).param ≡ true
      go true = with-kept a t.reserve e h
      go false = e

  pub calc-on-time-kept : (t def : ℤ) → ok_param (calc_on_time a t def).param ≡ true
  calc-on-time-kept t def = given-kept _ _ (timed-kept a.reserve (param-reserve a e) def t)

  pub calc-on-note-kept : (def : ℤ) → ok_param (calc_on_note a def).param ≡ true
  calc-on-note-kept def = given-kept _ _ (noted-kept a.reserve (param-reserve a e) def)

  pub clear-reserve-kept : ok_param (clear_reserve a).param ≡ true
  clear-reserve-kept = answered-kept _ _ (λ z. with-kept a idle e idle-ok)

  -- a list that is not refused is within its limit and passed its tests
  fits : (b ok : Bool) → ◌≡◌ {A = ℕ} (cond b 3 (cond ok 0 4)) 0 → (b ≡ false) × (ok ≡ true)
  fits true ok z = absurd (omega arith)
  fits false true z = (refl, refl)
  fits false false z = absurd (omega arith)

  pub set-on-note-kept : (v : List ℤ) → ok_param (set_on_note a v).param ≡ true
  set-on-note-kept v =
      answered-kept _ _
      (λ z.
      let f = fits (ltb list_limit (length v)) (ok_param a && all is_number v) z in
      with-kept a (notes_from a.repeat (numbers v)) e
      (notes-kept (numbers v) a.repeat (limits-repeat a (param-limits a e))
      (laid-numbers v (ltb-false list_limit (length v) f.0) ∙ right (ok_param a) (all is_number v) f.1)))

  pub set-on-time-kept : (t : ℤ) (v : List ℤ) → ok_param (set_on_time a t v).param ≡ true
  set-on-time-kept t v =
      answered-kept _ _
      (λ z.
      let f = fits (ltb list_limit (length v)) (ok_param a && is_time t && is_curve v) z in
      with-kept a (curve_from (t +ℤ a.delay) (numbers v)) e
      (curve-kept (numbers v) (t +ℤ a.delay)
      (delayed-stored t a.delay (right (ok_param a) (is_time t) (left (ok_param a && is_time t) (is_curve v) f.1)) (param-delay a e))
      (laid-curve v (ltb-false list_limit (length v) f.0) ∙ right (ok_param a && is_time t) (is_curve v) f.1)))

  pub set-on-cycle-kept : (t : ℤ) (v : List ℤ) → ok_param (set_on_cycle a t v).param ≡ true
  set-on-cycle-kept t v =
      answered-kept _ _
      (λ z.
      let f = fits (ltb list_limit (length v)) (ok_param a && is_time t && is_length (length_of v) && all is_number (rest_of v)) z in
      let g = left (ok_param a && is_time t && is_length (length_of v)) (all is_number (rest_of v)) f.1 in
      with-kept a (cycle_for (t +ℤ a.delay) (length_of v) (numbers (rest_of v))) e
      (cycle-kept (numbers (rest_of v)) (t +ℤ a.delay) (length_of v)
      (delayed-stored t a.delay (right (ok_param a) (is_time t) (left (ok_param a && is_time t) (is_length (length_of v)) g)) (param-delay a e))
      (right (ok_param a && is_time t) (is_length (length_of v)) g)
      (laid-numbers (rest_of v) (rest-fits v (ltb-false list_limit (length v) f.0))
      ∙ right (ok_param a && is_time t && is_length (length_of v)) (all is_number (rest_of v)) f.1)))
