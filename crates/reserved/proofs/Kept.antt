-- What is in range stays in range: every reservation that a setter makes or a note leaves passes the test, so that the next call takes it.
--     idle-ok, curve-kept, cycle-kept, notes-kept   what is set
--     noted-kept, timed-kept                        what a note leaves
--     noted-number                                  and what it takes is a number that may be stored
use mathlib.Core.Path.{◌≡◌, refl}
use mathlib.Core.Bool.{Bool, true, false, cond, ◌&&◌}
use Prim.Native.Nat.{ℕ, ◌+◌, ◌^◌, ◌≤◌}
use native.Mathlib.Omega.{arith}
use borrow.Author.Tests.{le-leb, leb-false}
use lib.Dec.{eqb, leb}
use lib.IntN.{ℤ, pos, ◌+ℤ◌}
use lib.ListN.{get_or}
use Rattle.std.proofs.Common.{Option, Some, None}
use Rattle.laws.specs.Integers.{sized, inside}
use Rattle.laws.specs.Lists.{all, counted}
use Rattle.laws.proofs.Ranges.{sized-small}
use Rattle.laws.proofs.Signed.{mag-add}
use Rattle.numbers.specs.Ranges.{is_time, is_stored_time, is_number, is_length}
use Rattle.counted.specs.declared.Numbers.{Numbers}
use Rattle.counted.specs.Numbers.{shown, ok_numbers, got_at}
use Rattle.counted.specs.Curves.{triples, ok_curve}
use Rattle.counted.proofs.Sizes.{time-mag, length-mag}
use Rattle.counted.proofs.Counted.{numbers-at}
use Rattle.reserved.specs.declared.Reserve.{Reserve}
use Rattle.reserved.specs.Cycle.{since_of, calc_of}
use Rattle.reserved.specs.Curve.{curve_at}
use Rattle.reserved.specs.Reserve.{on_time, on_cycle, on_note, reserved, idle, curve_from, cycle_over, notes_from, ok_values, ok_reserve, taken, cycle_of, first_or, from_curve, from_since, timed, place, from_list, noted}
use Rattle.reserved.specs.Setting.{cycle_for}
use Rattle.reserved.proofs.Reserves.{reserve-tags, reserve-start, reserve-length, reserve-values, reserve-numbers}

-- every part in range
made : (r : Reserve) → (leb r.kind 3 && leb r.cycling 1) ≡ true → is_stored_time r.start ≡ true → is_length r.length ≡ true → r.index ≤ r.values.count → ok_values r.kind r.values ≡ true → ok_reserve r ≡ true
unfolding ok_reserve
made r t s l i v = rw (t, s, l, le-leb r.index r.values.count i, v)

pub idle-ok : ok_reserve idle ≡ true
unfolding ok_reserve ok_values ok_numbers counted all is_stored_time is_length sized inside
idle-ok = refl

zero-start : is_stored_time (pos 0) ≡ true
unfolding is_stored_time sized inside
zero-start = refl

zero-length : is_length (pos 0) ≡ true
unfolding is_length sized inside
zero-length = refl

-- a delayed time is one that may be stored
pub delayed-stored : (t d : ℤ) → is_time t ≡ true → is_length d ≡ true → is_stored_time (t +ℤ d) ≡ true
unfolding is_stored_time
delayed-stored t d h k =
    let a = time-mag t h in
    let b = length-mag d k in
    sized-small (2 ^ 41) (t +ℤ d) (omega (arith, mag-add t d))

module _ (v : Numbers) where
  pub curve-kept : (s : ℤ) → is_stored_time s ≡ true → ok_curve v ≡ true → ok_reserve (curve_from s v) ≡ true
  unfolding ok_values
  curve-kept s h k = made (curve_from s v) refl h zero-length (omega arith) k

  pub notes-kept : (c : ℕ) → leb c 1 ≡ true → ok_numbers v ≡ true → ok_reserve (notes_from c v) ≡ true
  unfolding ok_values
  notes-kept c h k = made (notes_from c v) h zero-start zero-length (omega arith) k

  pub cycle-kept : (s n : ℤ) → is_stored_time s ≡ true → is_length n ≡ true → ok_numbers v ≡ true → ok_reserve (cycle_for s n v) ≡ true
  unfolding ok_values
  cycle-kept s n h l k = go (eqb v.count 0)
    where
      go : (b : Bool) → ok_reserve (cond b idle (cycle_over s n v)) ≡ true
      go true = idle-ok
      go false = made (cycle_over s n v) refl h l (omega arith) k

got-below : (b : Bool) (x v : ℤ) → cond b None (Some x) ≡ Some v → b ≡ false
got-below true x v q = absurd (let z : ◌≡◌ {A = ℕ} 0 1 = cc in omega arith)
got-below false x v q = refl

module _ (r : Reserve) (e : ok_reserve r ≡ true) (def : ℤ) where
  listed : (g : Option ℤ) → got_at r.values (place r) ≡ g → ok_reserve (from_list r (place r) def g).reserve ≡ true
  listed None q = idle-ok
  listed (Some v) q =
      let h = leb-false r.values.count (place r) (got-below (leb r.values.count (place r)) _ v q) in
      made (reserved r.kind r.cycling r.start r.length (place r + 1) r.values) (reserve-tags r e) (reserve-start r e) (reserve-length r e)
      (omega arith) (reserve-values r e)

  pub noted-kept : ok_reserve (noted r def).reserve ≡ true
  unfolding noted
  noted-kept = go (eqb r.kind on_note)
    where
      go : (b : Bool) → ok_reserve (cond b (from_list r (place r) def (got_at r.values (place r))) (taken def r)).reserve ≡ true
      go true = listed (got_at r.values (place r)) refl
      go false = e

  module _ (d : is_number def ≡ true) where
    from_list_lem : (b : Bool) (i : ℕ) → leb r.values.count i ≡ b → is_number (from_list r i def (cond b None (Some (get_or r.values.items i (pos 0))))).value ≡ true
    from_list_lem true i q = d
    from_list_lem false i q = numbers-at r.values i (reserve-numbers r e) (leb-false r.values.count i q)

    pub noted-number : is_number (noted r def).value ≡ true
    unfolding noted
    noted-number = go (eqb r.kind on_note)
      where
        go : (b : Bool) → is_number (cond b (from_list r (place r) def (got_at r.values (place r))) (taken def r)).value ≡ true
        go true = from_list_lem (leb r.values.count (place r)) (place r) refl
        go false = d

  curved : (c : Option ℤ) → ok_reserve (from_curve r def c).reserve ≡ true
  curved (Some v) = e
  curved None = idle-ok

  begun : (s : Option ℕ) → ok_reserve (from_since r def s).reserve ≡ true
  begun None = e
  begun (Some k) = curved (curve_at (triples (shown r.values)) k)

  pub timed-kept : (t : ℤ) → ok_reserve (timed r t def).reserve ≡ true
  unfolding timed
  timed-kept t = go (eqb r.kind on_cycle) (eqb r.kind on_time)
    where
      go : (b c : Bool) → ok_reserve (cond b (taken (first_or def (calc_of (cycle_of r) t).values) r) (cond c (from_since r def (since_of r.start t)) (taken def r))).reserve ≡ true
      go true c = e
      go false true = begun (since_of r.start t)
      go false false = e
