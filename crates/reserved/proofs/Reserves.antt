-- What the test of a reservation says of its parts.
use mathlib.Core.Path.{◌≡◌}
use mathlib.Core.Bool.{Bool, true, false, cond, ◌&&◌}
use Prim.Native.Nat.{ℕ, ◌≤◌}
use native.Mathlib.Omega.{arith}
use native.Mathlib.Nat.{le_refl}
use borrow.Author.Tests.{eq-eqb, leb-true}
use lib.Dec.{eqb, leb}
use Rattle.laws.proofs.Ranges.{left, right}
use Rattle.numbers.specs.Limits.{list_limit}
use Rattle.numbers.specs.Ranges.{is_stored_time, is_length}
use Rattle.counted.specs.declared.Numbers.{Numbers}
use Rattle.counted.specs.Numbers.{ok_numbers}
use Rattle.counted.specs.Curves.{ok_curve}
use Rattle.counted.proofs.Counted.{numbers-count, curve-numbers}
use Rattle.reserved.specs.declared.Reserve.{Reserve}
use Rattle.reserved.specs.Reserve.{on_time, ok_values, ok_reserve, place}

numbers-either : (b : Bool) (v : Numbers) → cond b (ok_curve v) (ok_numbers v) ≡ true → ok_numbers v ≡ true
numbers-either true v e = curve-numbers v e
numbers-either false v e = e

first-or-same : (b : Bool) (i : ℕ) → cond b 0 i ≤ i
first-or-same true i = omega arith
first-or-same false i = le_refl i

-- the place read is never past the position
pub place-small : (r : Reserve) → place r ≤ r.index
place-small r = first-or-same (leb r.values.count r.index && eqb r.cycling 1) r.index

module _ (r : Reserve) (e : ok_reserve r ≡ true) where
  abbrev tags : Bool
  tags = leb r.kind 3 && leb r.cycling 1

  abbrev times : Bool
  times = tags && is_stored_time r.start && is_length r.length

  placed : (times && leb r.index r.values.count) ≡ true
  unfolding ok_reserve
  placed = left (times && leb r.index r.values.count) (ok_values r.kind r.values) e

  pub reserve-values : ok_values r.kind r.values ≡ true
  unfolding ok_reserve
  reserve-values = right (times && leb r.index r.values.count) (ok_values r.kind r.values) e

  pub reserve-index : r.index ≤ r.values.count
  reserve-index = leb-true r.index r.values.count (right times (leb r.index r.values.count) placed)

  pub reserve-tags : (leb r.kind 3 && leb r.cycling 1) ≡ true
  reserve-tags =
      left tags (is_stored_time r.start)
      (left (tags && is_stored_time r.start) (is_length r.length) (left times (leb r.index r.values.count) placed))

  pub reserve-start : is_stored_time r.start ≡ true
  reserve-start =
      right tags (is_stored_time r.start)
      (left (tags && is_stored_time r.start) (is_length r.length) (left times (leb r.index r.values.count) placed))

  pub reserve-length : is_length r.length ≡ true
  reserve-length = right (tags && is_stored_time r.start) (is_length r.length) (left times (leb r.index r.values.count) placed)

  pub reserve-numbers : ok_numbers r.values ≡ true
  unfolding ok_values
  reserve-numbers = numbers-either (eqb r.kind on_time) r.values reserve-values

  pub reserve-curve : r.kind ≡ on_time → ok_curve r.values ≡ true
  unfolding ok_values
  reserve-curve h = rw (eq-eqb r.kind on_time h) at reserve-values

  pub reserve-count : r.values.count ≤ list_limit
  reserve-count = numbers-count r.values reserve-numbers
