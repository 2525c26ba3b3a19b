-- What a cycle's test says of its parts, and the value of a cycle case by case.
use mathlib.Core.Path.{◌≡◌, refl, sym, ap, ◌∙◌}
use mathlib.Core.Bool.{Bool, true, false, ◌&&◌, ◌||◌, true≢false}
use mathlib.Core.List.{[], ◌∷◌}
use Prim.Native.Nat.{ℕ, ◌/◌, ◌%◌, ◌<◌}
use native.Mathlib.Omega.{arith}
use borrow.Author.Tests.{eqb-false}
use lib.Dec.{eqb}
use lib.IntN.{ℤ, pos}
use lib.ListN.{get_or}
use Rattle.std.proofs.Common.{Some}
use Rattle.laws.specs.Integers.{cut}
use Rattle.laws.proofs.Ranges.{left, right}
use Rattle.numbers.specs.Ranges.{is_stored_time, is_length}
use Rattle.counted.specs.Numbers.{ok_numbers}
use Rattle.reserved.specs.declared.OnCycleTime.{OnCycleTime}
use Rattle.reserved.specs.Cycle.{since_of, ok_cycle, cycle_from, cycle_at}

-- neither of two tests holds
pub or_left : (a b : Bool) → (a || b) ≡ false → a ≡ false
or_left true b e = e
or_left false b e = refl

pub or_right : (a b : Bool) → (a || b) ≡ false → b ≡ false
or_right true b e = absurd (true≢false e)
or_right false b e = e

pub above_zero : (n : ℕ) → eqb n 0 ≡ false → 0 < n
above_zero n e = let h = eqb-false n 0 e in omega arith

module _ (c : OnCycleTime) (e : ok_cycle c ≡ true) where
  pub cycle_start : is_stored_time c.start ≡ true
  unfolding ok_cycle
  cycle_start = left (is_stored_time c.start) (is_length c.length) (left (is_stored_time c.start && is_length c.length) (ok_numbers c.values) e)

  pub cycle-values : ok_numbers c.values ≡ true
  unfolding ok_cycle
  cycle-values = right (is_stored_time c.start && is_length c.length) (ok_numbers c.values) e

module _ (c : OnCycleTime) (t : ℤ) (k n : ℕ) (s : since_of c.start t ≡ Some k) (l : n ≡ cut c.length) where
  pub a-value : (eqb n 0 || eqb c.values.count 0) ≡ false → (get_or c.values.items (k / n % c.values.count) (pos 0) ∷ []) ≡ cycle_at c t
  unfolding cycle_at
  a-value e = sym (ap (cycle_from c) s ∙ rw (← l, e))
