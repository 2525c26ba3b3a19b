-- What asking for bytes does to the budget: the bytes used never fall, rise by exactly what was asked for where
-- it fits, stay where it does not, and stay within the document's limit; there is always a step to take.
use mathlib.Core.Path.{◌≡◌, refl}
use mathlib.Core.Bool.{Bool, true, false, cond, ◌&&◌}
use Prim.Native.Nat.{ℕ, ◌+◌, ◌≤◌, ◌<◌}
use native.Mathlib.Omega.{arith}
use lib.Dec.{leb}
use borrow.Author.Tests.{leb-true, leb-false, le-leb, lt-leb}
use Rattle.laws.proofs.Ranges.{left, right}
use Rattle.laws.proofs.Tests.{both}
use Rattle.numbers.specs.Limits.{byte_limit}
use Rattle.numbers.specs.Ranges.{is_bytes}
use Rattle.budget.specs.declared.Budget.{Budget}
use Rattle.budget.specs.Budgets.{ok_budget, free, fits, step_budget, stepped, reserved}

module _ (size : ℕ) (b : Budget) where
  -- where it fits
  module _ (h : fits size b ≡ true) where
    pub takes : (reserved size b).used ≡ b.used + size
    takes = rw h

    pub keeps-flag : (reserved size b).over ≡ b.over
    keeps-flag = rw h

    pub leaves : free (reserved size b) + size ≡ free b
    leaves = rw h (omega (arith, leb-true size (free b) h))

  -- where it does not
  module _ (h : fits size b ≡ false) where
    pub takes_none : (reserved size b).used ≡ b.used
    takes_none = rw h

    pub sets-flag : (reserved size b).over ≡ 1
    sets-flag = rw h

  pub used-rises : b.used ≤ (reserved size b).used
  used-rises = go (fits size b)
    where
      go : (t : Bool) → b.used ≤ cond t (b.used + size) b.used
      go true = omega arith
      go false = omega arith

  -- a limit on the maximum and on the bytes used before is one on those used after
  pub used-within : (n : ℕ) → b.maximum ≤ n → b.used ≤ n → (reserved size b).used ≤ n
  used-within n m u = go (fits size b) (leb-true size (free b))
    where
      go : (t : Bool) → (t ≡ true → size ≤ free b) → cond t (b.used + size) b.used ≤ n
      go true f = let h = f refl in omega arith
      go false f = omega arith

  over-within : b.over ≤ 1 → (reserved size b).over ≤ 1
  over-within h = go (fits size b)
    where
      go : (t : Bool) → cond t b.over 1 ≤ 1
      go true = omega arith
      go false = omega arith

  pub keeps-ok : ok_budget b ≡ true → ok_budget (reserved size b) ≡ true
  unfolding ok_budget is_bytes
  keeps-ok e =
      let m = left (is_bytes b.maximum && is_bytes b.used) (leb b.over 1) e in
      let top = leb-true b.maximum byte_limit (left (is_bytes b.maximum) (is_bytes b.used) m) in
      let u = leb-true b.used byte_limit (right (is_bytes b.maximum) (is_bytes b.used) m) in
      let o = leb-true b.over 1 (right (is_bytes b.maximum && is_bytes b.used) (leb b.over 1) e) in
      both
      (both (le-leb b.maximum byte_limit top) (le-leb (reserved size b).used byte_limit (used-within byte_limit top u)))
      (le-leb (reserved size b).over 1 (over-within o))

  -- every event has bytes: then to fit is the original's test, used + size ≤ maximum
  pub fits_sum : 0 < size → fits size b ≡ leb (b.used + size) b.maximum
  fits_sum h = go (leb (b.used + size) b.maximum) refl
    where
      go : (t : Bool) → leb (b.used + size) b.maximum ≡ t → fits size b ≡ t
      go true e = le-leb size (free b) (omega (arith, leb-true (b.used + size) b.maximum e))
      go false e = lt-leb size (free b) (omega (arith, leb-false (b.used + size) b.maximum e))

pub a-step : (b : Budget) → 1 ≤ step_budget b
a-step b = omega arith

pub stepped-ok : (b : Budget) → ok_budget (stepped b) ≡ ok_budget b
unfolding ok_budget
stepped-ok b = refl
