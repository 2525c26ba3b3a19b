-- A call leaves a table within the rules: no call of a series is refused for what an earlier one left.
use mathlib.Core.Path.{◌≡◌, refl, ap, ap₂}
use mathlib.Core.Bool.{Bool, true, false}
use mathlib.Core.List.{List, [], ◌∷◌}
use Prim.Native.Nat.{ℕ, zero, suc, ◌-◌, ◌≤◌, ◌<◌, min}
use native.Mathlib.Omega.{arith}
use lib.Dec.{T}
use lib.IntN.{ℤ}
use lib.Signed.{le_z}
use lib.ListN.{length}
use Rattle.laws.specs.Lists.{all}
use Rattle.laws.specs.Keys.{distinct}
use Rattle.laws.proofs.Ranges.{left, right}
use Rattle.numbers.specs.Ranges.{is_time}
use Rattle.cycles.specs.declared.Cycle.{Cycle}
use Rattle.cycles.specs.Due.{advanced, after, due_count, leaves, key}
use Rattle.cycles.specs.Rules.{ok_cycle, keys_of, ok_table}
use Rattle.cycles.proofs.Count.{count-advanced, target-after, test-no}
use Rattle.cycles.proofs.Rules.{sound}
use Rattle.cycles.proofs.Fitting.{kept}

-- a record that owes a write is due by the Rust's test
pub is-due : (u : ℤ) (c : Cycle) → 0 < due_count u c → T (le_z c.next u)
is-due u c h = go (le_z c.next u) refl
  where
    go : (b : Bool) → le_z c.next u ≡ b → T b
    go true e = tt
    go false e = omega (arith, test-no u c (rw e tt))

pub after_kept : (k : ℕ) (u : ℤ) (c : Cycle) → ok_cycle c ≡ true → is_time u ≡ true → k ≤ due_count u c → ok_cycle (after k c) ≡ true
unfolding after
after_kept zero u c e b h = e
after_kept (suc k) u c e b h =
    after_kept k u (advanced c) (kept c u e b (is-due u c (omega arith))) b (omega (arith, count-advanced u c (sound c e).forward))

all-kept : (m : ℕ) (u : ℤ) (tab : List Cycle) → all ok_cycle tab ≡ true → is_time u ≡ true → all ok_cycle (leaves m u tab) ≡ true
unfolding all leaves
all-kept m u [] e b = refl
all-kept m u (c ∷ cs) e b =
    rw (after_kept (min m (due_count u c)) u c (left (ok_cycle c) (all ok_cycle cs) e) b (omega arith))
    (all-kept (m - due_count u c) u cs (right (ok_cycle c) (all ok_cycle cs) e) b)

pub keys-leaves : (m : ℕ) (u : ℤ) (tab : List Cycle) → keys_of (leaves m u tab) ≡ keys_of tab
unfolding leaves
keys-leaves m u [] = refl
keys-leaves m u (c ∷ cs) =
    ap₂ (λ (k : ℕ) (ks : List ℕ). k ∷ ks) (ap key (target-after (min m (due_count u c)) c)) (keys-leaves (m - due_count u c) u cs)

pub length-leaves : (m : ℕ) (u : ℤ) (tab : List Cycle) → length (leaves m u tab) ≡ length tab
unfolding leaves
length-leaves m u [] = refl
length-leaves m u (c ∷ cs) = ap suc (length-leaves (m - due_count u c) u cs)

pub table_kept : (m : ℕ) (u : ℤ) (tab : List Cycle) → ok_table tab ≡ true → is_time u ≡ true → ok_table (leaves m u tab) ≡ true
unfolding ok_table
table_kept m u tab e b =
    rw (all-kept m u tab (left (all ok_cycle tab) (distinct (keys_of tab)) e) b, keys-leaves m u tab)
    (right (all ok_cycle tab) (distinct (keys_of tab)) e)
