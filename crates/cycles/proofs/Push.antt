-- The Rust collects a call's writes, then pushes them up to the first that does not fit. As a call takes at most one more
-- than fit, that one is always the last: so pushing each write as its record advances, with no stop, leaves the same.
use mathlib.Core.Path.{◌≡◌, refl, ap, ◌∙◌}
use mathlib.Core.Bool.{Bool, true, false, cond}
use mathlib.Core.List.{List, [], ◌∷◌, ◌++◌}
use Prim.Native.Nat.{◌+◌, ◌-◌, ◌*◌, ◌/◌, ◌≤◌, min}
use native.Mathlib.Omega.{arith}
use borrow.Author.Tests.{leb-true, leb-false}
use lib.IntN.{ℤ}
use lib.ListN.{length, length-append}
use Rattle.numbers.specs.Limits.{value_bytes, cycle_writes}
use Rattle.budget.specs.Budgets.{free, room, fits}
use Rattle.cycles.specs.Due.{DueWrite, owed}
use Rattle.cycles.specs.Calls.{State, Turn, limit, wrote, push, share, moved, call, push_all}
use Rattle.cycles.proofs.Table.{length-takes}

module _ {E : Type 0} (f : Turn E) where
  pub push_all-append : (xs ys : List DueWrite) (s : State E) → push_all f (xs ++ ys) s ≡ push_all f ys (push_all f xs s)
  unfolding push_all
  push_all-append [] ys s = refl
  push_all-append (w ∷ xs) ys s = push_all-append xs ys (wrote f w s)

  none_left : (ws : List DueWrite) (s : State E) → length ws ≤ 0 → s ≡ push_all f ws s
  unfolding push_all
  none_left [] s h = refl
  none_left (w ∷ ws) s h = absurd (omega arith)

  wrote-free : (w : DueWrite) (s : State E) → fits value_bytes s.budget ≡ true → free (wrote f w s).budget ≡ free s.budget - value_bytes
  unfolding wrote
  wrote-free w s e = rw e (omega arith)

  pub push-all : (ws : List DueWrite) (s : State E) → value_bytes * length ws ≤ free s.budget + value_bytes → push f ws s ≡ push_all f ws s
  unfolding push push_all
  push-all [] s h = refl
  push-all (w ∷ ws) s h = go (fits value_bytes s.budget) refl (push-all ws (wrote f w s))
    where
      go : (b : Bool) → fits value_bytes s.budget ≡ b
          → (value_bytes * length ws ≤ free (wrote f w s).budget + value_bytes → push f ws (wrote f w s) ≡ push_all f ws (wrote f w s))
          → cond b (push f ws (wrote f w s)) (wrote f w s) ≡ push_all f ws (wrote f w s)
      go true e ih = ih (omega (arith, wrote-free w s e, leb-true value_bytes (free s.budget) e))
      go false e ih = none_left ws (wrote f w s) (omega (arith, leb-false value_bytes (free s.budget) e))

  -- for every state, short budgets too
  pub call-one-pass : (u : ℤ) (s : State E) → call f u s ≡ push_all f (share u s) (moved u s)
  unfolding call share limit moved
  call-one-pass u s = push-all (share u s) (moved u s) (omega (arith, length-takes (limit s.budget) u s.table))

  -- ---- how many events come in

  wrote_count : (w : DueWrite) (s : State E) → length (wrote f w s).events + room value_bytes (wrote f w s).budget ≡ length s.events + room value_bytes s.budget
  unfolding wrote
  wrote_count w s = go (fits value_bytes s.budget) refl
    where
      e : E
      e = (f w s.budget.seed).0

      go : (b : Bool) → fits value_bytes s.budget ≡ b
          → length (cond b (s.events ++ (e ∷ [])) s.events) + (s.budget.maximum - cond b (s.budget.used + value_bytes) s.budget.used) / value_bytes
          ≡ length s.events + room value_bytes s.budget
      go true q = rw length-append (omega (arith, leb-true value_bytes (free s.budget) q))
      go false q = omega arith

  wrote_one : (w : DueWrite) (s : State E) → length (wrote f w s).events ≡ length s.events + min 1 (room value_bytes s.budget)
  unfolding wrote
  wrote_one w s = go (fits value_bytes s.budget) refl
    where
      e : E
      e = (f w s.budget.seed).0

      go : (b : Bool) → fits value_bytes s.budget ≡ b → length (cond b (s.events ++ (e ∷ [])) s.events) ≡ length s.events + min 1 (room value_bytes s.budget)
      go true q = rw length-append (omega (arith, leb-true value_bytes (free s.budget) q))
      go false q = omega (arith, leb-false value_bytes (free s.budget) q)

  pub push_all-count : (ws : List DueWrite) (s : State E) → length (push_all f ws s).events ≡ length s.events + min (room value_bytes s.budget) (length ws)
  unfolding push_all
  push_all-count [] s = omega arith
  push_all-count (w ∷ ws) s = omega (arith, push_all-count ws (wrote f w s), wrote_count w s, wrote_one w s)

  -- what a call adds: as many as fit of its share
  pub call-count : (u : ℤ) (s : State E)
      → length (call f u s).events ≡ length s.events + min (room value_bytes s.budget) (min cycle_writes (owed u s.table))
  unfolding share limit moved
  call-count u s =
      ap (λ (x : State E). length x.events) (call-one-pass u s)
      ∙ push_all-count (share u s) (moved u s)
      ∙ omega (arith, length-takes (limit s.budget) u s.table)
