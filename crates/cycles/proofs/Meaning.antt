-- What the due writes are: the i-th of a record stands at next + i · length with the value i places on (`next-at`,
-- `index_at`), and it is due exactly where the Rust's own test holds at its time (`due-yes`, `due-no`).
use mathlib.Core.Path.{◌≡◌, refl, sym, ap, ◌∙◌}
use mathlib.Core.Bool.{Bool, true, false}
use Prim.Native.Nat.{ℕ, zero, suc, ◌+◌, ◌*◌, ◌%◌, ◌<◌}
use native.Mathlib.Nat.{zero-mul, suc-mul, mod-eq_of_lt, mod-add-mod, mod-lt}
use native.Mathlib.Omega.{arith}
use lib.Dec.{T}
use lib.IntN.{ℤ, pos, negsuc, ◌+ℤ◌, +ℤ_assoc, +ℤ_idr}
use lib.Signed.{le_z}
use lib.ListN.{get_or}
use Rattle.laws.specs.Integers.{cut}
use Rattle.cycles.specs.declared.Cycle.{Cycle}
use Rattle.cycles.specs.Due.{DueWrite, write_of, advanced, run, after, due_count}
use Rattle.cycles.proofs.Count.{count-after, test-yes, test-no}

pub run_at : (k i : ℕ) (c : Cycle) (d : DueWrite) → i < k → get_or (run k c) i d ≡ write_of (after i c)
unfolding run after
run_at zero i c d h = absurd (omega arith)
run_at (suc k) zero c d h = refl
run_at (suc k) (suc i) c d h = run_at k i (advanced c) d (omega arith)

one_more : (n l : ℤ) (i : ℕ) → 0 < cut l → n +ℤ l +ℤ pos (i * cut l) ≡ n +ℤ pos (suc i * cut l)
one_more n (pos l) i h =
    let e : l + i * l ≡ suc i * l = omega (arith, suc-mul i l) in
    +ℤ_assoc n (pos l) (pos (i * l)) ∙ ap (λ (z : ℤ). n +ℤ z) (ap pos e)
one_more n (negsuc l) i h = absurd (omega arith)

pub next-at : (i : ℕ) (c : Cycle) → 0 < cut c.length → (after i c).next ≡ c.next +ℤ pos (i * cut c.length)
unfolding after advanced
next-at zero c h = rw zero-mul (sym (+ℤ_idr c.next))
next-at (suc i) c h = next-at i (advanced c) h ∙ one_more c.next c.length i h

pub index_at : (i : ℕ) (c : Cycle) → c.index < c.values.count → (after i c).index ≡ (c.index + i) % c.values.count
unfolding after advanced
index_at zero c h =
    let e : c.index + 0 ≡ c.index = omega arith in
    rw e (sym (mod-eq_of_lt h))
index_at (suc i) c h =
    let n : ℕ = c.values.count in
    let e : c.index + 1 + i ≡ c.index + suc i = omega arith in
    index_at i (advanced c) (mod-lt (c.index + 1) (omega arith)) ∙ mod-add-mod (c.index + 1) n i ∙ ap (λ (x : ℕ). x % n) e

pub due-yes : (t : ℤ) (c : Cycle) (i : ℕ) → 0 < cut c.length → i < due_count t c → T (le_z (after i c).next t)
due-yes t c i h b = go (le_z (after i c).next t) refl
  where
    go : (x : Bool) → le_z (after i c).next t ≡ x → T x
    go true e = tt
    go false e = omega (arith, test-no t (after i c) (rw e tt), count-after t i c h)

pub due-no : (t : ℤ) (c : Cycle) (i : ℕ) → 0 < cut c.length → T (le_z (after i c).next t) → i < due_count t c
due-no t c i h x = omega (arith, test-yes t (after i c) x, count-after t i c h)
