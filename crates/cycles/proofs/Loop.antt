-- 02, k). The Rust's count for each record stops nothing (`request-k`): where the count reaches 10,000, the total has reached it
-- too, as a call's limit is at most that; above that bound it would stop something (`needed`). The loops make the writes of `takes`
-- and leave the table of `leaves` (`table_is`), so the Rust's call, which collects with the count and then pushes, leaves what
-- the rules' call leaves (`rust-call`).
use mathlib.Core.Path.{◌≡◌, refl, sym, ap, ap₂, ◌∙◌}
use mathlib.Core.Bool.{Bool, true, false, cond, ◌&&◌, and-false, and-true}
use mathlib.Core.List.{List, [], ◌∷◌, append-nil}
use Prim.Native.Nat.{ℕ, zero, suc, ◌+◌, ◌-◌, ◌≤◌, ◌<◌, min}
use native.Mathlib.Omega.{arith}
use borrow.Author.Tests.{lt-ltb, ltb-true, ltb-false, leb-true, ne_eqb}
use lib.Dec.{leb, ltb}
use lib.IntN.{ℤ, pos}
use lib.Signed.{le_z}
use lib.ListN.{length}
use Rattle.laws.specs.Integers.{cut}
use Rattle.numbers.specs.Limits.{cycle_writes}
use Rattle.budget.specs.declared.Budget.{Budget}
use Rattle.cycles.specs.declared.Cycle.{Cycle}
use Rattle.cycles.specs.Due.{write_of, advanced, run, after, gap, steps, due_count, takes, leaves}
use Rattle.cycles.specs.Loop.{Inner, inner, first, counted_loop, record_loop, Outer, joined, table_loop, with_count, without_count, Unstopped, pushed, rust_call}
use Rattle.cycles.specs.Calls.{State, Turn, limit, push, share, moved, call}
use Rattle.cycles.proofs.Count.{count-advanced, test-yes, test-no, length_run}
use Rattle.cycles.proofs.Table.{Fine}

-- ---- the count stops nothing

no_stop : (a : Bool) (count n most : ℕ) (b : Bool) → ltb n most ≡ b → count ≤ n → most ≤ cycle_writes → a && ltb count cycle_writes && b ≡ a && b
no_stop a count n most true e h m =
    ap (λ (t : Bool). a && t && true) (lt-ltb count cycle_writes (omega (arith, ltb-true n most e))) ∙ ap (λ (t : Bool). t && true) (and-true a)
no_stop a count n most false e h m = and-false (a && ltb count cycle_writes) ∙ sym (and-false a)

record_same : (k most : ℕ) (u : ℤ) (count n : ℕ) (c : Cycle) → count ≤ n → most ≤ cycle_writes → counted_loop k most u count n c ≡ record_loop k most u n c
unfolding counted_loop record_loop
record_same zero most u count n c h m = refl
record_same (suc k) most u count n c h m =
    ap₂ (λ (t : Bool) (i : Inner). cond t (first (write_of c) i) (inner [] c n))
    (no_stop (le_z c.next u) count n most (ltb n most) refl h m)
    (record_same k most u (count + 1) (n + 1) (advanced c) (omega arith) m)

table_same : (k most : ℕ) (u : ℤ) (n : ℕ) (tab : List Cycle) → most ≤ cycle_writes
    → table_loop (λ (i : ℕ) (c : Cycle). counted_loop k most u 0 i c) most n tab ≡ table_loop (λ (i : ℕ) (c : Cycle). record_loop k most u i c) most n tab
unfolding table_loop
table_same k most u n [] m = refl
table_same k most u n (c ∷ cs) m =
    let i : Inner = record_loop k most u n c in
    rw (record_same k most u 0 n c (omega arith) m, table_same k most u i.total cs m)

-- the bound: no more writes in all than the count allows a record
pub unstopped : (most : ℕ) → most ≤ cycle_writes → Unstopped most
unfolding Unstopped
unstopped most m k u tab = table_same k most u 0 tab m

-- whatever the budget and the table hold, and however many turns are looked at
pub request-k : (b : Budget) → Unstopped (limit b)
unfolding limit
request-k b = unstopped (limit b) (omega arith)

-- ---- the loops are the definitions

-- j turns of a record's loop
abbrev did : ℕ → ℕ → Cycle → Inner
did j n c = inner (run j c) (after j c) (n + j)

stopped : (j n : ℕ) (c : Cycle) → j ≡ 0 → inner [] c n ≡ did j n c
unfolding run after
stopped j n c e = let z : n ≡ n + 0 = omega arith in rw e (ap (inner [] c) z)

went : (j i n : ℕ) (c : Cycle) → j ≡ suc i → first (write_of c) (did i (n + 1) (advanced c)) ≡ did j n c
unfolding run after
went j i n c e = let z : n + 1 + i ≡ n + suc i = omega arith in rw e (ap (inner (run (suc i) c) (after (suc i) c)) z)

pub record_is : (k most : ℕ) (u : ℤ) (n : ℕ) (c : Cycle) → 0 < cut c.length → most - n ≤ k → record_loop k most u n c ≡ did (min (most - n) (due_count u c)) n c
unfolding record_loop
record_is zero most u n c h b = stopped (min (most - n) (due_count u c)) n c (omega arith)
record_is (suc k) most u n c h b =
    go (le_z c.next u) (ltb n most) refl refl (record_is k most u (n + 1) (advanced c) (unfold advanced in h) (omega arith))
  where
    go : (t b : Bool) → le_z c.next u ≡ t → ltb n most ≡ b
        → record_loop k most u (n + 1) (advanced c) ≡ did (min (most - (n + 1)) (due_count u (advanced c))) (n + 1) (advanced c)
        → cond (t && b) (first (write_of c) (record_loop k most u (n + 1) (advanced c))) (inner [] c n) ≡ did (min (most - n) (due_count u c)) n c
    go true true e e' ih =
        ap (first (write_of c)) ih
        ∙ went (min (most - n) (due_count u c)) (min (most - (n + 1)) (due_count u (advanced c))) n c
        (omega (arith, ltb-true n most e', count-advanced u c h, test-yes u c (rw e tt)))
    go true false e e' ih = stopped (min (most - n) (due_count u c)) n c (omega (arith, ltb-false n most e'))
    go false b e e' ih = stopped (min (most - n) (due_count u c)) n c (omega (arith, test-no u c (rw e tt)))

takes_none : (u : ℤ) (tab : List Cycle) → takes 0 u tab ≡ []
unfolding takes run
takes_none u [] = refl
takes_none u (c ∷ cs) =
    let z : min 0 (due_count u c) ≡ 0 = omega arith in
    let y : 0 - due_count u c ≡ 0 = omega arith in
    rw (z, y) (takes_none u cs)

leaves_none : (u : ℤ) (tab : List Cycle) → leaves 0 u tab ≡ tab
unfolding leaves after
leaves_none u [] = refl
leaves_none u (c ∷ cs) =
    let z : min 0 (due_count u c) ≡ 0 = omega arith in
    let y : 0 - due_count u c ≡ 0 = omega arith in
    rw (z, y) (ap (λ (l : List Cycle). c ∷ l) (leaves_none u cs))

abbrev shared : ℕ → ℤ → List Cycle → Outer
shared m u tab = record { writes = takes m u tab; table = leaves m u tab }

pub table_is : (k most : ℕ) (u : ℤ) (n : ℕ) (tab : List Cycle) → Fine tab → most - n ≤ k
    → table_loop (λ (i : ℕ) (c : Cycle). record_loop k most u i c) most n tab ≡ shared (most - n) u tab
unfolding table_loop takes leaves
table_is k most u n [] h b = refl
table_is k most u n (c ∷ cs) h b =
    rw (record_is k most u n c h.0 b) (ap (joined (did j n c)) (go (leb most (n + j)) refl (table_is k most u (n + j) cs h.2 (omega arith))))
  where
    j : ℕ
    j = min (most - n) (due_count u c)

    loop : ℕ → Cycle → Inner
    loop i x = record_loop k most u i x

    go : (b : Bool) → leb most (n + j) ≡ b → table_loop loop most (n + j) cs ≡ shared (most - (n + j)) u cs
        → cond b (record { writes = []; table = cs }) (table_loop loop most (n + j) cs) ≡ shared (most - n - due_count u c) u cs
    go true e ih =
        let z : most - n - due_count u c ≡ 0 = omega (arith, leb-true most (n + j) e) in
        rw (z, takes_none u cs, leaves_none u cs)
    go false e ih =
        let z : most - (n + j) ≡ most - n - due_count u c = omega arith in
        ih ∙ ap (λ (m : ℕ). shared m u cs) z

-- ---- above the bound the count would stop a record that owes more

counted-few : (k most : ℕ) (u : ℤ) (count n : ℕ) (c : Cycle) → length (counted_loop k most u count n c).writes ≤ cycle_writes - count
unfolding counted_loop
counted-few zero most u count n c = omega arith
counted-few (suc k) most u count n c = go (le_z c.next u) (ltb count cycle_writes) (ltb n most) refl (counted-few k most u (count + 1) (n + 1) (advanced c))
  where
    go : (t x y : Bool) → ltb count cycle_writes ≡ x
        → length (counted_loop k most u (count + 1) (n + 1) (advanced c)).writes ≤ cycle_writes - (count + 1)
        → length (cond (t && x && y) (first (write_of c) (counted_loop k most u (count + 1) (n + 1) (advanced c))) (inner [] c n)).writes ≤ cycle_writes - count
    go true true true e ih = omega (arith, ih, ltb-true count cycle_writes e)
    go true true false e ih = omega arith
    go true false y e ih = omega arith
    go false x y e ih = omega arith

-- a record that owes one write at each time from 0 on
abbrev each : Cycle
each = record { target = pos 0; length = pos 1; next = pos 0; index = 0; values = record { count = 1; items = pos 0 ∷ [] } }

owes : (most : ℕ) → most ≤ due_count (pos most) each
unfolding due_count gap steps
owes most = let g : gap (pos most) (pos 0) ≡ suc most = omega arith in rw g (omega arith)

-- a table of one record
alone : (loop : ℕ → Cycle → Inner) (most : ℕ) (c : Cycle) → (table_loop loop most 0 (c ∷ [])).writes ≡ (loop 0 c).writes
unfolding table_loop
alone loop most c = go (leb most (loop 0 c).total)
  where
    go : (t : Bool) → (joined (loop 0 c) (cond t (record { writes = []; table = [] }) (record { writes = []; table = [] }))).writes ≡ (loop 0 c).writes
    go true = append-nil (loop 0 c).writes
    go false = append-nil (loop 0 c).writes

pub needed : (most : ℕ) → cycle_writes < most → Unstopped most → ⊥
unfolding Unstopped
needed most m h =
    let u = pos most in
    let few : length (with_count most most u (each ∷ [])).writes ≤ cycle_writes = rw (alone (λ (n : ℕ) (c : Cycle). counted_loop most most u 0 n c) most each) (omega (arith, counted-few most most u 0 0 each)) in
    let many : most ≤ length (without_count most most u (each ∷ [])).writes = rw (alone (λ (n : ℕ) (c : Cycle). record_loop most most u n c) most each, record_is most most u 0 each (omega arith) (omega arith), length_run) (omega (arith, owes most)) in
    absurd (omega (arith, m, few, many, ap (λ (o : Outer). length o.writes) (h most u (each ∷ []))))

-- ---- the Rust's call

-- as it stands it makes a call's share of the writes and leaves the table that the definition leaves
pub rust-is : (k : ℕ) (b : Budget) (u : ℤ) (tab : List Cycle) → cycle_writes ≤ k → Fine tab → with_count k (limit b) u tab ≡ shared (limit b) u tab
unfolding limit Unstopped
rust-is k b u tab m h =
    let z : limit b - 0 ≡ limit b = omega arith in
    request-k b k u tab ∙ table_is k (limit b) u 0 tab h (omega arith) ∙ ap (λ (n : ℕ). shared n u tab) z

-- collected with the count and then pushed, whatever the turns that are left over
pub rust-call : {E : Type 0} (f : Turn E) (k : ℕ) (u : ℤ) (s : State E) → cycle_writes ≤ k → Fine s.table → rust_call f k u s ≡ call f u s
unfolding rust_call call share moved push takes leaves
rust-call f k u s m h = go s.table h
  where
    go : (tab : List Cycle) → Fine tab
        → rust_call f k u (record { table = tab; budget = s.budget; events = s.events }) ≡ call f u (record { table = tab; budget = s.budget; events = s.events })
    go [] h = refl
    go (c ∷ cs) h =
        let some = ne_eqb (length (c ∷ cs)) 0 (λ e. omega (arith, e)) in
        rw some (ap (pushed f s) (rust-is k s.budget u (c ∷ cs) m h))
