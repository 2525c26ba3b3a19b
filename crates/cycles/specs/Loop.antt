-- 02, k): the Rust's two loops of `write_cc_on_cycle`, turn by turn: as they stand, with a count of 10,000 for each record
-- beside the total, and with that count left out; and the Rust's call, which collects by them and then pushes.
-- A record's loop has `k` turns at most; what is proved of the call holds for every k from 10,000 on, so that no turn is missed.
use Rattle.std.specs.Prelude.{◌≡◌, cond, ◌&&◌, List, [], ◌∷◌, ◌++◌, ℕ, zero, suc, ◌+◌, eqb, leb, ltb, ℤ, length}
use Rattle.std.specs.Int.Signed.{le_z}
use Rattle.numbers.specs.Limits.{cycle_writes}
use Rattle.cycles.specs.declared.Cycle.{Cycle}
use Rattle.cycles.specs.Due.{DueWrite, write_of, advanced}
use Rattle.cycles.specs.Calls.{State, Turn, limit, push}

-- what one record's loop leaves: its writes, the record, and how many writes there are in all
pub record Inner : Type 0 where
  pub writes : List DueWrite
  pub record' : Cycle
  pub total : ℕ

abbrev pub inner : List DueWrite → Cycle → ℕ → Inner
inner ws c n = record { writes = ws; record' = c; total = n }

abbrev pub first : DueWrite → Inner → Inner
first w i = inner (w ∷ i.writes) i.record' i.total

-- while item.next_time <= until && count < 10000 && writes.len() < max_writes
unfoldable pub counted_loop : ℕ → ℕ → ℤ → ℕ → ℕ → Cycle → Inner
counted_loop zero most u count n c = inner [] c n
counted_loop (suc k) most u count n c =
    cond (le_z c.next u && ltb count cycle_writes && ltb n most)
    (first (write_of c) (counted_loop k most u (count + 1) (n + 1) (advanced c)))
    (inner [] c n)

-- while item.next_time <= until && writes.len() < max_writes
unfoldable pub record_loop : ℕ → ℕ → ℤ → ℕ → Cycle → Inner
record_loop zero most u n c = inner [] c n
record_loop (suc k) most u n c =
    cond (le_z c.next u && ltb n most) (first (write_of c) (record_loop k most u (n + 1) (advanced c))) (inner [] c n)

-- what the loop over the table leaves
pub record Outer : Type 0 where
  pub writes : List DueWrite
  pub table : List Cycle

abbrev pub joined : Inner → Outer → Outer
joined i o = record { writes = i.writes ++ o.writes; table = i.record' ∷ o.table }

-- the loop over the table, one record after the other; it breaks once the total is reached
unfoldable pub table_loop : (ℕ → Cycle → Inner) → ℕ → ℕ → List Cycle → Outer
table_loop loop most n [] = record { writes = []; table = [] }
table_loop loop most n (c ∷ cs) =
    let i = loop n c in
    joined i (cond (leb most i.total) (record { writes = []; table = cs }) (table_loop loop most i.total cs))

-- what both loops collect of a table, at most `most` writes: with the count, and without
abbrev pub with_count : ℕ → ℕ → ℤ → List Cycle → Outer
with_count k most u tab = table_loop (λ (n : ℕ) (c : Cycle). counted_loop k most u 0 n c) most 0 tab

abbrev pub without_count : ℕ → ℕ → ℤ → List Cycle → Outer
without_count k most u tab = table_loop (λ (n : ℕ) (c : Cycle). record_loop k most u n c) most 0 tab

-- a limit at which the count for each record stops nothing, whatever the table holds
unfoldable pub Unstopped : ℕ → Type 0
Unstopped most = (k : ℕ) (u : ℤ) (tab : List Cycle) → with_count k most u tab ≡ without_count k most u tab

module _ {E : Type 0} (f : Turn E) where
  abbrev pub pushed : State E → Outer → State E
  pushed s o = push f o.writes (record { table = o.table; budget = s.budget; events = s.events })

  -- the Rust's call: nothing for an empty table; else it collects, count and all, and then pushes up to the first write that does not fit
  unfoldable pub rust_call : ℕ → ℤ → State E → State E
  rust_call k u s = cond (eqb (length s.table) 0) s (pushed s (with_count k (limit s.budget) u s.table))
