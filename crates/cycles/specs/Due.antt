-- 01, "Cycles": the writes that a cycle owes up to a time, and how much of them a call takes.
-- A table is the list of its used records: those whose place is below the track's count. No rule here asks a budget.
use Rattle.std.specs.Prelude.{cond, List, [], ◌∷◌, ◌++◌, ℕ, zero, suc, ◌+◌, ◌-◌, ◌/◌, ◌%◌, min, eqb, ℤ, pos, ◌+ℤ◌, ◌-ℤ◌, get_or}
use Rattle.laws.specs.Integers.{cut}
use Rattle.numbers.specs.Ranges.{is_target}
use Rattle.cycles.specs.declared.Cycle.{Cycle}

-- a write that is due, before random, range, delay and clamp
pub record DueWrite : Type 0 where
  pub target : ℤ
  pub time : ℤ
  pub value : ℤ

-- the write at a record's next time
unfoldable pub write_of : Cycle → DueWrite
write_of c = record { target = c.target; time = c.next; value = get_or c.values.items c.index (pos 0) }

-- the record once that write is taken: one length later, at the value after it
unfoldable pub advanced : Cycle → Cycle
advanced c =
    record {
      target = c.target;
      length = c.length;
      next = c.next +ℤ c.length;
      index = (c.index + 1) % c.values.count;
      values = c.values;
    }

-- a record's next k writes, and the record after them
unfoldable pub run : ℕ → Cycle → List DueWrite
run zero c = []
run (suc k) c = write_of c ∷ run k (advanced c)

unfoldable pub after : ℕ → Cycle → Cycle
after zero c = c
after (suc k) c = after k (advanced c)

-- how many whole numbers there are from n up to t, both ends included
unfoldable pub gap : ℤ → ℤ → ℕ
gap t n = cut (t +ℤ pos 1 -ℤ n)

-- how many of g numbers in a row stand at a multiple of l from the first
unfoldable pub steps : ℕ → ℕ → ℕ
steps zero l = zero
steps (suc d) l = suc (d / l)

-- "a record's writes due up to T stand at its next time and at every further length from it": (T - next) / length + 1
-- of them, and none where T is before the next time
unfoldable pub due_count : ℤ → Cycle → ℕ
due_count t c = steps (gap t c.next) (cut c.length)

unfoldable pub due : ℤ → Cycle → List DueWrite
due t c = run (due_count t c) c

-- those of a table, one record's before the next record's
unfoldable pub dues : ℤ → List Cycle → List DueWrite
dues t [] = []
dues t (c ∷ cs) = due t c ++ dues t cs

-- D, the number of them
unfoldable pub owed : ℤ → List Cycle → ℕ
owed t [] = 0
owed t (c ∷ cs) = due_count t c + owed t cs

-- at most m of them, "in table order, one record's due writes before the next record's": the writes, and the table after
unfoldable pub takes : ℕ → ℤ → List Cycle → List DueWrite
takes m t [] = []
takes m t (c ∷ cs) = run (min m (due_count t c)) c ++ takes (m - due_count t c) t cs

unfoldable pub leaves : ℕ → ℤ → List Cycle → List Cycle
leaves m t [] = []
leaves m t (c ∷ cs) = after (min m (due_count t c)) c ∷ leaves (m - due_count t c) t cs

-- a target's code; one that is no target's, which every call refuses by 2, counts as 0
unfoldable pub code_of : ℤ → ℕ
code_of z = cond (is_target z) (cut z) 0

-- both bends, 128 and 129, are one target
abbrev pub key : ℤ → ℕ
key z = min (code_of z) 128

-- the writes of one target
unfoldable pub only : ℕ → List DueWrite → List DueWrite
only a [] = []
only a (w ∷ ws) = cond (eqb a (key w.target)) (w ∷ only a ws) (only a ws)
