-- 01, "Cycles": one call of a cycle table, and a series of them.
-- E is what a write becomes: the theorems hold whatever random, range, delay, clamp and channel do.
use Rattle.std.specs.Prelude.{◌≡◌, cond, List, [], ◌∷◌, ◌++◌, ℕ, zero, suc, ◌+◌, min, ℤ, ◌≤ℤ◌}
use Rattle.laws.specs.Integers.{eq_z}
use Rattle.numbers.specs.Limits.{cycle_writes, value_bytes}
use Rattle.budget.specs.declared.Budget.{Budget}
use Rattle.budget.specs.Budgets.{room, fits, reserved}
use Rattle.cycles.specs.declared.Cycle.{Cycle}
use Rattle.cycles.specs.Due.{DueWrite, takes, leaves}

-- what a call is lent and leaves
pub record State (E : Type 0) : Type 0 where
  pub table : List Cycle
  pub budget : Budget
  pub events : List E

-- one value: from a write and the seed, the event and the seed after it
abbrev pub Turn : Type 0 → Type 0
Turn E = DueWrite → ℕ → E × ℕ

abbrev pub seeded : Budget → ℕ → Budget
seeded b y = record { seed = y; maximum = b.maximum; used = b.used; over = b.over }

-- "at most min(free/8 + 1, 10,000) writes"
unfoldable pub limit : Budget → ℕ
limit b = min (room value_bytes b + 1) cycle_writes

module _ {E : Type 0} (f : Turn E) where
  -- one write: the seed steps before the budget is asked, and a write that does not fit is lost and sets the flag
  unfoldable pub wrote : DueWrite → State E → State E
  wrote w s =
      let b = s.budget in
      record {
        table = s.table;
        budget = reserved value_bytes (seeded b (f w b.seed).1);
        events = cond (fits value_bytes b) (s.events ++ ((f w b.seed).0 ∷ [])) s.events;
      }

  -- writes one after the other, up to the first that does not fit
  unfoldable pub push : List DueWrite → State E → State E
  push [] s = s
  push (w ∷ ws) s = cond (fits value_bytes s.budget) (push ws (wrote w s)) (wrote w s)

  -- the same with no stop
  unfoldable pub push_all : List DueWrite → State E → State E
  push_all [] s = s
  push_all (w ∷ ws) s = push_all ws (wrote w s)

  -- the events, and the seed, of writes that all fit
  unfoldable pub events_of : List DueWrite → ℕ → List E
  events_of [] y = []
  events_of (w ∷ ws) y = (f w y).0 ∷ events_of ws (f w y).1

  unfoldable pub seed_of : List DueWrite → ℕ → ℕ
  seed_of [] y = y
  seed_of (w ∷ ws) y = seed_of ws (f w y).1

-- the writes that a call takes
unfoldable pub share : {E : Type 0} → ℤ → State E → List DueWrite
share u s = takes (limit s.budget) u s.table

-- "records advance first": the table after a call, with nothing written yet
unfoldable pub moved : {E : Type 0} → ℤ → State E → State E
moved u s = record { table = leaves (limit s.budget) u s.table; budget = s.budget; events = s.events }

module _ {E : Type 0} (f : Turn E) where
  -- one accepted call
  unfoldable pub call : ℤ → State E → State E
  call u s = push f (share u s) (moved u s)

  -- a series of calls, each handed what the one before left, and all the writes that they took
  unfoldable pub series : List ℤ → State E → State E
  series [] s = s
  series (u ∷ us) s = series us (call u s)

  unfoldable pub made : List ℤ → State E → List DueWrite
  made [] s = []
  made (u ∷ us) s = share u s ++ made us (call u s)

  -- what a call leaves that answers n: if refused, what it was handed
  unfoldable pub answered : ℕ → ℤ → State E → State E
  answered zero u s = call u s
  answered (suc n) u s = s

  module _ (code : ℤ → State E → ℕ) where
    -- what a series leaves, where `code` is the number that a call answers
    unfoldable pub calls : List ℤ → State E → State E
    calls [] s = s
    calls (u ∷ us) s = calls us (answered (code u s) u s)

    -- every call of the series was accepted
    unfoldable pub Accepted : List ℤ → State E → Type 0
    Accepted [] s = Unit {0}
    Accepted (u ∷ us) s = (code u s ≡ 0) × Accepted us (answered (code u s) u s)

-- none past T; how many exactly at T
unfoldable pub Until : ℤ → List ℤ → Type 0
Until t [] = Unit {0}
Until t (u ∷ us) = (u ≤ℤ t) × Until t us

unfoldable pub hits : ℤ → List ℤ → ℕ
hits t [] = 0
hits t (u ∷ us) = cond (eq_z u t) 1 0 + hits t us
