-- What demand 3 asks can be met: two targets, one of them a bend from before 0, eight writes due up to 100, two calls, and a
-- budget that they use up.
use mathlib.Core.Path.{◌≡◌, refl, ◌∙◌}
use mathlib.Core.Bool.{Bool, true, false, cond}
use mathlib.Core.List.{List, [], ◌∷◌}
use Prim.Native.Nat.{ℕ}
use native.Mathlib.Omega.{arith}
use lib.IntN.{ℤ, pos, negsuc}
use lib.Signed.{le_z_yes}
use Rattle.laws.specs.Integers.{inside, sized}
use Rattle.laws.specs.Lists.{all, counted}
use Rattle.laws.specs.Keys.{absent, distinct}
use Rattle.numbers.specs.Ranges.{is_target, is_length, is_stored_time, is_number}
use Rattle.counted.specs.Numbers.{ok_numbers}
use Rattle.cycles.specs.declared.Cycle.{Cycle}
use Rattle.cycles.specs.Due.{DueWrite, write_of, advanced, run, after, gap, steps, due_count, owed, takes, leaves, code_of}
use Rattle.cycles.specs.Rules.{ok_cycle, ok_table}
use Rattle.cycles.specs.Calls.{State, Turn, limit, wrote, push, share, moved, call, series, answered, Accepted, Until, hits}
use Rattle.cycles.specs.Promise.{Done}
use Rattle.cycles.proofs.Series.{demand-3}

abbrev plain : Turn DueWrite
plain w y = (w, y)

-- 4 where the table is against the rules
unfoldable pub code : ℤ → State DueWrite → ℕ
code u s = cond (ok_table s.table) 0 4

strict : (u : ℤ) (s : State DueWrite) → code u s ≡ 0 → ok_table s.table ≡ true
unfolding code
strict u s e = go (ok_table s.table) e
  where
    go : (b : Bool) → ◌≡◌ {A = ℕ} (cond b 0 4) 0 → b ≡ true
    go true e = refl
    go false e = absurd (omega arith)

-- "cycle 24 with 10,20,30", the value at `i` next, at time n
abbrev tens : ℤ → ℕ → Cycle
tens n i = record { target = pos 11; length = pos 24; next = n; index = i; values = record { count = 3; items = pos 10 ∷ pos 20 ∷ pos 30 ∷ [] } }

abbrev bend : Cycle
bend = record { target = pos 128; length = pos 50; next = negsuc 9; index = 0; values = record { count = 1; items = pos 7 ∷ [] } }

abbrev two : State DueWrite
two = record { table = tens (pos 0) 0 ∷ bend ∷ []; budget = record { seed = 1; maximum = 100; used = 36; over = 0 }; events = [] }

abbrev asks : List ℤ
asks = pos 30 ∷ pos 100 ∷ []

eight : owed (pos 100) two.table ≡ 8
unfolding owed due_count gap steps
eight = refl

once : hits (pos 100) asks ≡ 1
unfolding hits
once = refl

accepted : Accepted plain code asks two
unfolding Accepted code ok_table all counted ok_cycle ok_numbers is_target is_length is_stored_time is_number inside sized distinct absent answered call push wrote share moved limit takes leaves due_count steps gap run after advanced write_of code_of
accepted = (refl, (refl, tt))

none-past : Until (pos 100) asks
unfolding Until
none-past = (le_z_yes tt, (le_z_yes tt, tt))

pub met : Done plain (pos 100) asks two
met = (demand-3 plain code strict (pos 100) asks two accepted none-past (omega (arith, eight)) (omega (arith, eight, once))).1

pub all-spent : (series plain asks two).budget.used ≡ 100
all-spent = met.bytes ∙ omega (arith, eight)
