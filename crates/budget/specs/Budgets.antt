-- 01, "Random", "On-time curves" and item 3: the budget record, which every write is lent and advances.
use Rattle.std.specs.Prelude.{Bool, cond, ◌&&◌, ℕ, ◌+◌, ◌-◌, ◌/◌, leb, ℤ}
use Rattle.numbers.specs.Random.{next_rand, spread, seed_after}
use Rattle.numbers.specs.Ranges.{is_bytes}
use Rattle.numbers.specs.Limits.{value_bytes}
use Rattle.budget.specs.declared.Budget.{Budget}
use Rattle.budget.specs.declared.BudgetAnswer.{BudgetAnswer}
use Rattle.budget.specs.declared.Rolled.{Rolled}

-- "budget maximum and bytes used: 0 to 67,108,864; used may exceed the maximum"; the flag is 0 or 1
unfoldable pub ok_budget : Budget → Bool
ok_budget b = is_bytes b.maximum && is_bytes b.used && leb b.over 1

-- a budget of which nothing is used
abbrev pub unspent : ℕ → ℕ → Budget
unspent y n = record { seed = y; maximum = n; used = 0; over = 0 }

-- a new budget; 4 and a budget of zeros where the maximum is outside its range
unfoldable pub new_budget : ℕ → ℕ → BudgetAnswer
new_budget y n = cond (is_bytes n) (record { code = 0; budget = unspent y n }) (record { code = 4; budget = unspent 0 0 })

-- maximum - used, at least 0
abbrev pub free : Budget → ℕ
free b = b.maximum - b.used

-- how many writes of `size` bytes still fit
abbrev pub room : ℕ → Budget → ℕ
room size b = free b / size

-- "step budget: (maximum - used, at least 0) / 8 + 1"
abbrev pub step_budget : Budget → ℕ
step_budget b = room value_bytes b + 1

-- the same budget with the seed y
abbrev pub seeded : Budget → ℕ → Budget
seeded b y = record { seed = y; maximum = b.maximum; used = b.used; over = b.over }

-- the same budget, its flag set where t holds
abbrev pub flagged : Budget → Bool → Budget
flagged b t = record { seed = b.seed; maximum = b.maximum; used = b.used; over = cond t 1 b.over }

-- the seed stepped once
abbrev pub stepped : Budget → Budget
stepped b = seeded b (next_rand b.seed)

-- "it steps before the budget is asked": a value with random n, and the budget after it
abbrev pub rolled : ℤ → ℤ → Budget → Rolled
rolled v n b = record { value = spread v n (next_rand b.seed); budget = seeded b (seed_after n b.seed) }

-- `size` bytes, at least 1 as every event has, are still free
abbrev pub fits : ℕ → Budget → Bool
fits size b = leb size (free b)

-- what asking for `size` bytes leaves: what fits is used, what does not sets the flag and uses nothing
abbrev pub reserved : ℕ → Budget → Budget
reserved size b =
    record {
      seed = b.seed;
      maximum = b.maximum;
      used = cond (fits size b) (b.used + size) b.used;
      over = cond (fits size b) b.over 1;
    }
