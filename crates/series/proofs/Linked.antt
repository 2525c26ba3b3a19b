-- The call of the linked library, which lends the count too, admits what the lent call admits: so what is proved of every series of lent
-- calls is proved of its series.
use mathlib.Core.Path.{refl, ap₂}
use mathlib.Core.List.{List}
use Prim.Native.Nat.{ℕ}
use lib.IntN.{ℤ}
use lib.ListN.{length}
use Rattle.budget.specs.declared.Budget.{Budget}
use Rattle.cycles.specs.declared.Cycle.{Cycle}
use Rattle.state.specs.declared.Track.{Track}
use Rattle.cycling.specs.Calls.{cycled_of, cycled_list}
use Rattle.cycling.specs.Series.{Lent}
use Rattle.lending.specs.declared.Answer.{Answer}
use Rattle.ctrack.specs.Lent.{CycleWritten}
use Rattle.series.specs.Calls.{Call, Contract}

-- up to u, over s: the number r, and what is left of the count, the budget, the table and the list
abbrev pub linked : ℤ → ℕ → ℕ → Budget → List Cycle → List ℤ → Call
linked u r n b cs m = record { until = u; answer = record { code = r; count = n }; hands = record { cycles = cs; budget = b; list = m; count = n } }

pub linked-contract : (a : Track) (s : Lent) (u : ℤ) (r n : ℕ) (b : Budget) (cs : List Cycle) (m : List ℤ)
    → CycleWritten (cycled_of a (length s.cycles) s.cycles u s.budget s.list s.count) (cycled_list a (length s.cycles) s.cycles u s.budget s.list s.count) r n b cs m
    → Contract a s (linked u r n b cs m)
linked-contract a s u r n b cs m k =
    record {
      answer = ap₂ (λ (x y : ℕ). record { code = x; count = y }) k.code k.count;
      cycles = k.cycles;
      budget = k.budget;
      list = k.events;
      count = refl;
    }
