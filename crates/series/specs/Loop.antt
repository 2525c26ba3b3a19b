-- 02, k): what the Rust's calls, each with its count of 10,000 for each record, leave of what is lent, one after the other: the next is handed
-- what the one before left.
use Rattle.std.specs.Prelude.{List, ℕ, ℤ}
use Rattle.state.specs.declared.Track.{Track}
use Rattle.cycling.specs.declared.Cycled.{Cycled}
use Rattle.cycling.specs.Series.{Lent}
use Rattle.cycling.specs.Loop.{rust_answer, rust_list}
use Rattle.lending.specs.Passing.{ran}

module _ (k : ℕ) (a : Track) where
  abbrev pub rust_answer_to : ℤ → Lent → Cycled
  rust_answer_to u s = rust_answer k a s.cycles u s.budget s.list s.count

  abbrev pub rust_to : ℤ → Lent → Lent
  rust_to u s =
      record {
        cycles = (rust_answer_to u s).cycles;
        budget = (rust_answer_to u s).budget;
        list = rust_list k a s.cycles u s.budget s.list s.count;
        count = (rust_answer_to u s).count;
      }

  abbrev pub rust_after : List ℤ → Lent → Lent
  rust_after us s = ran (λ (x : Lent) (u : ℤ). rust_to u x) s us
