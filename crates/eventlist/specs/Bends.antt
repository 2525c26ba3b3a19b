-- `remove_pitch_bend_in_range`: the bends of a stretch of time are taken out, its end included.
use Rattle.std.specs.Prelude.{cond, ◌&&◌, List, ℕ, eqb, ℤ, pos, ◌+ℤ◌, length}
use Rattle.laws.specs.Rows.{flat}
use Rattle.numbers.specs.Ranges.{is_time}
use Rattle.events.specs.Kinds.{pitch_bend}
use Rattle.eventlist.specs.declared.Taken.{Taken}
use Rattle.eventlist.specs.declared.Window.{Window}
use Rattle.eventlist.specs.Rows.{numbers_of}
use Rattle.eventlist.specs.Sound.{is_list, ok_events}
use Rattle.eventlist.specs.Windows.{kept_by, rows_kept}

-- [start, end + 1), as the Rust has it
abbrev pub bends_in : ℤ → ℤ → Window
bends_in start end = record { kind = pitch_bend; number = pos 0; start = start; end = end +ℤ pos 1 }

-- a list that is none gives 1; a time outside ±2^40, or an event below the count that may not be stored, gives 4
unfoldable pub bends_refusal : ℕ → List ℤ → ℕ → ℤ → ℤ → ℕ
bends_refusal store l count start end =
    cond (is_list l count) (cond (is_time start && is_time end && ok_events store l count) 0 4) 1

-- the answer: a call that is refused hands the count back
abbrev pub bends_taken : ℕ → List ℤ → ℕ → ℤ → ℤ → Taken
bends_taken store l count start end =
    record {
      code = bends_refusal store l count start end;
      count = cond (eqb (bends_refusal store l count start end) 0) (length (kept_by (bends_in start end) l count)) count;
    }

-- every number of the list afterwards
abbrev pub bends_left : ℕ → List ℤ → ℕ → ℤ → ℤ → List ℤ
bends_left store l count start end =
    cond (eqb (bends_refusal store l count start end) 0) (flat numbers_of (rows_kept (bends_in start end) l count)) l
