-- 01, "On-time curves": a curve's list is read as triples of a low, a high and a length; trailing partial triples are
-- ignored. 01, "Numbers a caller may hand in": the third of each triple is within ±2^20.
use Rattle.std.specs.Prelude.{Bool, ◌&&◌, List, ◌/◌, ℤ, pos, length, get_or}
use Rattle.laws.specs.Lists.{all}
use Rattle.laws.specs.Rows.{rows}
use Rattle.numbers.specs.Ranges.{is_number, is_length}
use Rattle.counted.specs.declared.Numbers.{Numbers}
use Rattle.counted.specs.Numbers.{shown, ok_numbers}

pub record Triple : Type 0 where
  pub low : ℤ
  pub high : ℤ
  pub length : ℤ

abbrev pub triple_of : List ℤ → Triple
triple_of l = record { low = get_or l 0 (pos 0); high = get_or l 1 (pos 0); length = get_or l 2 (pos 0) }

abbrev pub no_triple : Triple
no_triple = record { low = pos 0; high = pos 0; length = pos 0 }

unfoldable pub triples : List ℤ → List Triple
triples l = rows 3 triple_of (length l / 3) l

unfoldable pub has_length : Triple → Bool
has_length t = is_length t.length

-- numbers in range, and a length in each third place
unfoldable pub is_curve : List ℤ → Bool
is_curve l = all is_number l && all has_length (triples l)

unfoldable pub ok_curve : Numbers → Bool
ok_curve a = ok_numbers a && all has_length (triples (shown a))
