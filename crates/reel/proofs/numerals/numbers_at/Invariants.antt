-- `numbers_at` lays the numbers over the zeros of an empty list, one a turn (the law Over).
use Rattle.std.proofs.Common.{◌≡◌, List, ℤ}
use Rattle.laws.specs.Lists.{over}
use Rattle.counted.specs.declared.Numbers.{Numbers}
use Rattle.counted.specs.Numbers.{zeros}
use Rattle.reel.specs.Numbers.{numbers_at}
use Rattle.reel.proofs.numerals.numbers_at.Given as goal

abbrev pub uncounted : List ℤ → Numbers
uncounted l = record { count = 0; items = l }

abbrev pub invariant-loop-i : goal.invariant-loop-i
invariant-loop-i l = l.list ≡ uncounted (over zeros (numbers_at l.tape l.at l.n) l.i)
