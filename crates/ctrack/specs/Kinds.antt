-- What is an enum to the calls by value, as the numbers that a C program is told.
use Rattle.std.specs.Prelude.{pos, length}
use Rattle.laws.specs.Answers.{Said}
use Rattle.reserved.specs.Reserve.{first_or}
use Rattle.ctrack.specs.declared.CycleTold.{CycleTold}

-- the number, whether there is a value, and the value, 0 where there is none
abbrev pub told_of : Said → CycleTold
told_of s = record { code = s.number; found = length s.values; value = first_or (pos 0) s.values }
