-- A lent table copied into sixteen records by value, and back; one that is not of sixteen is left alone.
use Rattle.std.specs.Prelude.{cond, List, [], eqb, pos, length, replicate}
use Rattle.numbers.specs.Limits.{places}
use Rattle.cycles.specs.declared.Cycle.{Cycle}
use Rattle.cycles.specs.Rules.{no_cycle}

abbrev pub no_cycles : List Cycle
no_cycles = replicate places no_cycle

-- what a read past the end would give
abbrev pub past : Cycle
past = record { target = pos 0; length = pos 0; next = pos 0; index = 0; values = record { count = 0; items = [] } }

-- what loading gives: each of sixteen
unfoldable pub loaded_of : List Cycle → List Cycle
loaded_of ys = cond (eqb (length ys) places) ys no_cycles

-- what saving leaves
unfoldable pub saved_of : List Cycle → List Cycle → List Cycle
saved_of cs ys = cond (eqb (length ys) places) cs ys
