-- `default_cc_value` meets its contract: each arm's number is its key, and in the last it is none.
use borrow.Author.Rules.{rules}
use lib.Dec.{lit<}
use lib.IntN.{pos}
use mir.Syntax.{w64}
use mir.Val.{SFits}
use native.Mathlib.Omega.{arith}
use Rattle.laws.proofs.Bits.{bits-eq, bits-differ}
use Rattle.cutting.specs.Value.{default_of}
use Rattle.cutting.proofs.default_cc_value.Goals as goal

seven : SFits w64 (pos 7)
seven = record { sfits = lit< tt }

ten : SFits w64 (pos 10)
ten = record { sfits = lit< tt }

eleven : SFits w64 (pos 11)
eleven = record { sfits = lit< tt }

pub returns-in-7 : goal.returns-in-7
unfolding default_of
returns-in-7 c = rw (bits-eq c.ranges.number seven (search rules))

pub returns-in-10 : goal.returns-in-10
unfolding default_of
returns-in-10 c = rw (bits-eq c.ranges.number ten (omega arith))

pub returns-in-11 : goal.returns-in-11
unfolding default_of
returns-in-11 c = rw (bits-eq c.ranges.number eleven (cc))

pub returns-in_default : goal.returns-in_default
unfolding default_of
returns-in_default c =
    let f = c.ranges.number in
    rw (bits-differ f seven (search rules), bits-differ f ten (λ e. omega arith), bits-differ f eleven (search rules))
