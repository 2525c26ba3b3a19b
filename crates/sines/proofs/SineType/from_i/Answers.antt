-- Each arm's key is the number's bits, and those of a number that fits tell it.
use mathlib.Core.Path.{refl}
use lib.Dec.{lit<}
use lib.IntN.{pos}
use mir.Syntax.{w64}
use mir.Val.{SFits}
use borrow.Author.Rules.{rules}
use Rattle.laws.proofs.Bits.{bits-eq, bits-differ}
use Rattle.sines.proofs.SineType.from_i.Goals as goal

one : SFits w64 (pos 1)
one = record { sfits = lit< tt }

two : SFits w64 (pos 2)
two = record { sfits = lit< tt }

pub returns-in-1 : goal.returns-in-1
returns-in-1 c = rw (bits-eq c.ranges.v one (search rules)) refl

pub returns-in-2 : goal.returns-in-2
returns-in-2 c = rw (bits-eq c.ranges.v two (search rules)) refl

pub returns-in_default : goal.returns-in_default
returns-in_default c = rw (bits-differ c.ranges.v one (search rules), bits-differ c.ranges.v two (search rules)) refl
