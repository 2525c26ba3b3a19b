-- `look_over` meets its contract: what is counted and what is left make what is answered (Passes).
use mathlib.Core.Path.{◌≡◌}
use Prim.Native.Nat.{◌-◌}
use lib.ListN.{length}
use Rattle.chunks.specs.Reader.{read_body}
use Rattle.reader.specs.Reading.{kept_in}
use Rattle.reader.specs.Steps.{outlined, counting}
use Rattle.reader.proofs.Passes.{Place, left_at}
use Rattle.reader.proofs.look_over.Given as goal

abbrev pub invariant-loop-q : goal.invariant-loop-q
invariant-loop-q l = Place l.s l.c × (counting l.c.kept l.c.late (outlined (left_at l.s l.c)) ≡ outlined (read_body kept_in l.s))

abbrev pub decreases-loop-q : goal.decreases-loop-q
decreases-loop-q l = length l.s - l.c.at
