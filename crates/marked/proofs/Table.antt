-- Every marked case holds: each is computed from the definitions that the public contracts cite.
use Rattle.marked.specs.Marked.{Marked}
use Rattle.marked.proofs.Drawn.{seeds, bend-0, bend-1, curves, lists}
use Rattle.marked.proofs.Valued as valued
use Rattle.marked.proofs.Waved.{seven, fifteen}
use Rattle.marked.proofs.Cycled.{set_is, plenty, scarce}
use Rattle.marked.proofs.Cut as cut

pub table : Marked
table =
    record {
      seed-1 = seeds.0;
      seed-0 = seeds.1;
      bend-0 = bend-0;
      bend-1 = bend-1;
      half_up = (valued.both).0;
      half_down = (valued.both).1;
      curve-88 = curves.0;
      curve-87 = curves.1;
      expand-7 = seven;
      expand-15 = fifteen;
      cycle-set = set_is;
      cycle-plenty = plenty;
      cycle-scarce = scarce;
      cut-plain = (cut.both).0;
      cut-full = (cut.both).1;
      list-longest = lists.0;
      list-too-long = lists.1;
    }
