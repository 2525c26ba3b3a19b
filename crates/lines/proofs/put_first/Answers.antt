-- `put_first`: two pairs and the end of the line.
use native.Mathlib.Omega.{arith}
use Rattle.lines.proofs.Putting.{puts, behind}
use Rattle.lines.specs.Lines.{first_text}
use Rattle.lines.proofs.put_first.Goals as goal

pub returns : goal.returns
unfolding first_text
returns c =
    let f = c.put_pair-p.ensures in
    let g = c.put_pair-q.ensures in
    let d = c.put_byte.ensures in
    record { puts = behind (omega arith) (behind (omega arith) f.puts g.puts) (puts d.0 d.1); upper_bound = omega (arith, f.upper_bound, g.upper_bound, d.1) }
