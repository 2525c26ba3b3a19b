-- `put_refusal`: a pair and the end of the line.
use native.Mathlib.Omega.{arith}
use Rattle.lines.proofs.Putting.{puts, behind}
use Rattle.lines.specs.Lines.{refusal_text}
use Rattle.lines.proofs.put_refusal.Goals as goal

pub returns : goal.returns
unfolding refusal_text
returns c =
    let g = c.put_pair-p.ensures in
    let d = c.put_byte.ensures in
    behind (omega arith) g.puts (puts d.0 d.1)
