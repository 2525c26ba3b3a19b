-- `put_done`: the first line, and the events' behind it.
use native.Mathlib.Omega.{arith}
use Rattle.lines.specs.Lines.{done_text}
use Rattle.lines.proofs.Putting.{behind}
use Rattle.lines.proofs.put_done.Goals as goal

pub returns : goal.returns
unfolding done_text
returns c =
    let f = c.put_first-p.ensures in
    behind (omega arith) f.puts c.put_lines.ensures
