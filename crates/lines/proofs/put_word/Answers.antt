-- `put_word`: the word, and the number behind it.
use native.Mathlib.Omega.{arith}
use Rattle.lines.proofs.Putting.{puts, behind}
use Rattle.lines.proofs.put_word.Goals as goal

pub returns : goal.returns
returns c =
    let g = c.put-p.ensures in
    let d = c.put_decimal.ensures in
    record { puts = behind (omega (arith, c.requires.1)) (puts g.0 g.1) (puts d.0 d.1); upper_bound = omega (arith, c.requires.0, g.1, d.2) }
