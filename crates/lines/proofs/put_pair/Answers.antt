-- `put_pair`: a word and a number, and the same behind them.
use native.Mathlib.Omega.{arith}
use Rattle.lines.proofs.Putting.{behind}
use Rattle.lines.specs.Lines.{pair_text}
use Rattle.lines.proofs.put_pair.Goals as goal

pub returns : goal.returns
unfolding pair_text
returns c =
    let g = c.put_word-p.ensures in
    let d = c.put_word.ensures in
    record { puts = behind (omega (arith, c.requires.2)) g.puts d.puts; upper_bound = omega (arith, g.upper_bound, d.upper_bound) }
