-- `cycles::write_limit`: the lesser of the two, and so within the bound under which a count for each record stops nothing.
use mathlib.Core.Path.{◌∙◌}
use native.Mathlib.Omega.{arith}
use Rattle.cycles.specs.Calls.{limit}
use Rattle.cycles.proofs.Loop.{unstopped}
use Rattle.cycles.proofs.write_limit.Goals as goal

pub returns : goal.returns
unfolding limit
returns c =
    let m = c.min.ensures in
    let f = c.from.ensures ∙ c.safe_iteration_limit.ensures in
    (unstopped c.min.result (omega arith), omega arith)
