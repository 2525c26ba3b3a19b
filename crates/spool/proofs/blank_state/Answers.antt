use Rattle.spool.proofs.Steps.{blank-by}
use Rattle.spool.proofs.blank_state.Goals as goal

pub returns : goal.returns
returns c = blank-by c.new.ensures c.no_cycles-table.ensures c.new-2.ensures
