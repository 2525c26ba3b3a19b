-- `added` is safe: where the list is not full there is a record after its last.
use Rattle.std.proofs.Common.{arith}
use Rattle.std.proofs.lemmas.Bool.{ltb-true}
use Rattle.eventlist.proofs.EventRows.{length-rows_of}
use Rattle.script.proofs.Asking.{held}
use Rattle.partcalls.proofs.family3.added.Goals as goal

pub append-requires : goal.append-requires
append-requires c =
    let r = length-rows_of c.args.events.now in
    omega (arith, ltb-true _ _ (held _ _ c.in_ok-ask-3.ensures))
