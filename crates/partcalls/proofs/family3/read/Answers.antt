-- `read` is safe: a place below the count of a list that is one has a record.
use Rattle.std.proofs.Common.{◌∙◌, sym, arith}
use Rattle.std.proofs.lemmas.Bool.{ltb-true}
use Rattle.eventlist.proofs.Sound.{list-within}
use Rattle.script.proofs.Asking.{held}
use Rattle.partcalls.proofs.family3.read.Goals as goal

pub records_ok-requires : goal.records_ok-requires
records_ok-requires c = list-within c.args.events.now c.args.count (sym c.list_ok.ensures ∙ held c.list_ok.result _ c.in_ok-ask.ensures)

pub read_event-requires : goal.read_event-requires
read_event-requires c =
    let l = list-within c.args.events.now c.args.count (sym c.list_ok.ensures ∙ held c.list_ok.result _ c.in_ok-ask.ensures) in
    omega (arith, ltb-true _ _ (held _ _ c.in_ok-ask-3.ensures))
