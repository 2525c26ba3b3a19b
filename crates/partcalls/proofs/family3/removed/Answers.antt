-- `removed` is safe: a list that is one holds its count of records, and a survey says what the window takes.
use Rattle.std.proofs.Common.{◌∙◌, sym, length}
use Rattle.eventlist.proofs.Sound.{list-within}
use Rattle.eventlist.proofs.Surveying.{surveyed}
use Rattle.script.proofs.Asking.{held}
use Rattle.partcalls.proofs.family3.removed.Goals as goal

pub survey-requires : goal.survey-requires
survey-requires c = list-within c.args.events.now c.args.count (sym c.list_ok.ensures ∙ held c.list_ok.result _ c.in_ok-ask.ensures)

pub clear_windows-cleared-requires : goal.clear_windows-cleared-requires
clear_windows-cleared-requires c =
    let s = c.args in
    let l = list-within s.events.now s.count (sym c.list_ok.ensures ∙ held c.list_ok.result _ c.in_ok-ask.ensures) in
    (l, (surveyed (length s.store.now) _ s.events.now s.count l _ (sym c.in_ok-seen.was ∙ c.survey.ensures)).1)
