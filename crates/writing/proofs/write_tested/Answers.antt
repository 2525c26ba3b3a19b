-- The survey tests the events; where they pass it has seen what the window takes, and `write_core` does the rest.
use mathlib.Core.Path.{◌≡◌, sym, ap, ◌∙◌}
use mathlib.Core.List.{[], ◌∷◌}
use native.Mathlib.Omega.{arith}
use Rattle.eventlist.specs.declared.Window.{Window}
use Rattle.eventlist.proofs.Surveying.{refusing, surveyed}
use Rattle.offers.specs.Waves.{triples}
use Rattle.writing.specs.Origins.{pieces_of}
use Rattle.writing.proofs.Origins.{far}
use Rattle.writing.proofs.Writes.{passes, fails}
use Rattle.writing.proofs.write_tested.Goals as goal

pub window_of-requires : goal.window_of-requires
window_of-requires c =
    let f = far (triples c.args.numbers.now) c.args.origin c.requires.1 in
    let l = c.requires.3 in
    (c.requires.0, omega arith)

pub write_core-requires-clause-windows_value : goal.write_core-requires-clause-windows_value
write_core-requires-clause-windows_value c = (
  ap (λ (x : Window). x ∷ []) c.window_of.ensures,
  (surveyed c.args.store _ c.args.events.now c.args.count c.requires.4 _ (sym c.in-Ok.is ∙ c.survey.ensures)).1,
)

pub returns-in-Ok : goal.returns-in-Ok
returns-in-Ok c =
    let a = c.args in
    let s = surveyed a.store _ a.events.now a.count c.requires.4 _ (sym c.in-Ok.is ∙ c.survey.ensures) in
    let p = passes a.store a.w a.b a.events.now a.count (pieces_of (triples a.numbers.now) a.origin) s.0 in
    (c.write_core.ensures.0 ∙ sym p.0, c.write_core.ensures.1 ∙ sym p.1)

pub returns-in-Err : goal.returns-in-Err
returns-in-Err c =
    let a = c.args in
    let s = refusing a.store _ a.events.now a.count c.requires.4 _ (sym c.in-Err.is ∙ c.survey.ensures) in
    let f = fails a.store a.w a.b a.events.now a.count (pieces_of (triples a.numbers.now) a.origin) s.1 in
    rw (c.number.ensures, s.0) (sym f.0, sym f.1)
