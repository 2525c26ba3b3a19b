-- `is_kept` meets its contract: the kinds of the second arm are asked for the time alone.
use Rattle.std.proofs.Common.{◌≡◌, ◌∙◌, w64, arith}
use Rattle.std.proofs.lemmas.Grind.{common_steps}
use Rattle.std.specs.Int.Signed.{le_z}
use mathlib.Core.Path.{ap₂}
use Rattle.laws.proofs.Fitting.{back}
use Rattle.events.specs.Kinds.{is_kind}
use Rattle.cutting.specs.Cuts.{keeps}
use Rattle.cutting.proofs.is_kept.Goals as goal

pub returns-in-Ok-NoteOn : goal.returns-in-Ok-NoteOn
unfolding keeps is_kind
returns-in-Ok-NoteOn c =
    let rest : le_z c.args.c.at c.args.e.time ≡ keeps c.args.c c.args.e = grind (arith, common_steps) in
    ap₂ le_z (back w64 c.args.c.at (omega arith)) (back w64 c.args.e.time (omega arith)) ∙ rest
