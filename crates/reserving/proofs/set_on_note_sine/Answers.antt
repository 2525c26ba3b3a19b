-- `set_on_note_sine`: what is set, with a sine that names the target.
use mathlib.Core.Path.{◌≡◌, ap, ap₂, ◌∙◌}
use mathlib.Core.Bool.{◌&&◌}
use borrow.Author.Rules.{rules}
use lib.Dec.{eqb}
use mir.Syntax.{w32}
use mir.Val.{SFits}
use mir.Facts.{to_z-of_z}
use Rattle.laws.proofs.Tests.{both}
use Rattle.cycles.specs.Due.{key}
use Rattle.tables.specs.Reservations.{ok_sine}
use Rattle.reserving.specs.Setting.{set_on_note_sine}
use Rattle.reserving.proofs.set_on_note_sine.Goals.{After-set}
use Rattle.reserving.proofs.set_on_note_sine.Goals as goal

module _ (c : After-set) where
  -- the sine may be stored and names the target
  tested : (c.sine_ok.result && eqb c.key_of.result c.key_of-2.result) ≡ (ok_sine c.args.sine && eqb (key c.args.sine.target) (key c.args.target))
  tested =
      let f : SFits w32 c.args.sine.target = search rules in
      both c.sine_ok.ensures (ap₂ eqb (c.key_of.ensures ∙ ap key (to_z-of_z f)) (c.key_of-2.ensures ∙ ap key (to_z-of_z c.ranges.target)))

pub returns : goal.returns
unfolding set_on_note_sine
returns c = rw (to_z-of_z c.ranges.target, tested c) at c.set.ensures
