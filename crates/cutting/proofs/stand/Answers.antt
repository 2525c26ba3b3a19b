-- `stand` meets its contract: from the cut on nothing is folded, and before it an event is folded as its kind alone (`folds-alone`).
use mathlib.Core.Path.{refl, ap, ap₂, sym, ◌∙◌}
use lib.Signed.{le_z}
use mir.Syntax.{w64}
use native.Mathlib.Omega.{arith}
use Rattle.laws.proofs.Fitting.{back}
use Rattle.laws.proofs.Order.{le_not_lt, nle-lt}
use Rattle.events.specs.Kinds.{control_change, pitch_bend, voice, kind_number}
use Rattle.cutting.specs.ByTime.{stood}
use Rattle.cutting.proofs.Folding.{folds-alone, folds-early, folds-late, folds_is}
use Rattle.std.proofs.Common.{◌≡◌, false}
use Rattle.std.proofs.lemmas.Grind.{common_steps}
use Rattle.laws.specs.Integers.{eq_z, inside}
use Rattle.events.specs.Kinds.{is_kind}
use Rattle.cutting.proofs.stand.Goals as goal

pub returns-then-c-e : goal.returns-then-c-e
unfolding stood
returns-then-c-e c =
    let a = c.args in
    let late = le_not_lt a.c.at a.e.time (sym (ap₂ le_z (back w64 a.c.at (omega arith)) (back w64 a.e.time (omega arith))) ∙ c.if-c-e.true) in
    rw (folds-late voice a.c.at a.e late, folds-late control_change a.c.at a.e late, folds-late pitch_bend a.c.at a.e late)

pub returns-in-Ok-Voice : goal.returns-in-Ok-Voice
unfolding stood
returns-in-Ok-Voice c =
    let a = c.args in
    let early = nle-lt a.c.at a.e.time (sym (ap₂ le_z (back w64 a.c.at (omega arith)) (back w64 a.e.time (omega arith))) ∙ c.if-c-e.false) in
    let f = folds_is voice a.c.at a.e early (sym (back w64 a.e.kind (omega arith)) ∙ c.in-Ok-Voice.ensures ∙ ap kind_number c.in-Ok-Voice.field-0-is) in
    rw (c.later.ensures, c.later-in-Ok-Voice.ensures, f, folds-alone voice a.c.at a.e f pitch_bend refl, back w64 a.s.program.event.time (omega arith), back w64 a.s.channel.event.time (omega arith))

pub returns-in-Ok-ControlChange : goal.returns-in-Ok-ControlChange
unfolding stood
returns-in-Ok-ControlChange c =
    let a = c.args in
    let early = nle-lt a.c.at a.e.time (sym (ap₂ le_z (back w64 a.c.at (omega arith)) (back w64 a.e.time (omega arith))) ∙ c.if-c-e.false) in
    let f = folds_is control_change a.c.at a.e early (sym (back w64 a.e.kind (omega arith)) ∙ c.in-Ok-ControlChange.ensures ∙ ap kind_number c.in-Ok-ControlChange.field-0-is) in
    rw (c.later-in-Ok-ControlChange.ensures, folds-alone control_change a.c.at a.e f voice refl, f, folds-alone control_change a.c.at a.e f pitch_bend refl, back w64 a.s.channel.event.time (omega arith))

pub returns-in-Ok-PitchBend : goal.returns-in-Ok-PitchBend
unfolding stood
returns-in-Ok-PitchBend c =
    let a = c.args in
    let early = nle-lt a.c.at a.e.time (sym (ap₂ le_z (back w64 a.c.at (omega arith)) (back w64 a.e.time (omega arith))) ∙ c.if-c-e.false) in
    let f = folds_is pitch_bend a.c.at a.e early (sym (back w64 a.e.kind (omega arith)) ∙ c.in-Ok-PitchBend.ensures ∙ ap kind_number c.in-Ok-PitchBend.field-0-is) in
    rw (c.later-in-Ok-PitchBend.ensures, folds-alone pitch_bend a.c.at a.e f voice refl, folds-alone pitch_bend a.c.at a.e f control_change refl, f, back w64 a.s.bend.event.time (omega arith))

pub returns-in_default : goal.returns-in_default
unfolding stood is_kind inside
returns-in_default c =
    let a = c.args in
    let early = nle-lt a.c.at a.e.time (sym (ap₂ le_z (back w64 a.c.at (omega arith)) (back w64 a.e.time (omega arith))) ∙ c.if-c-e.false) in
    let same = back w64 a.e.kind (omega arith) in
    let p : eq_z a.e.kind voice ≡ false = grind (arith, common_steps) in
    let q : eq_z a.e.kind control_change ≡ false = grind (arith, common_steps) in
    let b : eq_z a.e.kind pitch_bend ≡ false = grind (arith, common_steps) in
    rw (folds-early voice a.c.at a.e early ∙ p, folds-early control_change a.c.at a.e early ∙ q, folds-early pitch_bend a.c.at a.e early ∙ b)

pub returns-in_default-2 : goal.returns-in_default-2
unfolding stood is_kind inside
returns-in_default-2 c =
    let a = c.args in
    let early = nle-lt a.c.at a.e.time (sym (ap₂ le_z (back w64 a.c.at (omega arith)) (back w64 a.e.time (omega arith))) ∙ c.if-c-e.false) in
    let same = back w64 a.e.kind (omega arith) in
    let p : eq_z a.e.kind voice ≡ false = grind (arith, common_steps) in
    let q : eq_z a.e.kind control_change ≡ false = grind (arith, common_steps) in
    let b : eq_z a.e.kind pitch_bend ≡ false = grind (arith, common_steps) in
    rw (folds-early voice a.c.at a.e early ∙ p, folds-early control_change a.c.at a.e early ∙ q, folds-early pitch_bend a.c.at a.e early ∙ b)
