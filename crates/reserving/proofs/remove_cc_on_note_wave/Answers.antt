-- `remove_cc_on_note_wave`: the number that was asked chooses.
use mathlib.Core.Path.{◌≡◌, refl, sym, ap, ap₂, ◌∙◌}
use mir.Syntax.{w32}
use mir.Val.{to_z, of_z}
use Rattle.cycles.specs.Due.{key}
use Rattle.tables.specs.declared.WaveTable.{WaveTable}
use Rattle.tables.specs.declared.SineTable.{SineTable}
use Rattle.tables.specs.Tables.{waves_without, sines_without}
use Rattle.state.specs.Track.{with_tables}
use Rattle.state.specs.Calls.{answer}
use Rattle.state.proofs.Stored.{waves-few, sines-few}
use Rattle.state.proofs.Answers.{refused-by, done-by}
use Rattle.drawing.specs.Calls.{cc_target}
use Rattle.numbers.specs.Refusals.{told}
use Rattle.numbers.proofs.Asking.{some-number}
use Rattle.drawing.specs.Options.{for_target, target_refusal}
use Rattle.drawing.proofs.Refusing.{with-true}
use Rattle.reserving.specs.Old.{alone_refusal, remove_cc_on_note_wave}
use Rattle.reserving.proofs.Alone.{usable}
use Rattle.reserving.proofs.Handing.{handed}
use Rattle.reserving.proofs.remove_cc_on_note_wave.Goals.{After-ask_track}
use Rattle.reserving.proofs.remove_cc_on_note_wave.Goals as goal

aimed : (c : After-ask_track) → to_z w32 (of_z w32 c.cc_target-target.result) ≡ cc_target c.args.number
aimed c = handed w32 cc_target c.cc_target-target.type_inv c.ranges.number c.cc_target-target.ensures

code_is : (c : After-ask_track) → told c.ask_track.result ≡ alone_refusal c.args.track (cc_target c.args.number)
unfolding alone_refusal target_refusal
code_is c = c.ask_track.ensures ∙ ap₂ for_target (aimed c) (with-true refl)

pub returns-in-Err : goal.returns-in-Err
unfolding remove_cc_on_note_wave
returns-in-Err c = rw c.number.ensures (refused-by (sym (ap told c.in-Err.is) ∙ code_is (goal.at.returns-in-Err c).After-ask_track) _ _ (some-number c.in-Err.refusal))

pub without-track-requires : goal.without-track-requires
without-track-requires c =
    waves-few _ (usable _ _ (sym (code_is (goal.at.without-track-requires c).After-ask_track) ∙ (ap told c.in_default.is)))

pub without-track-requires-2 : goal.without-track-requires-2
without-track-requires-2 c =
    sines-few _ (usable _ _ (sym (code_is (goal.at.without-track-requires-2 c).After-ask_track) ∙ (ap told c.in_default.is)))

pub returns : goal.returns
unfolding remove_cc_on_note_wave
returns c =
    let a = c.args.track in
    let d = (goal.at.returns c).After-ask_track in
    let target = c.key_of-key.ensures ∙ ap key (aimed d) in
    ap₂ (λ (t : WaveTable) (u : SineTable). answer 0 (with_tables a a.notes t u a.cycles))
    (c.without-track.ensures ∙ ap (waves_without a.waves) target) (c.without-track-2.ensures ∙ ap (sines_without a.sines) target)
    ∙ done-by (code_is d) _ _ (ap told c.in_default.is)
