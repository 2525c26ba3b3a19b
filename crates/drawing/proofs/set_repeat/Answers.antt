-- `set_repeat`: the option is left as every setter leaves it; where that was not refused, the stored list is turned too.
use mathlib.Core.Path.{◌≡◌, ap, sym, ◌∙◌}
use Prim.Native.Nat.{ℕ}
use lib.Dec.{leb}
use lib.IntN.{ℤ}
use mir.Facts.{to_z-of_z}
use Rattle.cycles.specs.Due.{key}
use Rattle.values.specs.declared.WriteOption.{WriteOption}
use Rattle.tables.specs.declared.NoteTable.{NoteTable}
use Rattle.state.specs.declared.TrackAnswer.{TrackAnswer}
use Rattle.state.specs.Track.{with_tables}
use Rattle.state.specs.Calls.{answer}
use Rattle.drawing.specs.Options.{target_refusal, option_of, with_option, with_repeat, left, notes_turned, set_repeat}
use Rattle.drawing.proofs.Refusing.{unmoved, settled, usable}
use Rattle.state.proofs.Stored.{notes-few}
use Rattle.state.proofs.Answers.{code_of}
use Rattle.drawing.proofs.set_repeat.Goals.{After-leave_option-left}
use Rattle.drawing.proofs.set_repeat.Goals as goal

-- the answer with these notes
abbrev noted : TrackAnswer → NoteTable → TrackAnswer
noted r n = answer 0 (with_tables r.track n r.track.waves r.track.sines r.track.cycles)

module _ (c : After-leave_option-left) where
  abbrev number : ℕ
  number = target_refusal c.args.track c.args.target (leb c.args.on 1)

  told : c.leave_option-left.result ≡ left c.args.track c.args.target (with_repeat (option_of c.args.track c.args.target) c.args.on) (leb c.args.on 1)
  told =
      let a = c.args.track in
      let n = c.args.on in
      let target = to_z-of_z c.ranges.target in
      c.leave_option-left.ensures
      ∙ ap (λ (z : ℤ). left a z (with_repeat c.option_of-option.result n) (leb n 1)) target
      ∙ ap (λ (o : WriteOption). left a c.args.target (with_repeat o n) (leb n 1)) (c.option_of-option.ensures ∙ ap (option_of a) target)

  numbered : c.leave_option-left.result.code ≡ number
  unfolding left
  numbered = ap (λ (r : TrackAnswer). r.code) told ∙ code_of c.args.track _ number

pub returns-else-left-eq0 : goal.returns-else-left-eq0
unfolding left set_repeat
returns-else-left-eq0 c =
    let d = (goal.at.returns-else-left-eq0 c).After-leave_option-left in
    told d ∙ unmoved c.args.track _ _ (number d) (λ z. c.if-left-eq0.false (numbered d ∙ z))

pub turn_notes-left-requires : goal.turn_notes-left-requires
turn_notes-left-requires c =
    let d = (goal.at.turn_notes-left-requires c).After-leave_option-left in
    notes-few c.args.track (usable c.args.track c.args.target _ (sym (numbered d) ∙ c.if-left-eq0.true))

pub returns-then-left-eq0 : goal.returns-then-left-eq0
unfolding left set_repeat with_option
returns-then-left-eq0 c =
    let a = c.args.track in
    let n = c.args.on in
    let d = (goal.at.returns-then-left-eq0 c).After-leave_option-left in
    let zero = sym (numbered d) ∙ c.if-left-eq0.true in
    rw c.if-left-eq0.true (
    ap (λ (r : TrackAnswer). noted r c.turn_notes-left.result) (told d ∙ settled a _ (number d) zero)
    ∙ ap (noted (answer 0 (with_option a c.args.target (with_repeat (option_of a c.args.target) n))))
    (c.turn_notes-left.ensures ∙ ap (λ (k : ℕ). notes_turned a.notes k n) (c.key_of.ensures ∙ ap key (to_z-of_z c.ranges.target)))
    ∙ sym (settled a _ (number d) zero))
