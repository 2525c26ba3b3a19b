-- `set_on_note`: what is set, with a list for notes (Settling).
use mathlib.Core.Path.{◌≡◌, ap, ◌∙◌}
use lib.IntN.{ℤ}
use mir.Facts.{to_z-of_z}
use Rattle.std.proofs.Common.{Result}
use Rattle.std.specs.Result.{is_ok, result_unwrap_or}
use Rattle.numbers.specs.declared.refusals.Refusal.{Refusal}
use Rattle.counted.specs.declared.Numbers.{Numbers}
use Rattle.counted.specs.Numbers.{none}
use Rattle.tables.specs.declared.OnNoteValues.{OnNoteValues}
use Rattle.tables.specs.Reservations.{ok_values}
use Rattle.reserving.specs.Clearing.{reserving}
use Rattle.reserving.specs.Setting.{repeat_of, note_of, note_room, with_note, set_on_note}
use Rattle.reserving.proofs.Settling.{relisted}
use Rattle.reserving.proofs.set_on_note.Goals.{After-set}
use Rattle.reserving.proofs.set_on_note.Goals as goal

module _ (c : After-set) where
  abbrev v : Result Numbers Refusal
  v = c.numbers_of-listed.result

  abbrev list : Numbers
  list = result_unwrap_or v none

  list_is : c.unwrap_or-values.result ≡ list
  list_is = rw c.empty.ensures at c.unwrap_or-values.ensures

  abbrev e : Numbers → OnNoteValues
  e x = note_of c.args.target (repeat_of c.args.track c.args.target) x

  repeats : c.repeat_of.result ≡ repeat_of c.args.track c.args.target
  repeats = c.repeat_of.ensures ∙ ap (λ (z : ℤ). repeat_of c.args.track z) (to_z-of_z c.ranges.target)

  whole : reserving c.args.track c.args.size c.args.cycles c.args.target (is_ok v) (ok_values (e list)) note_room (with_note (e list))
      ≡ set_on_note c.args.track c.args.size c.args.cycles c.args.target c.args.list.now
  unfolding set_on_note
  whole =
      relisted c.args.track c.args.size c.args.cycles c.args.target c.args.list.now (λ (x : Numbers). ok_values (e x))
      (λ (x : Numbers). note_room) (λ (x : Numbers). with_note (e x)) c.numbers_of-listed.ensures

pub returns : goal.returns
returns c = let t = to_z-of_z c.ranges.target in rw (t, c.note_ok.ensures, t, repeats c, c.is_ok.ensures.value, list_is c) at c.set.ensures ∙ whole c
