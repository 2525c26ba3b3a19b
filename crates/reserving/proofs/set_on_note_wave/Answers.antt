-- `set_on_note_wave`: what is set, with a wave (Settling).
use mathlib.Core.Path.{◌≡◌, ◌∙◌}
use mir.Facts.{to_z-of_z}
use Rattle.std.proofs.Common.{Result}
use Rattle.std.specs.Result.{is_ok, result_unwrap_or}
use Rattle.numbers.specs.declared.refusals.Refusal.{Refusal}
use Rattle.counted.specs.declared.Numbers.{Numbers}
use Rattle.counted.specs.Numbers.{none}
use Rattle.tables.specs.declared.OnNoteWave.{OnNoteWave}
use Rattle.tables.specs.Reservations.{ok_wave}
use Rattle.reserving.specs.Clearing.{reserving}
use Rattle.reserving.specs.Setting.{wave_of, wave_room, with_wave, set_on_note_wave}
use Rattle.reserving.proofs.Settling.{relisted}
use Rattle.reserving.proofs.set_on_note_wave.Goals.{After-set}
use Rattle.reserving.proofs.set_on_note_wave.Goals as goal

module _ (c : After-set) where
  abbrev v : Result Numbers Refusal
  v = c.numbers_of-listed.result

  abbrev list : Numbers
  list = result_unwrap_or v none

  list_is : c.unwrap_or-values.result ≡ list
  list_is = rw c.empty.ensures at c.unwrap_or-values.ensures

  abbrev e : Numbers → OnNoteWave
  e x = wave_of c.args.target c.args.mode x

  whole : reserving c.args.track c.args.size c.args.cycles c.args.target (is_ok v) (ok_wave (e list)) wave_room (with_wave (e list))
      ≡ set_on_note_wave c.args.track c.args.size c.args.cycles c.args.target c.args.mode c.args.list.now
  unfolding set_on_note_wave
  whole =
      relisted c.args.track c.args.size c.args.cycles c.args.target c.args.list.now (λ (x : Numbers). ok_wave (e x))
      (λ (x : Numbers). wave_room) (λ (x : Numbers). with_wave (e x)) c.numbers_of-listed.ensures

pub returns : goal.returns
returns c = let t = to_z-of_z c.ranges.target in rw (t, c.wave_ok.ensures, t, c.is_ok.ensures.value, list_is c) at c.set.ensures ∙ whole c
