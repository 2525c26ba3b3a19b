-- The marked Expand waves, of the public calls: the frequency is set to 1, the wave is set, the track stands at the note's end, and the wave is
-- written over an empty list. "Expand lengths 3,3,4 to 7: 2,2,3. Lengths 8,0 to 15: 15,0." A triple's length is seen in its events' times and values.
use mathlib.Core.Path.{◌≡◌, refl, sym, ap, subst, ◌∙◌}
use mathlib.Core.Bool.{true, ◌&&◌}
use mathlib.Core.List.{List, [], ◌∷◌}
use Prim.Native.Nat.{ℕ}
use lib.IntN.{ℤ, pos}
use Rattle.laws.specs.Integers.{inside, sized}
use Rattle.laws.specs.Lists.{all, counted}
use Rattle.laws.specs.Keys.{absent, distinct}
use Rattle.laws.specs.Rows.{flat}
use Rattle.numbers.specs.Limits.{places}
use Rattle.numbers.specs.Ranges.{is_time, is_channel, is_controller, is_target, is_number, is_length, is_timebase, is_bytes}
use Rattle.numbers.specs.Random.{spread}
use Rattle.budget.specs.Budgets.{ok_budget}
use Rattle.counted.specs.Numbers.{zeros, numbers, ok_numbers}
use Rattle.counted.specs.Curves as curves
use Rattle.eventlist.specs.Rows.{numbers_of, rows_of}
use Rattle.eventlist.specs.Sound.{is_list, ok_events}
use Rattle.eventlist.specs.Windows.{taken_by}
use Rattle.shapes.specs.Curve.{curve_of}
use Rattle.values.specs.Options.{range_in, moved}
use Rattle.values.specs.Clamp.{top_of, scaled_for, clamped}
use Rattle.values.specs.Value.{kind_of, event_for, start_of, time_of, event_of_offer}
use Rattle.tables.specs.declared.OnNoteWave.{OnNoteWave}
use Rattle.tables.specs.Reservations.{expand, forward, ok_wave}
use Rattle.tables.specs.Sixteen.{ok_sixteen}
use Rattle.tables.specs.Tables.{waves_with, ok_notes, ok_waves, ok_sines, ok_cycles, lone}
use Rattle.offers.specs.Rules.{rule_of, fresh, become, seeds_after, spent}
use Rattle.offers.specs.Runs.{offered, new_events, budget_after}
use Rattle.offers.specs.Pieces.{value_by, steps, points, offers, total}
use Rattle.offers.specs.Waves.{triples, triples_of, expand as expanded}
use Rattle.writing.specs.Calls.{window_of, kept_events}
use Rattle.cycles.specs.Due.{code_of}
use Rattle.state.specs.declared.Track.{Track}
use Rattle.state.specs.Track.{new_track, no_notes, no_waves, no_sines, with_tables, with_timepos, with_cc_freq}
use Rattle.state.specs.Calls.{new_of, answered, set_timepos, set_cc_freq}
use Rattle.state.specs.Tests.{ok_play, ok_tables, ok_track, ok_lent}
use Rattle.state.proofs.Parts.{whole, track-play, track-params, track-layers, track-options, track-tables}
use Rattle.reserved.specs.Setting.{demand}
use Rattle.drawing.specs.Options.{option_of}
use Rattle.drawing.specs.Frequency.{freq_for}
use Rattle.drawing.specs.Write.{write_of}
use Rattle.reserving.specs.Clearing.{answer, left, refusal, cleared, reserving}
use Rattle.reserving.specs.Setting.{is_short, wave_of, set_on_note_wave}
use Rattle.waving.specs.Drawings.{wave_drawing, drawings_of}
use Rattle.waving.specs.Calls.{leaves, drawn_all, note_refusal}
use Rattle.marked.specs.Subjects.{new, no_cycles, funds, outcome, control, WaveLeaves, waved, three, two}
use Rattle.marked.proofs.Fresh.{new-well, accepted}

-- ---- the frequency

abbrev quick : Track
quick = with_cc_freq new (pos 1)

quick-well : ok_track quick ≡ true
unfolding ok_play new_of answered is_timebase new_track is_time is_channel is_length is_number sized inside
quick-well = whole quick refl (track-params new new-well) (track-layers new new-well) (track-options new new-well) (track-tables new new-well) refl

quick-allowed : demand (ok_track new && is_length (pos 1)) ≡ 0
unfolding is_length sized inside
quick-allowed = rw new-well

quick-is : (set_cc_freq new (pos 1)).track ≡ quick
quick-is = accepted (demand (ok_track new && is_length (pos 1))) new quick quick-allowed

quick-lent : ok_lent quick no_cycles ≡ true
unfolding ok_lent ok_sixteen counted all lone distinct new_of answered is_timebase inside new_track
quick-lent = rw quick-well refl

-- ---- the wave, and the note's end

abbrev wave : List ℤ → OnNoteWave
wave v = wave_of (pos 7) expand (numbers v)

abbrev wavy : List ℤ → Track
wavy v = with_tables quick no_notes (waves_with no_waves (wave v)) no_sines 0

abbrev ended : List ℤ → ℕ → Track
ended v n = with_timepos (wavy v) (pos n)

module _ (v : List ℤ) (n : ℕ) (short : is_short v ≡ true) (e : ok_wave (wave v) ≡ true) (m : is_time (pos n) ≡ true) where
  wavy-well : ok_track (wavy v) ≡ true
  unfolding ok_play ok_tables ok_sixteen counted all lone distinct absent new_of answered is_timebase inside new_track code_of is_target
  wavy-well = whole (wavy v) (unfold ok_play new_of answered is_timebase inside new_track in track-play quick quick-well) (track-params quick quick-well) (track-layers quick quick-well) (track-options quick quick-well) (rw e) refl

  wave-allowed : refusal quick places no_cycles (pos 7) (is_short v) (ok_wave (wave v)) true ≡ 0
  unfolding refusal is_target inside
  wave-allowed = rw (quick-lent, short, e)

  wavy-is : (set_on_note_wave quick places no_cycles (pos 7) expand v).track ≡ wavy v
  unfolding set_on_note_wave reserving cleared new_of answered is_timebase inside new_track left code_of is_target
  wavy-is = ap (λ (k : ℕ). (left k quick no_cycles (answer 0 (wavy v) no_cycles)).track) (unfold new_of answered is_timebase inside new_track in wave-allowed)

  ended-play : ok_play (ended v n) ≡ true
  unfolding ok_play new_of answered is_timebase new_track is_channel is_length is_number sized inside
  ended-play = rw m

  ended-well : ok_track (ended v n) ≡ true
  ended-well = whole (ended v n) ended-play (track-params (wavy v) wavy-well) (track-layers (wavy v) wavy-well) (track-options (wavy v) wavy-well) (track-tables (wavy v) wavy-well) refl

  ended-allowed : demand (ok_track (wavy v) && is_time (pos n)) ≡ 0
  ended-allowed = rw (wavy-well, m)

  ended_is : waved v n ≡ ended v n
  ended_is =
      ap (λ (a : Track). (set_timepos (set_on_note_wave a places no_cycles (pos 7) expand v).track (pos n)).track) quick-is
      ∙ ap (λ (a : Track). (set_timepos a (pos n)).track) wavy-is
      ∙ accepted (demand (ok_track (wavy v) && is_time (pos n))) (wavy v) (ended v n) ended-allowed

-- ---- writing it

three-ok : ok_wave (wave three) ≡ true
unfolding ok_wave curves.ok_curve curves.has_length curves.triples ok_numbers counted all is_number is_length is_target sized inside zeros forward
three-ok = refl

three-ends : is_time (pos 7) ≡ true
unfolding is_time sized inside
three-ends = refl

two_ok : ok_wave (wave two) ≡ true
unfolding ok_wave curves.ok_curve curves.has_length curves.triples ok_numbers counted all is_number is_length is_target sized inside zeros forward
two_ok = refl

two_ends : is_time (pos 15) ≡ true
unfolding is_time sized inside
two_ends = refl

abbrev Seven : Track → Type 0
Seven a = WaveLeaves a 80 7 (outcome 7 (funds 1 80 56 0)) (flat numbers_of (control 7 0 0 ∷ control 7 1 10 ∷ control 7 2 20 ∷ control 7 3 30 ∷ control 7 4 40 ∷ control 7 5 50 ∷ control 7 6 60 ∷ []))

abbrev Fifteen : Track → Type 0
Fifteen a = WaveLeaves a 160 15 (outcome 15 (funds 1 160 120 0)) (flat numbers_of (control 7 0 0 ∷ control 7 1 1 ∷ control 7 2 2 ∷ control 7 3 3 ∷ control 7 4 4 ∷ control 7 5 5 ∷ control 7 6 6 ∷ control 7 7 7 ∷ control 7 8 8 ∷ control 7 9 9 ∷ control 7 10 10 ∷ control 7 11 11 ∷ control 7 12 12 ∷ control 7 13 13 ∷ control 7 14 14 ∷ []))

written : Seven (ended three 7) × Fifteen (ended two 15)
unfolding note_refusal drawn_all leaves drawings_of wave_drawing is_list is_time ok_budget is_bytes sized inside all ok_events rows_of taken_by window_of kept_events new_events offered fresh offers points steps value_by become total triples triples_of expanded budget_after spent seeds_after rule_of event_of_offer event_for time_of start_of kind_of clamped scaled_for top_of is_controller moved range_in spread curve_of write_of freq_for option_of new_of answered is_timebase new_track zeros code_of is_target
written =
    let w = ended-well three 7 refl three-ok three-ends in
    let x = ended-well two 15 refl two_ok two_ends in
    (record { answer = rw w; left = rw w }, record { answer = rw x; left = rw x })

pub seven : Seven (waved three 7)
seven = subst (λ (a : Track). Seven a) (sym (ended_is three 7 refl three-ok three-ends)) written.0

pub fifteen : Fifteen (waved two 15)
fifteen = subst (λ (a : Track). Fifteen a) (sym (ended_is two 15 refl two_ok two_ends)) written.1
