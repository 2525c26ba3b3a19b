-- What a caller may lean on of the older calls that are handed the track alone.
--     ..-refused   a call that is refused leaves the track
--     ..-passes    a track that passes its test still does
--     ..-lent      and so it does with the cycle table that is lent with it
use mathlib.Core.Path.{◌≡◌, refl, sym, ap, ◌∙◌}
use mathlib.Core.Bool.{Bool, true, false, cond}
use mathlib.Core.List.{List, [], ◌++◌, map, append_assoc}
use Prim.Native.Nat.{ℕ, ◌≤◌}
use borrow.Author.Tests.{leb-true}
use lib.Dec.{eqb}
use lib.IntN.{ℤ}
use lib.ListN.{take}
use Rattle.laws.specs.Keys.{distinct}
use Rattle.laws.proofs.Lone.{distinct-amid}
use Rattle.laws.proofs.Firsts.{shown}
use Rattle.numbers.specs.Limits.{places}
use Rattle.cycles.specs.declared.Cycle.{Cycle}
use Rattle.cycles.specs.Due.{key}
use Rattle.tables.specs.declared.OnNoteValues.{OnNoteValues}
use Rattle.tables.specs.declared.OnNoteWave.{OnNoteWave}
use Rattle.tables.specs.declared.OnNoteSine.{OnNoteSine}
use Rattle.tables.specs.declared.NoteTable.{NoteTable}
use Rattle.tables.specs.declared.WaveTable.{WaveTable}
use Rattle.tables.specs.declared.SineTable.{SineTable}
use Rattle.tables.specs.declared.CycleTable.{CycleTable}
use Rattle.tables.specs.Tables.{no_note, no_wave, no_sine, note_at, wave_at, sine_at, notes_left, waves_left, sines_left, notes_without, waves_without, sines_without, note_keys, wave_keys, sine_keys, cycle_keys, lone}
use Rattle.state.specs.declared.Track.{Track}
use Rattle.state.specs.Track.{no_cycles, cycles_of}
use Rattle.state.specs.Tests.{ok_track, ok_lent}
use Rattle.state.specs.Calls.{answer, answered}
use Rattle.state.proofs.Parts.{track-cycles}
use Rattle.state.proofs.Stored.{stored-lone, stored-notes, stored-waves, stored-sines}
use Rattle.state.proofs.Lent.{lent-track, lent-cycles, lent-lone}
use Rattle.drawing.specs.Calls.{cc_target}
use Rattle.reserving.specs.Old.{alone_refusal, remove_cc_on_note, remove_cc_on_note_wave}
use Rattle.reserving.proofs.Keeping.{notes-ok, waves-ok, sines-ok, track-kept, with-tables}

-- ---- one table without a target: every target still has one reservation at most
module _ (n : NoteTable) (w : WaveTable) (s : SineTable) (y : CycleTable) (k : ℕ) (e : lone n w s y ≡ true) where
  abbrev behind : List ℕ
  behind = wave_keys w ++ (sine_keys s ++ cycle_keys y)

  apart : (xs : List ℕ) → (xs ++ wave_keys w ++ sine_keys s ++ cycle_keys y) ≡ xs ++ behind
  apart xs = append_assoc (xs ++ wave_keys w) (sine_keys s) (cycle_keys y) ∙ append_assoc xs (wave_keys w) (sine_keys s ++ cycle_keys y)

  lone-notes : lone (notes_without n k) w s y ≡ true
  unfolding lone
  lone-notes =
      ap distinct (apart (note_keys (notes_without n k)))
      ∙ ap (λ (l : List OnNoteValues). distinct (map (λ (x : OnNoteValues). key x.target) l ++ behind)) (shown no_note n.count n.items (notes_left n k))
      ∙ distinct-amid (λ (x : OnNoteValues). key x.target) (note_at k) [] (take n.count n.items) behind (sym (ap distinct (apart (note_keys n))) ∙ e)

  lone-waves : lone n (waves_without w k) s y ≡ true
  unfolding lone
  lone-waves =
      let rest = sine_keys s ++ cycle_keys y in
      let both : (ws : List ℕ) → (note_keys n ++ ws ++ sine_keys s ++ cycle_keys y) ≡ note_keys n ++ (ws ++ rest) =
      λ (ws : List ℕ). append_assoc (note_keys n ++ ws) (sine_keys s) (cycle_keys y) ∙ append_assoc (note_keys n) ws rest in
      ap distinct (both (wave_keys (waves_without w k)))
      ∙ ap (λ (l : List OnNoteWave). distinct (note_keys n ++ (map (λ (x : OnNoteWave). key x.target) l ++ rest))) (shown no_wave w.count w.items (waves_left w k))
      ∙ distinct-amid (λ (x : OnNoteWave). key x.target) (wave_at k) (note_keys n) (take w.count w.items) rest (sym (ap distinct (both (wave_keys w))) ∙ e)

  lone-sines : lone n w (sines_without s k) y ≡ true
  unfolding lone
  lone-sines =
      let first = note_keys n ++ wave_keys w in
      ap distinct (append_assoc first (sine_keys (sines_without s k)) (cycle_keys y))
      ∙ ap (λ (l : List OnNoteSine). distinct (first ++ (map (λ (x : OnNoteSine). key x.target) l ++ cycle_keys y))) (shown no_sine s.count s.items (sines_left s k))
      ∙ distinct-amid (λ (x : OnNoteSine). key x.target) (sine_at k) first (take s.count s.items) (cycle_keys y)
      (sym (ap distinct (append_assoc first (sine_keys s) (cycle_keys y))) ∙ e)

-- the waves and the sines without it
lone-drawn : (n : NoteTable) (w : WaveTable) (s : SineTable) (y : CycleTable) (k : ℕ) → lone n w s y ≡ true → lone n (waves_without w k) (sines_without s k) y ≡ true
lone-drawn n w s y k e = lone-sines n (waves_without w k) s y k (lone-waves n w s y k e)

-- ---- the calls
-- one of two tracks is left
either : (good : Track → Bool) (n : ℕ) (a b : Track) → good a ≡ true → good b ≡ true → good (answered n a b).track ≡ true
unfolding answered
either good n a b p q = go (eqb n 0)
  where
    go : (t : Bool) → good (cond t (answer 0 b) (answer n a)).track ≡ true
    go true = q
    go false = p

left_alone : (n : ℕ) (a b : Track) → ((answered n a b).code ≡ 0 → ⊥) → answered n a b ≡ answer (answered n a b).code a
unfolding answered
left_alone n a b h = go (eqb n 0) h
  where
    go : (t : Bool) → ((cond t (answer 0 b) (answer n a)).code ≡ 0 → ⊥) → cond t (answer 0 b) (answer n a) ≡ answer (cond t (answer 0 b) (answer n a)).code a
    go true h = absurd (h refl)
    go false h = refl

module _ (a : Track) (number : ℤ) where
  abbrev asked : ℕ
  asked = alone_refusal a (cc_target number)

  abbrev k : ℕ
  k = key (cc_target number)

  pub cc-note-refused : ((remove_cc_on_note a number).code ≡ 0 → ⊥) → remove_cc_on_note a number ≡ answer (remove_cc_on_note a number).code a
  unfolding remove_cc_on_note
  cc-note-refused h = left_alone asked a _ h

  pub cc-wave-refused : ((remove_cc_on_note_wave a number).code ≡ 0 → ⊥) → remove_cc_on_note_wave a number ≡ answer (remove_cc_on_note_wave a number).code a
  unfolding remove_cc_on_note_wave
  cc-wave-refused h = left_alone asked a _ h

  -- alone
  module _ (t : ok_track a ≡ true) where
    few : a.cycles ≤ places
    few = leb-true a.cycles places (track-cycles a t)

    pub cc-note-passes : ok_track (remove_cc_on_note a number).track ≡ true
    unfolding remove_cc_on_note
    cc-note-passes =
        either ok_track asked a _ t
        (track-kept a t (notes_without a.notes k) a.waves a.sines (notes-ok a k t) (stored-waves a t) (stored-sines a t)
        a.cycles few (lone-notes a.notes a.waves a.sines no_cycles k (stored-lone a t)))

    pub cc-wave-passes : ok_track (remove_cc_on_note_wave a number).track ≡ true
    unfolding remove_cc_on_note_wave
    cc-wave-passes =
        either ok_track asked a _ t
        (track-kept a t a.notes (waves_without a.waves k) (sines_without a.sines k) (stored-notes a t) (waves-ok a k t) (sines-ok a k t)
        a.cycles few (lone-drawn a.notes a.waves a.sines no_cycles k (stored-lone a t)))

  -- and with the cycle table
  module _ (cs : List Cycle) (e : ok_lent a cs ≡ true) where
    t : ok_track a ≡ true
    t = lent-track a cs e

    abbrev good : Track → Bool
    good b = ok_lent b cs

    pub cc-note-lent : ok_lent (remove_cc_on_note a number).track cs ≡ true
    unfolding remove_cc_on_note
    cc-note-lent =
        either good asked a _ e
        (with-tables a t (notes_without a.notes k) a.waves a.sines (notes-ok a k t) (stored-waves a t) (stored-sines a t)
        (cycles_of a cs) (lent-cycles a cs e) (lone-notes a.notes a.waves a.sines (cycles_of a cs) k (lent-lone a cs e)))

    pub cc-wave-lent : ok_lent (remove_cc_on_note_wave a number).track cs ≡ true
    unfolding remove_cc_on_note_wave
    cc-wave-lent =
        either good asked a _ e
        (with-tables a t a.notes (waves_without a.waves k) (sines_without a.sines k) (stored-notes a t) (waves-ok a k t) (sines-ok a k t)
        (cycles_of a cs) (lent-cycles a cs e) (lone-drawn a.notes a.waves a.sines (cycles_of a cs) k (lent-lone a cs e)))
