-- What an accepted call leaves passes the test of a track with its cycle table, so that the next call does not refuse it.
--     with-tables   tables that pass their own tests, one reservation for a target over all four
--     cleared-kept  once a target is taken out
--     note-kept, wave-kept, sine-kept, cycle-kept   once one is put in again
--     cycle-storable   the cycle that a set makes may be stored
use mathlib.Core.Path.{◌≡◌, ap, ◌∙◌}
use mathlib.Core.Bool.{true, false, ◌&&◌, true≢false}
use mathlib.Core.List.{List, ◌++◌, append-nil}
use Prim.Native.Nat.{ℕ, ◌≤◌, ◌<◌, ◌^◌}
use native.Mathlib.Omega.{arith}
use borrow.Author.Tests.{le-leb, leb-false, eqb-false, lt-ltb}
use lib.Dec.{eqb, ltb}
use lib.IntN.{ℤ, pos, negsuc}
use lib.Signed.{le_z}
use Rattle.laws.specs.Keys.{distinct}
use Rattle.laws.proofs.Ranges.{left, right, sized-small}
use Rattle.laws.proofs.Lone.{distinct-first}
use Rattle.laws.proofs.Firsts.{roomy, counted-without, counted-with}
use Rattle.numbers.specs.Limits.{places}
use Rattle.numbers.specs.Ranges.{is_target, is_length, is_time, is_stored_time}
use Rattle.counted.specs.declared.Numbers.{Numbers}
use Rattle.counted.specs.Numbers.{ok_numbers}
use Rattle.counted.proofs.Sizes.{time-mag}
use Rattle.reserved.proofs.Cycles.{or_left, or_right}
use Rattle.cycles.specs.declared.Cycle.{Cycle}
use Rattle.cycles.specs.Due.{key}
use Rattle.cycles.specs.Rules.{no_cycle, ok_cycle}
use Rattle.tables.specs.declared.OnNoteValues.{OnNoteValues}
use Rattle.tables.specs.declared.OnNoteWave.{OnNoteWave}
use Rattle.tables.specs.declared.OnNoteSine.{OnNoteSine}
use Rattle.tables.specs.Sixteen.{ok_sixteen}
use Rattle.tables.specs.declared.NoteTable.{NoteTable}
use Rattle.tables.specs.declared.WaveTable.{WaveTable}
use Rattle.tables.specs.declared.SineTable.{SineTable}
use Rattle.tables.specs.declared.CycleTable.{CycleTable}
use Rattle.tables.specs.Reservations.{ok_values, ok_wave, ok_sine}
use Rattle.tables.specs.Tables.{no_note, no_wave, no_sine, note_at, wave_at, sine_at, cycle_at, notes_left, waves_left, sines_left, cycles_left, notes_without, waves_without, sines_without, cycles_without, notes_with, waves_with, sines_with, cycles_with, ok_notes, ok_waves, ok_sines, ok_cycles, note_keys, wave_keys, sine_keys, cycle_keys, lone}
use Rattle.tables.proofs.Keeping.{lone-taken, lone-note, lone-wave, lone-sine, lone-cycle}
use Rattle.state.specs.declared.Track.{Track}
use Rattle.state.specs.Track.{no_cycles, cycles_of, with_tables}
use Rattle.state.specs.Tests.{ok_tables, ok_play, ok_track, ok_lent}
use Rattle.state.proofs.Counts.{few-cycles}
use Rattle.state.proofs.Parts.{whole, track-play, track-params, track-layers, track-options}
use Rattle.state.proofs.Stored.{stored-notes, stored-waves, stored-sines}
use Rattle.state.proofs.Lent.{lent-track, lent-cycles, lent-lone, lent-whole}
use Rattle.reserving.specs.declared.Kept.{Kept}
use Rattle.reserving.specs.Clearing.{cleared}
use Rattle.reserving.specs.Setting.{cycle_of, with_note, with_wave, with_sine, with_cycle, only_removes}

-- the track and the table that a call left may be used
abbrev pub Passes : Kept → Type 0
Passes r = ok_lent r.track r.cycles ≡ true

-- "over all four kinds" is more than over the three that a track holds
lone-three : (n : NoteTable) (w : WaveTable) (s : SineTable) (y : CycleTable) → lone n w s y ≡ true → lone n w s no_cycles ≡ true
unfolding lone
lone-three n w s y e =
    ap distinct (append-nil (note_keys n ++ wave_keys w ++ sine_keys s)) ∙ distinct-first (note_keys n ++ wave_keys w ++ sine_keys s) (cycle_keys y) e

-- ---- a track with other tables
module _ (a : Track) (e : ok_track a ≡ true) (n : NoteTable) (w : WaveTable) (s : SineTable) where
  module _ (p : ok_notes n ≡ true) (q : ok_waves w ≡ true) (r : ok_sines s ≡ true) where
    pub track-kept : (c : ℕ) → c ≤ places → lone n w s no_cycles ≡ true → ok_track (with_tables a n w s c) ≡ true
    unfolding ok_tables ok_play
    track-kept c h l =
        whole (with_tables a n w s c) (track-play a e) (track-params a e) (track-layers a e) (track-options a e) (rw (p, q, r, l)) (le-leb c places h)

    pub with-tables : (y : CycleTable) → ok_cycles y ≡ true → lone n w s y ≡ true → ok_lent (with_tables a n w s y.count) y.items ≡ true
    with-tables y c l =
        lent-whole (with_tables a n w s y.count) y.items (track-kept y.count (few-cycles y c) (lone-three n w s y l)) c l

-- ---- a track's tables once a target is out
module _ (a : Track) (k : ℕ) (t : ok_track a ≡ true) where
  pub notes-ok : ok_notes (notes_without a.notes k) ≡ true
  unfolding ok_sixteen
  notes-ok = counted-without no_note a.notes.count a.notes.items ok_values places (stored-notes a t) (note_at k)

  pub waves-ok : ok_waves (waves_without a.waves k) ≡ true
  unfolding ok_sixteen
  waves-ok = counted-without no_wave a.waves.count a.waves.items ok_wave places (stored-waves a t) (wave_at k)

  pub sines-ok : ok_sines (sines_without a.sines k) ≡ true
  unfolding ok_sixteen
  sines-ok = counted-without no_sine a.sines.count a.sines.items ok_sine places (stored-sines a t) (sine_at k)

-- ---- the same with the cycle table, and one is put in again
module _ (a : Track) (cs : List Cycle) (k : ℕ) (e : ok_lent a cs ≡ true) where
  t : ok_track a ≡ true
  t = lent-track a cs e

  abbrev n : NoteTable
  n = notes_without a.notes k

  abbrev w : WaveTable
  w = waves_without a.waves k

  abbrev s : SineTable
  s = sines_without a.sines k

  abbrev y : CycleTable
  y = cycles_without (cycles_of a cs) k

  ns : ok_notes n ≡ true
  ns = notes-ok a k t

  ws : ok_waves w ≡ true
  ws = waves-ok a k t

  ss : ok_sines s ≡ true
  ss = sines-ok a k t

  ys : ok_cycles y ≡ true
  unfolding ok_sixteen
  ys = counted-without no_cycle a.cycles cs ok_cycle places (lent-cycles a cs e) (cycle_at k)

  alone : lone a.notes a.waves a.sines (cycles_of a cs) ≡ true
  alone = lent-lone a cs e

  -- what is put first fits
  pub cleared-kept : Passes (cleared a cs k)
  unfolding cleared
  cleared-kept = with-tables a t n w s ns ws ss y ys (lone-taken a.notes a.waves a.sines (cycles_of a cs) k alone)

  pub note-kept : (x : OnNoteValues) → ok_values x ≡ true → key x.target ≡ k → n.count < places → Passes (with_note x (cleared a cs k))
  unfolding cleared ok_sixteen
  note-kept x o q h =
      with-tables a t (notes_with n x) w s
      (counted-with no_note n.count n.items ok_values places ns x h (roomy no_note a.notes.count (notes_left a.notes k) a.notes.items) o)
      ws ss y ys (lone-note a.notes a.waves a.sines (cycles_of a cs) k alone x q)

  pub wave-kept : (x : OnNoteWave) → ok_wave x ≡ true → key x.target ≡ k → w.count < places → Passes (with_wave x (cleared a cs k))
  unfolding cleared ok_sixteen
  wave-kept x o q h =
      with-tables a t n (waves_with w x) s ns
      (counted-with no_wave w.count w.items ok_wave places ws x h (roomy no_wave a.waves.count (waves_left a.waves k) a.waves.items) o)
      ss y ys (lone-wave a.notes a.waves a.sines (cycles_of a cs) k alone x q)

  pub sine-kept : (x : OnNoteSine) → ok_sine x ≡ true → key x.target ≡ k → s.count < places → Passes (with_sine x (cleared a cs k))
  unfolding cleared ok_sixteen
  sine-kept x o q h =
      with-tables a t n w (sines_with s x) ns ws
      (counted-with no_sine s.count s.items ok_sine places ss x h (roomy no_sine a.sines.count (sines_left a.sines k) a.sines.items) o)
      y ys (lone-sine a.notes a.waves a.sines (cycles_of a cs) k alone x q)

  pub cycle-kept : (x : Cycle) → ok_cycle x ≡ true → key x.target ≡ k → y.count < places → Passes (with_cycle x (cleared a cs k))
  unfolding cleared ok_sixteen
  cycle-kept x o q h =
      with-tables a t n w s ns ws ss (cycles_with y x)
      (counted-with no_cycle y.count y.items ok_cycle places ys x h (roomy no_cycle a.cycles (cycles_left (cycles_of a cs) k) cs) o)
      (lone-cycle a.notes a.waves a.sines (cycles_of a cs) k alone x q)

-- ---- a cycle that is put in may be stored
forwards : (n : ℤ) → le_z n (pos 0) ≡ false → le_z (pos 1) n ≡ true
forwards (pos m) e = le-leb 1 m (omega (arith, leb-false m 0 e))
forwards (negsuc m) e = absurd (true≢false e)

some : (n : ℕ) → eqb n 0 ≡ false → ltb 0 n ≡ true
some n e = let h = eqb-false n 0 e in lt-ltb 0 n (omega arith)

stored : (z : ℤ) → is_time z ≡ true → is_stored_time z ≡ true
unfolding is_stored_time
stored z e = sized-small (2 ^ 41) z (omega (arith, time-mag z e))

pub cycle-storable : (target n t : ℤ) (v : Numbers) → is_target target ≡ true → (is_length n && ok_numbers v) ≡ true → is_time t ≡ true → only_removes n v ≡ false
    → ok_cycle (cycle_of target n t v) ≡ true
unfolding ok_cycle
cycle-storable target n t v a o i b =
    rw (
      a,
      forwards n (or_left (le_z n (pos 0)) (eqb v.count 0) b),
      left (is_length n) (ok_numbers v) o,
      stored t i,
      right (is_length n) (ok_numbers v) o,
      some v.count (or_right (le_z n (pos 0)) (eqb v.count 0) b),
    )
