-- What a call leaves passes the test of a track, so that the next call does not refuse it: each list that wrote still has its
-- place within its count, and no target has gained a reservation.
--     track-kept   of a track
--     lent-kept    of a track and its cycle table
use mathlib.Core.Path.{◌≡◌, refl, sym, ap, ◌∙◌}
use mathlib.Core.Bool.{Bool, true, false, cond}
use mathlib.Core.List.{List, [], ◌∷◌, ◌++◌, map, append_assoc}
use Prim.Native.Nat.{ℕ, ◌≤◌}
use native.Mathlib.Omega.{arith}
use lib.IntN.{ℤ}
use lib.ListN.{length, take, length-take}
use Rattle.laws.specs.Lists.{all, without}
use Rattle.laws.specs.Keys.{distinct}
use Rattle.laws.proofs.Ranges.{left, right}
use Rattle.laws.proofs.Compact.{length_without}
use Rattle.laws.proofs.Parts.{all_without}
use Rattle.laws.proofs.Lone.{distinct-amid}
use Rattle.laws.proofs.Firsts.{shown, counted-put}
use Rattle.numbers.specs.Limits.{places}
use Rattle.budget.specs.declared.Budget.{Budget}
use Rattle.values.specs.declared.WriteOption.{WriteOption}
use Rattle.cycles.specs.declared.Cycle.{Cycle}
use Rattle.cycles.specs.Due.{key}
use Rattle.tables.specs.declared.OnNoteValues.{OnNoteValues}
use Rattle.tables.specs.Sixteen.{ok_sixteen}
use Rattle.tables.specs.declared.NoteTable.{NoteTable}
use Rattle.tables.specs.declared.CycleTable.{CycleTable}
use Rattle.tables.specs.Reservations.{ok_values}
use Rattle.tables.specs.Tables.{no_note, ok_notes, note_keys, wave_keys, sine_keys, cycle_keys, lone}
use Rattle.state.specs.declared.Track.{Track}
use Rattle.state.specs.Track.{no_cycles, cycles_of}
use Rattle.state.specs.Tests.{ok_play, ok_tables, ok_track, ok_lent}
use Rattle.state.proofs.Parts.{whole, track-play, track-params, track-layers, track-options, track-cycles}
use Rattle.state.proofs.Stored.{stored-lone, stored-notes, stored-waves, stored-sines, notes-few}
use Rattle.state.proofs.Lent.{lent-track, lent-cycles, lent-lone, lent-whole}
use Rattle.noting.specs.declared.Onset.{Onset}
use Rattle.noting.specs.Lists.{advanced, spent}
use Rattle.noting.specs.Runs.{Run, run, kept, notes_put}
use Rattle.noting.specs.Calls.{run_of, with_notes}
use Rattle.noting.proofs.Rules.{kept-values, listed}
use Rattle.noting.proofs.Playing.{run-cases, run_long}

-- ---- of a run
abbrev key_of : OnNoteValues → ℕ
key_of e = key e.target

module _ (options : List WriteOption) (at : Onset) where
  run-keys : (b : Budget) (es : List OnNoteValues) → map key_of (run options at b es).lists ≡ map key_of es
  unfolding advanced
  run-keys =
      run-cases options at (λ b es r. map key_of r.lists ≡ map key_of es)
      (λ b. refl)
      (λ b e es s h. ap (λ (ks : List ℕ). key_of e ∷ ks) h)
      (λ b e es s f h. ap (λ (ks : List ℕ). key_of e ∷ ks) h)
      (λ b e es s f. refl)

  run_ok : (b : Budget) (es : List OnNoteValues) → all ok_values es ≡ true → all ok_values (run options at b es).lists ≡ true
  unfolding all
  run_ok =
      run-cases options at (λ b es r. all ok_values es ≡ true → all ok_values r.lists ≡ true)
      (λ b h. h)
      (λ b e es s ih h. rw (left (ok_values e) (all ok_values es) h) (ih (right (ok_values e) (all ok_values es) h)))
      (λ b e es s f ih h. rw (kept-values e (left (ok_values e) (all ok_values es) h) s) (ih (right (ok_values e) (all ok_values es) h)))
      (λ b e es s f h. h)

-- what is kept of a run
module _ (r : Run) where
  kept-ok : all ok_values r.lists ≡ true → all ok_values (kept r) ≡ true
  unfolding kept
  kept-ok h = go r.lost
    where
      go : (t : Bool) → all ok_values (cond t r.lists (without spent r.lists)) ≡ true
      go true = h
      go false = all_without ok_values spent r.lists h

  kept-few : length (kept r) ≤ length r.lists
  unfolding kept
  kept-few = go r.lost
    where
      go : (t : Bool) → length (cond t r.lists (without spent r.lists)) ≤ length r.lists
      go true = omega arith
      go false = length_without spent r.lists

  kept-distinct : (ks : List ℕ) → distinct (map key_of r.lists ++ ks) ≡ true → distinct (map key_of (kept r) ++ ks) ≡ true
  unfolding kept
  kept-distinct ks h = go r.lost
    where
      go : (t : Bool) → distinct (map key_of (cond t r.lists (without spent r.lists)) ++ ks) ≡ true
      go true = h
      go false = distinct-amid key_of spent [] r.lists ks h

apart : (a b c d : List ℕ) → (a ++ b ++ c ++ d) ≡ a ++ (b ++ (c ++ d))
apart a b c d = append_assoc (a ++ b) c d ∙ append_assoc a b (c ++ d)

module _ (a : Track) (start : ℤ) (b : Budget) (e : ok_track a ≡ true) where
  abbrev used : List OnNoteValues
  used = take a.notes.count a.notes.items

  abbrev r : Run
  r = run_of a start b

  abbrev n : NoteTable
  n = notes_put a.notes (kept r)

  at : Onset
  at = record { start = start; channel = a.channel }

  notes-ok : ok_notes n ≡ true
  unfolding ok_sixteen run_of at
  notes-ok =
      counted-put no_note a.notes.count a.notes.items ok_values places (stored-notes a e) (kept r)
      (omega (arith, kept-few r, run_long a.options at b used, length-take a.notes.count a.notes.items, notes-few a e))
      (kept-ok r (run_ok a.options at b used (listed a.notes (stored-notes a e))))

  -- over all four kinds, whatever the cycles are
  module _ (c : CycleTable) (h : lone a.notes a.waves a.sines c ≡ true) where
    others : List ℕ
    others = wave_keys a.waves ++ (sine_keys a.sines ++ cycle_keys c)

    lone-kept : lone n a.waves a.sines c ≡ true
    unfolding lone run_of at others
    lone-kept =
        let now : note_keys n ≡ map key_of (kept r) = ap (map key_of) (shown no_note a.notes.count a.notes.items (kept r)) in
        let was : distinct (map key_of used ++ others) ≡ true = ap distinct (sym (apart (note_keys a.notes) (wave_keys a.waves) (sine_keys a.sines) (cycle_keys c))) ∙ h in
        ap distinct (apart (note_keys n) (wave_keys a.waves) (sine_keys a.sines) (cycle_keys c) ∙ ap (λ (ks : List ℕ). ks ++ others) now)
        ∙ kept-distinct r others (ap (λ (ks : List ℕ). distinct (ks ++ others)) (run-keys a.options at b used) ∙ was)

  tables-ok : ok_tables n a.waves a.sines ≡ true
  unfolding ok_tables
  tables-ok = rw (notes-ok, stored-waves a e, stored-sines a e, lone-kept no_cycles (stored-lone a e))

  pub track-kept : ok_track (with_notes a n) ≡ true
  unfolding ok_play
  track-kept = whole (with_notes a n) (track-play a e) (track-params a e) (track-layers a e) (track-options a e) tables-ok (track-cycles a e)

-- the same of a track and the cycle table that is lent with it to other calls
pub lent-kept : (a : Track) (start : ℤ) (b : Budget) (cs : List Cycle) → ok_lent a cs ≡ true → ok_lent (with_notes a (notes_put a.notes (kept (run_of a start b)))) cs ≡ true
lent-kept a start b cs h =
    let e = lent-track a cs h in
    lent-whole (with_notes a (notes_put a.notes (kept (run_of a start b)))) cs
    (track-kept a start b e) (lent-cycles a cs h) (lone-kept a start b e (cycles_of a cs) (lent-lone a cs h))
