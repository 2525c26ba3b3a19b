-- What an accepted call on a target's option leaves passes the test of a track, so that the next call does not refuse it.
--     delay-kept, random-kept, range-kept, cleared-kept, repeat-kept   each call
--     repeat-lent   the track with the cycle table that is lent with it, where a list that is turned keeps its target
use mathlib.Core.Path.{◌≡◌, refl, sym, ap, ◌∙◌}
use mathlib.Core.Bool.{Bool, true, false, cond, ◌&&◌}
use mathlib.Core.List.{List, [], ◌∷◌, map}
use Prim.Native.Nat.{ℕ, zero, suc}
use native.Mathlib.Omega.{arith}
use lib.Dec.{leb}
use lib.IntN.{ℤ, pos}
use lib.ListN.{take}
use Rattle.laws.specs.Lists.{all, counted, over}
use Rattle.laws.proofs.Ranges.{left, right}
use Rattle.laws.proofs.Parts.{all_map, all_set}
use Rattle.numbers.specs.Limits.{places}
use Rattle.numbers.specs.Ranges.{is_target, is_number, is_length, is_random}
use Rattle.counted.specs.Numbers.{ok_numbers}
use Rattle.values.specs.declared.WriteOption.{WriteOption}
use Rattle.values.specs.Options.{ok_option}
use Rattle.values.proofs.Options.{option-ranged, option-repeat, option-ends, option-delay, option-random, option-whole}
use Rattle.cycles.specs.Due.{key}
use Rattle.tables.specs.declared.OnNoteValues.{OnNoteValues}
use Rattle.tables.specs.Sixteen.{ok_sixteen}
use Rattle.tables.specs.declared.NoteTable.{NoteTable}
use Rattle.tables.specs.Reservations.{ok_values}
use Rattle.tables.specs.Tables.{note_at, note_keys, ok_notes, lone}
use Rattle.state.specs.declared.Track.{Track}
use Rattle.state.specs.declared.TrackAnswer.{TrackAnswer}
use Rattle.cycles.specs.declared.Cycle.{Cycle}
use Rattle.state.specs.Tests.{ok_play, ok_options, ok_tables, ok_track, ok_lent}
use Rattle.state.proofs.Lent.{lent-track, lent-cycles, lent-lone, lent-whole}
use Rattle.state.proofs.Parts.{whole, track-play, track-params, track-layers, track-options, track-tables, track-cycles}
use Rattle.state.proofs.Stored.{stored-notes, stored-waves, stored-sines, stored-lone}
use Rattle.state.proofs.Answers.{code_of}
use Rattle.drawing.specs.Options.{target_refusal, option_of, with_option, left as leaving, with_delay, with_random, with_range, with_repeat, set_delay, set_random, set_range, clear_range, turned, notes_turned, with_repeating, set_repeat}
use Rattle.drawing.proofs.Refusing.{settled, usable}
use Rattle.drawing.proofs.Options.{option-well}

-- ---- a call that is not refused was allowed
opened : (p q r : Bool) → ◌≡◌ {A = ℕ} (cond p (cond (q && r) 0 4) 2) 0 → r ≡ true
opened false q r e = absurd (omega arith)
opened true true true e = refl
opened true true false e = absurd (omega arith)
opened true false r e = absurd (omega arith)

pub allowed : (a : Track) (target : ℤ) (ok : Bool) → target_refusal a target ok ≡ 0 → ok ≡ true
unfolding target_refusal
allowed a target ok e = opened (is_target target) (ok_track a) ok e

-- ---- one option of a track
module _ (a : Track) (target : ℤ) (e : ok_track a ≡ true) where
  pub option-kept : (o : WriteOption) → ok_option o ≡ true → ok_track (with_option a target o) ≡ true
  unfolding with_option ok_play ok_options
  option-kept o h =
      whole (with_option a target o) (track-play a e) (track-params a e) (track-layers a e) (all_set ok_option a.options (key target) o h (track-options a e)) (track-tables a e) (track-cycles a e)

-- ---- the calls that set one thing of an option
module _ (a : Track) (target : ℤ) where
  abbrev old : WriteOption
  old = option_of a target

  left-kept : (o : WriteOption) (ok : Bool) → (ok_option old ≡ true → ok ≡ true → ok_option o ≡ true) → (leaving a target o ok).code ≡ 0 → ok_track (leaving a target o ok).track ≡ true
  unfolding leaving
  left-kept o ok f z =
      let b = with_option a target o in
      let n = sym (code_of a b (target_refusal a target ok)) ∙ z in
      let e = usable a target ok n in
      ap (λ (r : TrackAnswer). ok_track r.track) (settled a b (target_refusal a target ok) n)
      ∙ option-kept a target e o (f (option-well a target e) (allowed a target ok n))

  pub delay-kept : (x : ℤ) → (set_delay a target x).code ≡ 0 → ok_track (set_delay a target x).track ≡ true
  delay-kept x =
      left-kept (with_delay old x) (is_length x)
      (λ w h. option-whole (with_delay old x) (option-ranged old w) (option-repeat old w) (option-ends old w) h (option-random old w))

  pub random-kept : (x : ℤ) → (set_random a target x).code ≡ 0 → ok_track (set_random a target x).track ≡ true
  random-kept x =
      left-kept (with_random old x) (is_random x)
      (λ w h. option-whole (with_random old x) (option-ranged old w) (option-repeat old w) (option-ends old w) (option-delay old w) h)

  pub range-kept : (low high : ℤ) → (set_range a target low high).code ≡ 0 → ok_track (set_range a target low high).track ≡ true
  range-kept low high =
      left-kept (with_range old 1 low high) (is_number low && is_number high)
      (λ w h. option-whole (with_range old 1 low high) refl (option-repeat old w) h (option-delay old w) (option-random old w))

  pub cleared-kept : (clear_range a target).code ≡ 0 → ok_track (clear_range a target).track ≡ true
  cleared-kept =
      left-kept (with_range old 0 (pos 0) (pos 0)) true
      (λ w h. option-whole (with_range old 0 (pos 0) (pos 0)) refl (option-repeat old w) refl (option-delay old w) (option-random old w))

-- ---- repeat, which turns the list that is stored too
module _ {A : Type 0} where
  take-over : (f : A → A) (n : ℕ) (l : List A) → take n (over l (map f l) n) ≡ map f (take n l)
  take-over f zero l = refl
  take-over f (suc n) [] = refl
  take-over f (suc n) (x ∷ l) = ap (λ (r : List A). f x ∷ r) (take-over f n l)

module _ (k n : ℕ) (few : leb n 1 ≡ true) where
  turned-well : (v : OnNoteValues) → ok_values v ≡ true → ok_values (turned k n v) ≡ true
  unfolding ok_values turned
  turned-well v e =
      let two = is_target v.target && leb v.index v.values.count in
      let three = left (two && leb v.cycling 1) (ok_numbers v.values) e in
      rw (left two (leb v.cycling 1) three, go (note_at k v) (right two (leb v.cycling 1) three)) (right (two && leb v.cycling 1) (ok_numbers v.values) e)
    where
      go : (t : Bool) → leb v.cycling 1 ≡ true → leb (cond t n v.cycling) 1 ≡ true
      go true c = few
      go false c = c

  module _ (t : NoteTable) where
    lists : take t.count (notes_turned t k n).items ≡ map (turned k n) (take t.count t.items)
    unfolding notes_turned
    lists = take-over (turned k n) t.count t.items

    notes-well : ok_notes t ≡ true → ok_notes (notes_turned t k n) ≡ true
    unfolding ok_sixteen counted notes_turned
    notes-well e =
        let used = take t.count t.items in
        rw (left (leb t.count places) (all ok_values used) e) (ap (all ok_values) lists ∙ all_map ok_values ok_values (turned k n) turned-well used (right (leb t.count places) (all ok_values used) e))

    same_keys : (l : List OnNoteValues) → map (λ (v : OnNoteValues). key v.target) (map (turned k n) l) ≡ map (λ (v : OnNoteValues). key v.target) l
    unfolding turned
    same_keys [] = refl
    same_keys (v ∷ l) = ap (λ (ks : List ℕ). key v.target ∷ ks) (same_keys l)

    keys : note_keys (notes_turned t k n) ≡ note_keys t
    unfolding notes_turned
    keys = ap (map (λ (v : OnNoteValues). key v.target)) lists ∙ same_keys (take t.count t.items)

module _ (a : Track) (target : ℤ) (n : ℕ) where
  tables-well : ok_track a ≡ true → leb n 1 ≡ true → ok_tables (notes_turned a.notes (key target) n) a.waves a.sines ≡ true
  unfolding ok_tables lone
  tables-well e h =
      rw (notes-well (key target) n h a.notes (stored-notes a e), stored-waves a e, stored-sines a e, keys (key target) n h a.notes) (stored-lone a e)

  repeating-well : ok_track a ≡ true → leb n 1 ≡ true → ok_track (with_repeating a target n) ≡ true
  unfolding with_option ok_play ok_options
  repeating-well e h =
      let o = option_of a target in
      let w = option-well a target e in
      let turns = option-whole (with_repeat o n) (option-ranged o w) h (option-ends o w) (option-delay o w) (option-random o w) in
      whole (with_repeating a target n) (track-play a e) (track-params a e) (track-layers a e) (all_set ok_option a.options (key target) (with_repeat o n) turns (track-options a e))
      (tables-well e h) (track-cycles a e)

  pub repeat-kept : (set_repeat a target n).code ≡ 0 → ok_track (set_repeat a target n).track ≡ true
  unfolding set_repeat
  repeat-kept z =
      let m = target_refusal a target (leb n 1) in
      let b = with_repeating a target n in
      let q = sym (code_of a b m) ∙ z in
      ap (λ (r : TrackAnswer). ok_track r.track) (settled a b m q) ∙ repeating-well (usable a target (leb n 1) q) (allowed a target (leb n 1) q)

  pub repeat-lent : (cs : List Cycle) → (set_repeat a target n).code ≡ 0 → ok_lent a cs ≡ true → ok_lent (set_repeat a target n).track cs ≡ true
  unfolding set_repeat lone with_option
  repeat-lent cs z e =
      let m = target_refusal a target (leb n 1) in
      let b = with_repeating a target n in
      let q = sym (code_of a b m) ∙ z in
      let h = allowed a target (leb n 1) q in
      ap (λ (r : TrackAnswer). ok_lent r.track cs) (settled a b m q)
      ∙ lent-whole b cs (repeating-well (lent-track a cs e) h) (lent-cycles a cs e) (rw (keys (key target) n h a.notes) (lent-lone a cs e))
