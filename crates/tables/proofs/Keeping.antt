-- A set leaves one reservation for each target: the one that is set is in no table, so one more of it stands once.
--     cycle-rules                     the cycle theorem's table
--     lone-taken                      a target taken out of all four tables: every other still has one reservation
--     lone-note, lone-wave, lone-sine, lone-cycle   and so has the target, once it is put into one of them
use mathlib.Core.Path.{◌≡◌, refl, sym, ap, ◌∙◌}
use mathlib.Core.Bool.{Bool, true}
use mathlib.Core.List.{List, [], ◌∷◌, ◌++◌, map, map-append, append_assoc, append-nil}
use Prim.Native.Nat.{ℕ, ◌+◌, ◌≤◌}
use lib.Dec.{leb, eqb}
use lib.ListN.{length, take, length-append}
use lib.Seq.{length-take-le}
use Rattle.laws.specs.Lists.{all, counted, without, put_first}
use Rattle.laws.specs.Keys.{absent, distinct}
use Rattle.laws.proofs.Ranges.{right}
use Rattle.laws.proofs.Parts.{map-without, without-append}
use Rattle.laws.proofs.Firsts.{shown, roomy}
use Rattle.laws.proofs.Lone.{distinct-last, distinct_without, gone, distinct-insert}
use Rattle.cycles.specs.declared.Cycle.{Cycle}
use Rattle.numbers.specs.Limits.{places}
use Rattle.cycles.specs.Due.{key}
use Rattle.cycles.specs.Rules.{no_cycle, ok_cycle, ok_table}
use Rattle.tables.specs.declared.OnNoteValues.{OnNoteValues}
use Rattle.tables.specs.declared.OnNoteWave.{OnNoteWave}
use Rattle.tables.specs.declared.OnNoteSine.{OnNoteSine}
use Rattle.tables.specs.Sixteen.{keyed, ok_sixteen}
use Rattle.tables.specs.declared.NoteTable.{NoteTable}
use Rattle.tables.specs.declared.WaveTable.{WaveTable}
use Rattle.tables.specs.declared.SineTable.{SineTable}
use Rattle.tables.specs.declared.CycleTable.{CycleTable}
use Rattle.tables.specs.Tables.{no_note, no_wave, no_sine, note_keys, wave_keys, sine_keys, cycle_keys, notes_left, waves_left, sines_left, cycles_left, notes_without, waves_without, sines_without, cycles_without, notes_with, waves_with, sines_with, cycles_with, ok_cycles, lone}

-- ---- the four tables

-- what the cycle theorem asks of a table follows from the tests of a track's tables
pub cycle-rules : (notes : NoteTable) (waves : WaveTable) (sines : SineTable) (cycles : CycleTable) → lone notes waves sines cycles ≡ true → ok_cycles cycles ≡ true
    → ok_table (take cycles.count cycles.items) ≡ true
unfolding lone ok_sixteen ok_table counted
cycle-rules notes waves sines cycles e o =
    let used = take cycles.count cycles.items in
    rw (right (leb cycles.count places) (all ok_cycle used) o) (distinct-last (note_keys notes ++ wave_keys waves ++ sine_keys sines) (cycle_keys cycles) e)

-- the keys of a table once a target is taken out, and once one is put at its end
keys-without : {A : Type 0} (f : A → ℕ) (z : A) (n : ℕ) (l : List A) (k : ℕ)
    → (let now = without (λ (x : A). eqb (f x) k) (take n l) in map f (take (length now) (put_first z n now l)) ≡ without (λ (x : ℕ). eqb x k) (map f (take n l)))
keys-without {A = A} f z n l k =
    ap (map f) (shown z n l (without (λ (x : A). eqb (f x) k) (take n l))) ∙ map-without f (λ (x : ℕ). eqb x k) (take n l)

keys_with_lem : {A : Type 0} (f : A → ℕ) (z : A) (n : ℕ) (l : List A) (x : A) → n ≤ length l
    → map f (take (n + 1) (put_first z n (take n l ++ (x ∷ [])) l)) ≡ map f (take n l) ++ (f x ∷ [])
keys_with_lem f z n l x h =
    let m : length (take n l ++ (x ∷ [])) ≡ n + 1 = length-append (take n l) (x ∷ []) ∙ ap (λ (i : ℕ). i + 1) (length-take-le n l h) in
    ap (λ (i : ℕ). map f (take i (put_first z n (take n l ++ (x ∷ [])) l))) (sym m)
    ∙ ap (map f) (shown z n l (take n l ++ (x ∷ [])))
    ∙ map-append f (take n l) (x ∷ [])

four : {a a' b b' c c' d d' : List ℕ} → a ≡ a' → b ≡ b' → c ≡ c' → d ≡ d' → (a ++ b ++ c ++ d) ≡ (a' ++ b' ++ c' ++ d')
four p q r t = rw (p, q, r, t)

without-four : (out : ℕ → Bool) (a b c d : List ℕ) → without out (a ++ b ++ c ++ d) ≡ (without out a ++ without out b ++ without out c ++ without out d)
without-four out a b c d = rw (without-append, without-append, without-append)

-- k put in behind the first, the second, the third and the last of four lists
in-first : (k : ℕ) (a b c d : List ℕ) → ((a ++ (k ∷ [])) ++ b ++ c ++ d) ≡ a ++ (k ∷ (b ++ (c ++ d)))
in-first k a b c d = append_assoc ((a ++ (k ∷ [])) ++ b) c d ∙ append_assoc (a ++ (k ∷ [])) b (c ++ d) ∙ append_assoc a (k ∷ []) (b ++ (c ++ d))

in-second : (k : ℕ) (a b c d : List ℕ) → (a ++ (b ++ (k ∷ [])) ++ c ++ d) ≡ (a ++ b) ++ (k ∷ (c ++ d))
in-second k a b c d =
    append_assoc (a ++ (b ++ (k ∷ []))) c d
    ∙ ap (λ (x : List ℕ). x ++ (c ++ d)) (sym (append_assoc a b (k ∷ [])))
    ∙ append_assoc (a ++ b) (k ∷ []) (c ++ d)

in-third : (k : ℕ) (a b c d : List ℕ) → (a ++ b ++ (c ++ (k ∷ [])) ++ d) ≡ (a ++ b ++ c) ++ (k ∷ d)
in-third k a b c d = ap (λ (x : List ℕ). x ++ d) (sym (append_assoc (a ++ b) c (k ∷ []))) ∙ append_assoc (a ++ b ++ c) (k ∷ []) d

in-last : (k : ℕ) (a d : List ℕ) → (a ++ (d ++ (k ∷ []))) ≡ (a ++ d) ++ (k ∷ [])
in-last k a d = sym (append_assoc a d (k ∷ []))

apart-first : (a b c d : List ℕ) → (a ++ b ++ c ++ d) ≡ a ++ (b ++ (c ++ d))
apart-first a b c d = append_assoc (a ++ b) c d ∙ append_assoc a b (c ++ d)

module _ (notes : NoteTable) (waves : WaveTable) (sines : SineTable) (cycles : CycleTable) (k : ℕ) (e : lone notes waves sines cycles ≡ true) where
  -- what is left of all keys
  abbrev others : List ℕ
  others = without (λ (x : ℕ). eqb x k) (note_keys notes ++ wave_keys waves ++ sine_keys sines ++ cycle_keys cycles)

  -- the keys that each table keeps
  abbrev ns : List ℕ
  ns = note_keys (notes_without notes k)

  abbrev ws : List ℕ
  ws = wave_keys (waves_without waves k)

  abbrev ss : List ℕ
  ss = sine_keys (sines_without sines k)

  abbrev cs : List ℕ
  cs = cycle_keys (cycles_without cycles k)

  left_over : (ns ++ ws ++ ss ++ cs) ≡ others
  unfolding keyed
  left_over =
      four
      (keys-without (λ (x : OnNoteValues). key x.target) no_note notes.count notes.items k)
      (keys-without (λ (x : OnNoteWave). key x.target) no_wave waves.count waves.items k)
      (keys-without (λ (x : OnNoteSine). key x.target) no_sine sines.count sines.items k)
      (keys-without (λ (x : Cycle). key x.target) no_cycle cycles.count cycles.items k)
      ∙ sym (without-four (λ (x : ℕ). eqb x k) (note_keys notes) (wave_keys waves) (sine_keys sines) (cycle_keys cycles))

  still : distinct others ≡ true
  unfolding lone
  still = distinct_without (λ (x : ℕ). eqb x k) (note_keys notes ++ wave_keys waves ++ sine_keys sines ++ cycle_keys cycles) e

  -- "setting a target again": taken out of all four tables, the other targets still have one each
  pub lone-taken : lone (notes_without notes k) (waves_without waves k) (sines_without sines k) (cycles_without cycles k) ≡ true
  unfolding lone
  lone-taken = ap distinct left_over ∙ still

  -- and so has the target, whichever table it is then put into: its keys are xs and ys with k between them
  lone-put : (xs ys : List ℕ) → (ns ++ ws ++ ss ++ cs) ≡ xs ++ ys
      → distinct (xs ++ (k ∷ ys)) ≡ true
  lone-put xs ys q =
      let r : others ≡ xs ++ ys = sym left_over ∙ q in
      distinct-insert k xs ys (ap distinct (sym r) ∙ still) (ap (absent k) (sym r) ∙ gone k (note_keys notes ++ wave_keys waves ++ sine_keys sines ++ cycle_keys cycles))

  pub lone-note : (x : OnNoteValues) → key x.target ≡ k → lone (notes_with (notes_without notes k) x) (waves_without waves k) (sines_without sines k) (cycles_without cycles k) ≡ true
  unfolding lone keyed
  lone-note x q =
      let t = notes_without notes k in
      let more : note_keys (notes_with t x) ≡ note_keys t ++ (k ∷ []) =
      keys_with_lem (λ (y : OnNoteValues). key y.target) no_note t.count t.items x (roomy no_note notes.count (notes_left notes k) notes.items)
      ∙ ap (λ (i : ℕ). note_keys t ++ (i ∷ [])) q in
      ap distinct (ap (λ (y : List ℕ). y ++ ws ++ ss ++ cs) more ∙ in-first k ns ws ss cs) ∙ lone-put ns (ws ++ (ss ++ cs)) (apart-first ns ws ss cs)

  pub lone-wave : (x : OnNoteWave) → key x.target ≡ k → lone (notes_without notes k) (waves_with (waves_without waves k) x) (sines_without sines k) (cycles_without cycles k) ≡ true
  unfolding lone keyed
  lone-wave x q =
      let t = waves_without waves k in
      let more : wave_keys (waves_with t x) ≡ wave_keys t ++ (k ∷ []) =
      keys_with_lem (λ (y : OnNoteWave). key y.target) no_wave t.count t.items x (roomy no_wave waves.count (waves_left waves k) waves.items)
      ∙ ap (λ (i : ℕ). wave_keys t ++ (i ∷ [])) q in
      ap distinct (ap (λ (y : List ℕ). ns ++ y ++ ss ++ cs) more ∙ in-second k ns ws ss cs) ∙ lone-put (ns ++ ws) (ss ++ cs) (append_assoc (ns ++ ws) ss cs)

  pub lone-sine : (x : OnNoteSine) → key x.target ≡ k → lone (notes_without notes k) (waves_without waves k) (sines_with (sines_without sines k) x) (cycles_without cycles k) ≡ true
  unfolding lone keyed
  lone-sine x q =
      let t = sines_without sines k in
      let more : sine_keys (sines_with t x) ≡ sine_keys t ++ (k ∷ []) =
      keys_with_lem (λ (y : OnNoteSine). key y.target) no_sine t.count t.items x (roomy no_sine sines.count (sines_left sines k) sines.items)
      ∙ ap (λ (i : ℕ). sine_keys t ++ (i ∷ [])) q in
      ap distinct (ap (λ (y : List ℕ). ns ++ ws ++ y ++ cs) more ∙ in-third k ns ws ss cs) ∙ lone-put (ns ++ ws ++ ss) cs refl

  pub lone-cycle : (x : Cycle) → key x.target ≡ k → lone (notes_without notes k) (waves_without waves k) (sines_without sines k) (cycles_with (cycles_without cycles k) x) ≡ true
  unfolding lone keyed
  lone-cycle x q =
      let t = cycles_without cycles k in
      let more : cycle_keys (cycles_with t x) ≡ cycle_keys t ++ (k ∷ []) =
      keys_with_lem (λ (y : Cycle). key y.target) no_cycle t.count t.items x (roomy no_cycle cycles.count (cycles_left cycles k) cycles.items)
      ∙ ap (λ (i : ℕ). cycle_keys t ++ (i ∷ [])) q in
      ap distinct (ap (λ (y : List ℕ). ns ++ ws ++ ss ++ y) more ∙ in-last k (ns ++ ws ++ ss) cs) ∙ lone-put (ns ++ ws ++ ss ++ cs) [] (sym (append-nil (ns ++ ws ++ ss ++ cs)))
