-- The waves and sines of a track that passes its test are of different targets.
use mathlib.Core.Path.{◌≡◌, refl, sym, ap, ap₂, ◌∙◌}
use mathlib.Core.Bool.{Bool, true, false, cond, ◌&&◌}
use mathlib.Core.List.{List, [], ◌∷◌, ◌++◌, map, map-append, append_assoc}
use Prim.Native.Nat.{ℕ, min}
use native.Mathlib.Omega.{arith}
use borrow.Author.Tests.{le-leb, leb-true, leb-false}
use lib.Dec.{leb}
use lib.IntN.{ℤ, pos, negsuc}
use lib.ListN.{take}
use Rattle.laws.specs.Integers.{inside, cut}
use Rattle.laws.specs.Lists.{all, counted}
use Rattle.laws.specs.Keys.{distinct}
use Rattle.laws.proofs.Ranges.{left, right}
use Rattle.laws.proofs.Lone.{distinct-first, distinct-last}
use Rattle.numbers.specs.Limits.{places}
use Rattle.numbers.specs.Ranges.{is_controller, is_target}
use Rattle.cycles.specs.Due.{code_of, key}
use Rattle.writing.specs.Targets.{key_of}
use Rattle.writing.proofs.Every.{Each, each_append}
use Rattle.tables.specs.declared.OnNoteWave.{OnNoteWave}
use Rattle.tables.specs.declared.OnNoteSine.{OnNoteSine}
use Rattle.tables.specs.Reservations.{ok_wave, ok_sine}
use Rattle.tables.specs.Sixteen.{ok_sixteen}
use Rattle.tables.specs.Tables.{ok_waves, ok_sines, note_keys, wave_keys, sine_keys, cycle_keys, lone}
use Rattle.tables.proofs.Sines.{sine-aimed}
use Rattle.state.specs.declared.Track.{Track}
use Rattle.state.specs.Track.{no_cycles}
use Rattle.state.specs.Tests.{ok_track}
use Rattle.state.proofs.Stored.{stored-waves, stored-sines, stored-lone}
use Rattle.drawing.specs.Write.{write_of}
use Rattle.drawing.proofs.Asking.{some}
use Rattle.waving.specs.Drawings.{wave_drawing, sine_drawing, drawings_of}
use Rattle.waving.proofs.Reserved.{wave-aimed}
use Rattle.waving.proofs.Parting.{key_at, Placed, Lone}

-- ---- lists
pub each_map : {A B : Type 0} (f : A → B) (p : A → Bool) (P : B → Type 0) → ((x : A) → p x ≡ true → P (f x)) → (l : List A) → all p l ≡ true → Each P (map f l)
unfolding all
each_map f p P g [] e = tt
each_map f p P g (x ∷ l) e = (g x (left (p x) (all p l) e), each_map f p P g l (right (p x) (all p l) e))

map_both : {A B C : Type 0} (f : A → B) (g : B → C) (l : List A) → map g (map f l) ≡ map (λ (x : A). g (f x)) l
map_both f g [] = refl
map_both {C} f g (x ∷ l) = ap (λ (y : List C). g (f x) ∷ y) (map_both f g l)

-- ---- a target's two keys are one
aimed : (z : ℤ) → is_target z ≡ true → min (cut z) 128 ≡ key z
unfolding code_of
aimed z e = rw e

aimed-code : (z : ℤ) → is_target z ≡ true → key_of z ≡ pos (min (cut z) 128)
unfolding is_target is_controller inside
aimed-code (pos n) e = ap (λ (t : Bool). cond (t && leb n 127) (pos n) (pos 128)) (le-leb 0 n (omega arith)) ∙ go (leb n 127) refl
  where
    go : (t : Bool) → leb n 127 ≡ t → cond t (pos n) (pos 128) ≡ pos (min n 128)
    go true q = let h = leb-true n 127 q in ap pos (omega arith)
    go false q = let h = leb-false n 127 q in ap pos (omega arith)
aimed-code (negsuc n) e = absurd (true-is e)
  where
    true-is : ◌≡◌ {A = Bool} false true → ⊥
    true-is q = let z : ◌≡◌ {A = ℕ} 0 1 = cc in omega arith

aimed-key : (z : ℤ) → is_target z ≡ true → key_of z ≡ pos (key z)
aimed-key z e = aimed-code z e ∙ ap pos (aimed z e)

module _ (a : Track) (n : ℕ) where
  wave-placed : (e : OnNoteWave) → ok_wave e ≡ true → Placed (wave_drawing a n e)
  unfolding wave_drawing write_of
  wave-placed e h = record { some = some e.target a.ccfreq a.pbfreq a.timebase; aimed = aimed-key e.target (wave-aimed e h) }

  sine-placed : (e : OnNoteSine) → ok_sine e ≡ true → Placed (sine_drawing a e)
  unfolding sine_drawing write_of
  sine-placed e h = record { some = some e.target a.ccfreq a.pbfreq a.timebase; aimed = aimed-key e.target (sine-aimed e h) }

  wave-keys : map key_at (map (wave_drawing a n) (take a.waves.count a.waves.items)) ≡ wave_keys a.waves
  unfolding wave_drawing write_of
  wave-keys = map_both (wave_drawing a n) key_at (take a.waves.count a.waves.items)

  sine-keys : map key_at (map (sine_drawing a) (take a.sines.count a.sines.items)) ≡ sine_keys a.sines
  unfolding sine_drawing write_of
  sine-keys = map_both (sine_drawing a) key_at (take a.sines.count a.sines.items)

  module _ (h : ok_track a ≡ true) where
    pub all-waves : all ok_wave (take a.waves.count a.waves.items) ≡ true
    unfolding ok_sixteen counted
    all-waves = right (leb a.waves.count places) (all ok_wave (take a.waves.count a.waves.items)) (stored-waves a h)

    pub all-sines : all ok_sine (take a.sines.count a.sines.items) ≡ true
    unfolding ok_sixteen counted
    all-sines = right (leb a.sines.count places) (all ok_sine (take a.sines.count a.sines.items)) (stored-sines a h)

    both-once : distinct (wave_keys a.waves ++ sine_keys a.sines) ≡ true
    unfolding lone
    both-once =
        let N = note_keys a.notes in
        let W = wave_keys a.waves in
        let S = sine_keys a.sines in
        let e : distinct ((N ++ W) ++ S) ≡ true = distinct-first ((N ++ W) ++ S) (cycle_keys no_cycles) (stored-lone a h) in
        distinct-last N (W ++ S) (sym (ap distinct (append_assoc N W S)) ∙ e)

    pub drawings-lone : Lone (drawings_of a n)
    unfolding drawings_of
    drawings-lone =
        let ws = map (wave_drawing a n) (take a.waves.count a.waves.items) in
        let ss = map (sine_drawing a) (take a.sines.count a.sines.items) in
        record {
          placed =
              each_append Placed ws ss (each_map (wave_drawing a n) ok_wave Placed wave-placed (take a.waves.count a.waves.items) all-waves)
              (each_map (sine_drawing a) ok_sine Placed sine-placed (take a.sines.count a.sines.items) all-sines);
          once = ap distinct (map-append key_at ws ss ∙ ap₂ (λ (x y : List ℕ). x ++ y) wave-keys sine-keys) ∙ both-once;
        }
