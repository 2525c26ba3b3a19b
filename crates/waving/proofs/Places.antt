-- The waves and sines of a track by their places: waves first, then sines.
--     at-wave, at-sine           what stands at a place of either table is the drawing of its place
--     wave-stored, sine-stored   it passed its test
--     next-drawing               of the drawings from a place on, its own is the first
use mathlib.Core.Path.{◌≡◌, refl, sym, ap, ap₂, ◌∙◌}
use mathlib.Core.Bool.{Bool, true, false}
use mathlib.Core.List.{List, ◌∷◌, ◌++◌, map}
use Prim.Native.Nat.{ℕ, suc, ◌+◌, ◌-◌, ◌≤◌, ◌<◌}
use native.Mathlib.Numerals.{add-one}
use native.Mathlib.Omega.{arith}
use borrow.Author.Tests.{lt-ltb, le-ltb, ltb-true, ltb-false}
use lib.Dec.{leb, ltb}
use lib.ListN.{length, get_or, take, drop, length-map, length-append, get_or-map, get_or-append}
use lib.Seq.{drop-cons, length-take-le, get_or-take, get_or-append-add}
use Rattle.laws.specs.Lists.{all, counted}
use Rattle.laws.proofs.Ranges.{right}
use Rattle.laws.proofs.Every.{all-below}
use Rattle.laws.proofs.Reading.{get_d_any}
use Rattle.numbers.specs.Limits.{places}
use Rattle.tables.specs.declared.OnNoteWave.{OnNoteWave}
use Rattle.tables.specs.declared.OnNoteSine.{OnNoteSine}
use Rattle.tables.specs.Reservations.{ok_wave, ok_sine}
use Rattle.tables.specs.Sixteen.{ok_sixteen}
use Rattle.tables.specs.Tables.{no_wave, no_sine, ok_waves, ok_sines}
use Rattle.state.specs.declared.Track.{Track}
use Rattle.state.proofs.Stored.{stored-waves, stored-sines, waves-few, sines-few}
use Rattle.waving.specs.Drawings.{Drawing, wave_drawing, sine_drawing, drawings_of, drawing_at}
use Rattle.waving.specs.Passes.{Held}

-- the one at i of a table's first n, by f
shown-at : {A B : Type 0} (f : A → B) (l : List A) (n i : ℕ) (d : A) → i < n → get_or (map f (take n l)) i (f d) ≡ f (get_or l i d)
shown-at f l n i d h = get_or-map f (take n l) i d ∙ ap f (get_or-take n l i d h)

module _ (a : Track) (h : Held a) where
  waves-fit : a.waves.count ≤ length a.waves.items
  waves-fit = let l = h.waves in let f = waves-few a h.passed in omega arith

  sines-fit : a.sines.count ≤ length a.sines.items
  sines-fit = let l = h.sines in let f = sines-few a h.passed in omega arith

  pub wave-stored : (i : ℕ) (d : OnNoteWave) → i < a.waves.count → ok_wave (get_or a.waves.items i d) ≡ true
  unfolding ok_sixteen counted
  wave-stored i d k =
      all-below ok_wave a.waves.items a.waves.count i d
      (right (leb a.waves.count places) (all ok_wave (take a.waves.count a.waves.items)) (stored-waves a h.passed)) k waves-fit

  pub sine-stored : (i : ℕ) (d : OnNoteSine) → i < a.sines.count → ok_sine (get_or a.sines.items i d) ≡ true
  unfolding ok_sixteen counted
  sine-stored i d k =
      all-below ok_sine a.sines.items a.sines.count i d
      (right (leb a.sines.count places) (all ok_sine (take a.sines.count a.sines.items)) (stored-sines a h.passed)) k sines-fit

  module _ (n : ℕ) where
    abbrev waves : List Drawing
    waves = map (wave_drawing a n) (take a.waves.count a.waves.items)

    abbrev sines : List Drawing
    sines = map (sine_drawing a) (take a.sines.count a.sines.items)

    waves-long : length waves ≡ a.waves.count
    waves-long = length-map (take a.waves.count a.waves.items) (wave_drawing a n) ∙ length-take-le a.waves.count a.waves.items waves-fit

    sines-long : length sines ≡ a.sines.count
    sines-long = length-map (take a.sines.count a.sines.items) (sine_drawing a) ∙ length-take-le a.sines.count a.sines.items sines-fit

    pub drawings-long : length (drawings_of a n) ≡ a.waves.count + a.sines.count
    unfolding drawings_of
    drawings-long = length-append waves sines ∙ ap₂ (λ (x y : ℕ). x + y) waves-long sines-long

    module _ (i : ℕ) where
      is-wave : i < a.waves.count → wave_drawing a n (get_or a.waves.items i no_wave) ≡ drawing_at a n i
      unfolding drawing_at
      is-wave k = rw (lt-ltb i a.waves.count k)

      is-sine : a.waves.count ≤ i → sine_drawing a (get_or a.sines.items (i - a.waves.count) no_sine) ≡ drawing_at a n i
      unfolding drawing_at
      is-sine k = rw (le-ltb i a.waves.count k)

      pub at-wave : (d : OnNoteWave) → i < a.waves.count → wave_drawing a n (get_or a.waves.items i d) ≡ drawing_at a n i
      at-wave d k = ap (wave_drawing a n) (get_d_any a.waves.items i d no_wave (let f = waves-fit in omega arith)) ∙ is-wave k

      pub at-sine : (d : OnNoteSine) → a.waves.count ≤ i → i < a.waves.count + a.sines.count → sine_drawing a (get_or a.sines.items (i - a.waves.count) d) ≡ drawing_at a n i
      at-sine d k m = ap (sine_drawing a) (get_d_any a.sines.items (i - a.waves.count) d no_sine (let f = sines-fit in omega arith)) ∙ is-sine k

      -- as the list has it
      first_of : (t : Bool) → ltb i a.waves.count ≡ t → i < a.waves.count + a.sines.count → drop i (waves ++ sines) ≡ drawing_at a n i ∷ drop (suc i) (waves ++ sines)
      first_of true e k =
          let f = ltb-true i a.waves.count e in
          let w = waves-long in
          let s = length-append waves sines in
          let l = sines-long in
          let d = wave_drawing a n no_wave in
          drop-cons (waves ++ sines) i d (omega arith)
          ∙ ap (λ (x : Drawing). x ∷ drop (suc i) (waves ++ sines))
          (get_or-append waves sines d i (omega arith) ∙ shown-at (wave_drawing a n) a.waves.items a.waves.count i no_wave f ∙ is-wave f)
      first_of false e k =
          let f = ltb-false i a.waves.count e in
          let w = waves-long in
          let s = length-append waves sines in
          let l = sines-long in
          let d = sine_drawing a no_sine in
          let j : length waves + (i - a.waves.count) ≡ i = omega arith in
          drop-cons (waves ++ sines) i d (omega arith)
          ∙ ap (λ (x : Drawing). x ∷ drop (suc i) (waves ++ sines))
          (ap (λ (m : ℕ). get_or (waves ++ sines) m d) (sym j) ∙ get_or-append-add waves sines (i - a.waves.count) d
          ∙ shown-at (sine_drawing a) a.sines.items a.sines.count (i - a.waves.count) no_sine (omega arith) ∙ is-sine f)

      pub next-drawing : i < a.waves.count + a.sines.count → drop i (drawings_of a n) ≡ drawing_at a n i ∷ drop (i + 1) (drawings_of a n)
      unfolding drawings_of
      next-drawing k = rw add-one (first_of (ltb i a.waves.count) refl k)
