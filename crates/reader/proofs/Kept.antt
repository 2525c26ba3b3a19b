-- What is kept of a message, by its status: one event or none. `kept-many` counts it, and each status that is kept has its event.
use mathlib.Core.Bool.{Bool, true, false, cond, not, ◌&&◌, ◌||◌}
use mathlib.Core.Path.{◌≡◌, refl, sym, ap, ◌∙◌}
use mathlib.Core.List.{List, [], ◌∷◌, map}
use mathlib.Core.Logic.{⊎_elim}
use Prim.Native.Nat.{ℕ, ◌+◌, ◌*◌, ◌/◌, ◌%◌, ◌≤◌}
use native.Mathlib.Omega.{arith}
use borrow.Author.Tests.{eqb-true, ne_eqb, leb-true, leb-false, le-ltb, lt-ltb}
use lib.Dec.{eqb, leb, ltb}
use lib.IntN.{ℤ, pos}
use lib.ListN.{length, take}
use Rattle.laws.specs.Integers.{eq_z, inside, sized}
use Rattle.laws.specs.Lists.{all}
use Rattle.laws.proofs.Bools.{which, and-on}
use Rattle.numbers.specs.Ranges.{is_event_time}
use Rattle.events.specs.declared.Event.{Event}
use Rattle.events.specs.Kinds.{note_on, note_off, control_change, pitch_bend, voice}
use Rattle.events.specs.Events.{plain_event}
use Rattle.chunks.specs.Told.{event_in}
use Rattle.reader.specs.declared.Found.{Found}
use Rattle.reader.specs.Reading.{ended, kept_in, timely}
use Rattle.reader.specs.Steps.{tells}

module _ (status time a b : ℕ) where
  abbrev says : ℕ
  says = status / 16

  abbrev event : ℤ → ℤ → ℤ → ℤ → Event
  event k x y z = plain_event k (pos time) (pos (status % 16)) x y z

  -- ---- how many
  pub kept-many : length (kept_in status time a b) ≡ cond (eqb says 8 || eqb says 9 || eqb says 11 || eqb says 12 || eqb says 14) 1 0
  unfolding kept_in event_in
  kept-many = go (eqb says 9) (eqb says 8) (eqb says 11) (eqb says 12) (eqb says 14) _ _ _ _ _
    where
      go : (n o c v p : Bool) (x y z w u : Event)
          → length (map ended (cond n (x ∷ []) (cond o (y ∷ []) (cond c (z ∷ []) (cond v (w ∷ []) (cond p (u ∷ []) [])))))) ≡ cond (o || n || c || v || p) 1 0
      go true true c v p x y z w u = refl
      go true false c v p x y z w u = refl
      go false true c v p x y z w u = refl
      go false false true v p x y z w u = refl
      go false false false true p x y z w u = refl
      go false false false false true x y z w u = refl
      go false false false false false x y z w u = refl

  -- ---- which
  -- an event that is alone what is kept, or stands for nothing
  abbrev pub Told : Event → Type 0
  Told e = kept_in status time a b ≡ take (length (kept_in status time a b)) (e ∷ [])

  alone : (e : Event) → kept_in status time a b ≡ e ∷ [] → Told e
  alone e h = rw h

  pub tells-end : says ≡ 8 → Told (event note_off (pos a) (pos 0) (pos 0))
  unfolding kept_in event_in ended
  tells-end h = alone (event note_off (pos a) (pos 0) (pos 0)) (rw h)

  pub tells-note : says ≡ 9 → Told (event (cond (eqb b 0) note_off note_on) (pos a) (pos 0) (pos b))
  unfolding kept_in event_in ended
  tells-note h = alone (event (cond (eqb b 0) note_off note_on) (pos a) (pos 0) (pos b)) (rw h (go (eqb b 0) refl))
    where
      go : (z : Bool) → eqb b 0 ≡ z
          → ◌≡◌ {A = List Event} (cond z (event note_off (pos a) (pos 0) (pos 0)) (event note_on (pos a) (pos 0) (pos b)) ∷ []) (event (cond z note_off note_on) (pos a) (pos 0) (pos b) ∷ [])
      go true e = ap (λ (n : ℕ). event note_off (pos a) (pos 0) (pos n) ∷ []) (sym (eqb-true b 0 e))
      go false e = refl

  pub tells-control : says ≡ 11 → Told (event control_change (pos a) (pos b) (pos 0))
  unfolding kept_in event_in ended
  tells-control h = alone (event control_change (pos a) (pos b) (pos 0)) (rw h)

  pub tells-voice : says ≡ 12 → Told (event voice (pos a) (pos 0) (pos 0))
  unfolding kept_in event_in ended
  tells-voice h = alone (event voice (pos a) (pos 0) (pos 0)) (rw h)

  pub tells-bend : (says ≡ 8 → ⊥) → (says ≡ 9 → ⊥) → (says ≡ 11 → ⊥) → (says ≡ 12 → ⊥) → Told (event pitch_bend (pos (a + 128 * b)) (pos 0) (pos 0))
  unfolding kept_in event_in ended
  tells-bend h i j k = rw (ne_eqb says 8 h, ne_eqb says 9 i, ne_eqb says 11 j, ne_eqb says 12 k) (go (eqb says 14))
    where
      bend : Event
      bend = event pitch_bend (pos (a + 128 * b)) (pos 0) (pos 0)

      go : (p : Bool) → ◌≡◌ {A = List Event} (map ended (cond p (bend ∷ []) [])) (take (length (map ended (cond p (bend ∷ []) []))) (bend ∷ []))
      go true = refl
      go false = refl

-- ---- when
-- a note's end stands where the note did
ended-time : (e : Event) → timely (ended e) ≡ timely e
unfolding ended
ended-time e = go (eq_z e.kind note_on && eq_z e.v3 (pos 0))
  where
    go : (b : Bool) → timely (cond b (plain_event note_off e.time e.channel e.v1 (pos 0) (pos 0)) e) ≡ timely e
    go true = refl
    go false = refl

-- what is kept stands at the message's time
pub kept-timely : (status time a b : ℕ) → all timely (kept_in status time a b) ≡ cond (eqb (length (kept_in status time a b)) 0) true (is_event_time (pos time))
unfolding kept_in event_in all
kept-timely status time a b = go (eqb (status / 16) 9) (eqb (status / 16) 8) (eqb (status / 16) 11) (eqb (status / 16) 12) (eqb (status / 16) 14)
  where
    one : (e : Event) → timely e ≡ is_event_time (pos time) → timely (ended e) && true ≡ is_event_time (pos time)
    one e h = and-on (timely (ended e)) ∙ ended-time e ∙ h

    list : Bool → Bool → Bool → Bool → Bool → List Event
    list n o c v p =
        let event = event status time a b in
        cond n (event note_on (pos a) (pos 0) (pos b) ∷ [])
        (cond o (event note_off (pos a) (pos 0) (pos 0) ∷ [])
        (cond c (event control_change (pos a) (pos b) (pos 0) ∷ [])
        (cond v (event voice (pos a) (pos 0) (pos 0) ∷ [])
        (cond p (event pitch_bend (pos (a + 128 * b)) (pos 0) (pos 0) ∷ [])
        []))))

    go : (n o c v p : Bool) → all timely (map ended (list n o c v p)) ≡ cond (eqb (length (map ended (list n o c v p))) 0) true (is_event_time (pos time))
    go true o c v p = one _ refl
    go false true c v p = one _ refl
    go false false true v p = one _ refl
    go false false false true p = one _ refl
    go false false false false true = one _ refl
    go false false false false false = refl

-- a time from 0 on is past its range where it is above 2^42
not-leb : (a b : ℕ) → not (leb a b) ≡ ltb b a
not-leb a b = ⊎_elim
    (λ e. let h = leb-true a b e in rw (e, le-ltb b a h))
    (λ e. let h = leb-false a b e in rw (e, lt-ltb b a h))
    (which (leb a b))

past : (time : ℕ) → not (is_event_time (pos time)) ≡ ltb 4398046511104 time
unfolding is_event_time sized inside
past time = not-leb time 4398046511104

-- ---- what was found
module _ (time : ℕ) (f : Found) (yes : Bool) (many : length (tells time f).kept ≡ cond yes 1 0) where
  abbrev told : List Event
  told = kept_in f.status (time + f.gap) f.first f.second

  -- it is late where it is kept, past the latest time
  pub found-late : yes && ltb 4398046511104 (time + f.gap) ≡ not (all timely (tells time f).kept)
  unfolding tells all
  found-late = go f.sent yes many
    where
      timed : all timely told ≡ cond (eqb (length told) 0) true (is_event_time (pos (time + f.gap)))
      timed = kept-timely f.status (time + f.gap) f.first f.second

      go : (s y : Bool) → length (cond s told []) ≡ cond y 1 0 → y && ltb 4398046511104 (time + f.gap) ≡ not (all timely (cond s told []))
      go true true m = sym (ap not (timed ∙ ap (λ (n : ℕ). cond (eqb n 0) true (is_event_time (pos (time + f.gap)))) m) ∙ past (time + f.gap))
      go true false m = sym (ap not (timed ∙ ap (λ (n : ℕ). cond (eqb n 0) true (is_event_time (pos (time + f.gap)))) m))
      go false true m = absurd (omega (arith, m))
      go false false m = refl

  -- where it is kept it is the event of its message
  pub found-one : (e : Event) → yes ≡ true → told ≡ take (length told) (e ∷ []) → (tells time f).kept ≡ e ∷ []
  unfolding tells
  found-one e y h = go f.sent (many ∙ rw y)
    where
      go : (s : Bool) → length (cond s told []) ≡ 1 → cond s told [] ≡ e ∷ []
      go true m = h ∙ rw m
      go false m = absurd (omega (arith, m))

  pub found_none : yes ≡ false → (tells time f).kept ≡ []
  found_none y = empty (tells time f).kept (many ∙ rw y)
    where
      empty : (l : List Event) → length l ≡ 0 → l ≡ []
      empty [] h = refl
      empty (x ∷ l) h = absurd (omega (arith, h))

most-one : (b : Bool) → cond b 1 0 ≤ 1
most-one true = omega arith
most-one false = omega arith

pub kept-few : (status time a b : ℕ) → length (kept_in status time a b) ≤ 1
kept-few status time a b =
    let says = status / 16 in
    rw (kept-many status time a b) (most-one (eqb says 8 || eqb says 9 || eqb says 11 || eqb says 12 || eqb says 14))

pub found-few : (time : ℕ) (f : Found) → length (tells time f).kept ≤ 1
unfolding tells
found-few time f = go f.sent
  where
    go : (s : Bool) → length (cond s (kept_in f.status (time + f.gap) f.first f.second) []) ≤ 1
    go true = kept-few f.status (time + f.gap) f.first f.second
    go false = omega arith
