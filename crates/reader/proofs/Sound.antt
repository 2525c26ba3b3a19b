-- What is read may be handed to every other call. One induction carries it (`read-holds`): a claim of what is kept, behind a time, that passes over an
-- event that is stepped over and takes in what becomes of a message with data bytes below 128, holds of every body.
--     kept-holds                          the same of the events that e) keeps, each of which is one of few (Heard)
--     read_fits, read-stored, read_same   each event fits a chunk, may be stored where its time may, and has no field that b) drops
--     read-rising, read-sorted            times never fall
--     near, read-gaps                     so that b) finds no other gap wrong than one that is too long
--     read-late                           and none is before the time at which the reader began
use mathlib.Core.Bool.{Bool, true, false, not, ◌&&◌}
use mathlib.Core.Path.{◌≡◌, refl, ap₂}
use mathlib.Core.List.{List, [], ◌∷◌, ◌++◌, map}
use Prim.Native.Nat.{ℕ, zero, suc, ◌+◌, ◌*◌, ◌/◌, ◌%◌, ◌≤◌, ◌<◌}
use native.Mathlib.Omega.{arith}
use borrow.Author.Tests.{eqb-true, le-ltb, le-leb}
use lib.Dec.{eqb}
use lib.IntN.{ℤ, pos, ◌-ℤ◌, +ℤ_invr}
use lib.ListN.{drop}
use lib.Signed.{lt_z, le_z}
use Rattle.laws.specs.Integers.{inside}
use Rattle.laws.specs.Lists.{all}
use Rattle.laws.proofs.Ranges.{left, right}
use Rattle.laws.proofs.Every.{all-imply}
use Rattle.laws.proofs.Order.{nlt_z-trans, lt_z-irrefl, le_not_lt, nlt-le, from_zero_lem}
use Rattle.numbers.specs.Ranges.{is_channel, is_word, is_bend}
use Rattle.events.specs.declared.Event.{Event}
use Rattle.events.specs.Kinds.{note_on, note_off, control_change, pitch_bend, voice}
use Rattle.events.specs.Events.{plain_event, ok_event}
use Rattle.events.proofs.Stored.{small_word}
use Rattle.sorting.specs.Stable.{Sorted, rises_from, rising}
use Rattle.sorting.specs.Sorting.{earlier}
use Rattle.sorting.proofs.Rising.{sorted-rising}
use Rattle.sorting.proofs.Earlier.{earlier-trans}
use Rattle.chunks.specs.Reader.{Whole, seen_in, read_from}
use Rattle.chunks.specs.Writing.{longest_gap, gapped, is_data, fits}
use Rattle.chunks.specs.Steps.{well_after}
use Rattle.chunks.specs.Told.{told, event_in}
use Rattle.chunks.proofs.Well.{well-stored}
use Rattle.reader.specs.Reading.{ended, kept_in, timely}
use Rattle.reader.specs.Rereading.{back}
use Rattle.reader.proofs.Fronts.{chosen, Kept, nothing, message, kept_of_lem}

module _ {A : Type 0} (make : ℕ → ℕ → ℕ → ℕ → List A) where
  -- ---- a claim of what is kept behind a time
  module _ (Q : ℕ → List A → Type 0) (none : (time : ℕ) → Q time []) (later : (time gap : ℕ) (es : List A) → Q (time + gap) es → Q time es)
      (more : (status time gap a b : ℕ) (es : List A) → a < 128 → b < 128 → Q (time + gap) es → Q time (make status (time + gap) a b ++ es)) where
    taken : (time gap : ℕ) (l es : List A) → Kept make (time + gap) l → Q (time + gap) es → Q time (l ++ es)
    taken time gap l es nothing q = later time gap es q
    taken time gap l es (message status a b x y) q = more status time gap a b es x y q

    pub read-holds : (k running time : ℕ) (l : List ℕ) → Q time (read_from make k running time l).kept
    unfolding read_from
    read-holds zero running time l = none time
    read-holds (suc k) running time l =
        let s = seen_in make running time l in
        chosen (λ (r : Whole A). Q time r.kept) (eqb s.code 0) _ _
        (λ t. taken time s.gap s.kept _ (kept_of_lem make running time l (eqb-true s.code 0 t)) (read-holds k s.status (time + s.gap) (drop s.used l)))
        (λ t. none time)

-- ---- an event that is kept
low : (n a : ℕ) → a ≤ n → inside (pos 0) (pos n) (pos a) ≡ true
unfolding inside
low n a h = rw (le-leb 0 a (omega arith), le-leb a n h)

data-in : (a : ℕ) → a < 128 → is_data (pos a) ≡ true
unfolding is_data
data-in a h = low 127 a (omega arith)

data-word : (a : ℕ) → a < 128 → is_word (pos a) ≡ true
data-word a h = small_word 127 (pos a) (omega arith) (low 127 a (omega arith))

bend-in : (a b : ℕ) → a < 128 → b < 128 → is_bend (pos (a + 128 * b)) ≡ true
unfolding is_bend
bend-in a b h k = low 16383 (a + 128 * b) (omega arith)

channel-in : (s : ℕ) → is_channel (pos (s % 16)) ≡ true
unfolding is_channel
channel-in s = low 15 (s % 16) (omega arith)

-- an event that is kept at a time t: it fits, may be stored where its time may, and has no field that b) drops
pub record Heard (t : ℕ) (e : Event) : Type 0 where
  pub time : e.time ≡ pos t
  pub fits : fits e ≡ true
  pub stored : (store : ℕ) → timely e ≡ true → ok_event store e ≡ true
  pub same : back e ≡ e

-- no event, or one
pub data Lone (t : ℕ) : List Event → Type 0 where
  none : Lone t []
  one : {e : Event} → Heard t e → Lone t (e ∷ [])

module _ (t s : ℕ) where
  abbrev event : ℤ → ℤ → ℤ → ℤ → Event
  event k a b d = plain_event k (pos t) (pos (s % 16)) a b d

  -- one that fits, its other fields 0 or as small
  heard : (k a b d : ℤ) → fits (event k a b d) ≡ true → is_word b ≡ true → is_word d ≡ true → back (event k a b d) ≡ event k a b d → Heard t (event k a b d)
  unfolding well_after
  heard k a b d f w v same = record { time = refl; fits = f; stored = stored; same = same }
    where
      stored : (store : ℕ) → timely (event k a b d) ≡ true → ok_event store (event k a b d) ≡ true
      stored store h =
          let here : pos t -ℤ pos t ≡ pos 0 = +ℤ_invr (pos t) in
          well-stored (pos t) (event k a b d) (rw (h, here, low 268435455 0 (omega arith), channel-in s, w, v, f)) store

  zero_word : is_word (pos 0) ≡ true
  zero_word = data-word 0 (omega arith)

  module _ (a b : ℕ) (h : a < 128) (k : b < 128) where
    off-heard : Heard t (event note_off (pos a) (pos 0) (pos 0))
    unfolding fits told ended
    off-heard = heard note_off (pos a) (pos 0) (pos 0) (rw (data-in a h)) zero_word zero_word refl

    on-heard : eqb b 0 ≡ false → Heard t (event note_on (pos a) (pos 0) (pos b))
    unfolding fits told ended
    on-heard z = heard note_on (pos a) (pos 0) (pos b) (rw (data-in a h, data-in b k)) zero_word (data-word b k) (rw z)

    control-heard : Heard t (event control_change (pos a) (pos b) (pos 0))
    unfolding fits told ended
    control-heard = heard control_change (pos a) (pos b) (pos 0) (rw (data-in a h, data-in b k)) (data-word b k) zero_word refl

    voice-heard : Heard t (event voice (pos a) (pos 0) (pos 0))
    unfolding fits told ended
    voice-heard = heard voice (pos a) (pos 0) (pos 0) (rw (data-in a h)) zero_word zero_word refl

    bend-heard : Heard t (event pitch_bend (pos (a + 128 * b)) (pos 0) (pos 0))
    unfolding fits told ended
    bend-heard = heard pitch_bend (pos (a + 128 * b)) (pos 0) (pos 0) (rw (bend-in a b h k)) zero_word zero_word refl

    pub kept-lone : Lone t (kept_in s t a b)
    unfolding kept_in event_in ended
    kept-lone =
        let P : List Event → Type 0 = λ l. Lone t (map ended l) in
        chosen P (eqb (s / 16) 9) _ _
        (λ u. chosen (λ (e : Event). Lone t (e ∷ [])) (eqb b 0) _ _ (λ z. one off-heard) (λ z. one (on-heard z)))
        (λ u. chosen P (eqb (s / 16) 8) _ _ (λ v. one off-heard)
        (λ u. chosen P (eqb (s / 16) 11) _ _ (λ v. one control-heard)
        (λ u. chosen P (eqb (s / 16) 12) _ _ (λ v. one voice-heard)
        (λ u. chosen P (eqb (s / 16) 14) _ _ (λ v. one bend-heard) (λ v. none)))))

-- ---- a body
-- of the events that are kept: a claim behind a time that takes in each of them at its time
module _ (Q : ℕ → List Event → Type 0) (empty : (t : ℕ) → Q t []) (later : (t gap : ℕ) (es : List Event) → Q (t + gap) es → Q t es)
    (more : (t gap : ℕ) (e : Event) (es : List Event) → Heard (t + gap) e → Q (t + gap) es → Q t (e ∷ es)) where
  joined : (t gap : ℕ) (l es : List Event) → Lone (t + gap) l → Q (t + gap) es → Q t (l ++ es)
  joined t gap l es none q = later t gap es q
  joined t gap l es (one {e} h) q = more t gap e es h q

  pub kept-holds : (k running time : ℕ) (l : List ℕ) → Q time (read_from kept_in k running time l).kept
  kept-holds =
      read-holds kept_in Q empty later (λ s t gap a b es x y q. joined t gap (kept_in s (t + gap) a b) es (kept-lone (t + gap) s a b x y) q)

-- a later time is not before
no-sooner : (t gap : ℕ) (z : ℤ) → lt_z (pos t) z ≡ false → lt_z (pos (t + gap)) z ≡ false
no-sooner t gap z h = nlt_z-trans z (pos t) (pos (t + gap)) h (le-ltb (t + gap) t (omega arith))

-- what is no sooner than a later time
from-later : (t gap : ℕ) (z : ℤ) → le_z (pos (t + gap)) z ≡ true → le_z (pos t) z ≡ true
from-later t gap z h = nlt-le z (pos t) (nlt_z-trans (pos t) (pos (t + gap)) z (le-ltb (t + gap) t (omega arith)) (le_not_lt (pos (t + gap)) z h))

-- no gap is above the longest: what 10 asks of a list whose times do not fall
unfoldable pub near : ℤ → List Event → Bool
near t [] = true
near t (e ∷ es) = le_z (e.time -ℤ t) (pos longest_gap) && near e.time es

module _ (k running time : ℕ) (l : List ℕ) where
  pub read_fits : all fits (read_from kept_in k running time l).kept ≡ true
  unfolding all
  read_fits = kept-holds (λ t es. all fits es ≡ true) (λ t. refl) (λ t g es q. q) (λ t g e es h q. rw h.fits q) k running time l

  pub read_same : map back (read_from kept_in k running time l).kept ≡ (read_from kept_in k running time l).kept
  read_same = kept-holds (λ t es. map back es ≡ es) (λ t. refl) (λ t g es q. q) (λ t g e es h q. ap₂ ◌∷◌ h.same q) k running time l

  pub read-stored : (store : ℕ) → all timely (read_from kept_in k running time l).kept ≡ true → all (ok_event store) (read_from kept_in k running time l).kept ≡ true
  unfolding all
  read-stored store =
      kept-holds (λ t es. all timely es ≡ true → all (ok_event store) es ≡ true) (λ t h. h) (λ t g es q. q)
      (λ t g e es h q w. rw (h.stored store (left (timely e) (all timely es) w)) (q (right (timely e) (all timely es) w))) k running time l

  -- where one stands before the first that is no later than the reader's time
  rises : (x : Event) → lt_z (pos time) x.time ≡ false → rises_from earlier x (read_from kept_in k running time l).kept ≡ true
  rises =
      kept-holds (λ t es. (x : Event) → lt_z (pos t) x.time ≡ false → rises_from earlier x es ≡ true) (λ t x h. refl)
      (λ t g es q x h. q x (no-sooner t g x.time h))
      (λ t g e es h q x from.
      let first : earlier e x ≡ false = rw h.time (no-sooner t g x.time from) in
      rw first (q e (rw h.time (lt_z-irrefl (pos (t + g))))))
      k running time l

  pub read-rising : rising earlier (read_from kept_in k running time l).kept ≡ true
  read-rising =
      let x = plain_event note_on (pos time) (pos 0) (pos 0) (pos 0) (pos 0) in
      go x (read_from kept_in k running time l).kept (rises x (lt_z-irrefl (pos time)))
    where
      go : (x : Event) (es : List Event) → rises_from earlier x es ≡ true → rising earlier es ≡ true
      go x [] h = refl
      go x (e ∷ es) h = right (not (earlier e x)) (rises_from earlier e es) h

  pub read-sorted : Sorted earlier (read_from kept_in k running time l).kept
  read-sorted = sorted-rising earlier earlier-trans (read_from kept_in k running time l).kept read-rising

  pub read-late : all (λ e. le_z (pos time) e.time) (read_from kept_in k running time l).kept ≡ true
  unfolding all
  read-late =
      kept-holds (λ t es. all (λ e. le_z (pos t) e.time) es ≡ true) (λ t. refl)
      (λ t g es q. all-imply (λ (e : Event). le_z (pos (t + g)) e.time) (λ e. le_z (pos t) e.time) (λ e. from-later t g e.time) es q)
      (λ t g e es h q. rw (h.time, le-leb t (t + g) (omega arith)) (all-imply (λ (e : Event). le_z (pos (t + g)) e.time) (λ e. le_z (pos t) e.time) (λ e. from-later t g e.time) es q))
      k running time l

  -- behind a time no later than the reader's
  pub read-gaps : (z : ℤ) → lt_z (pos time) z ≡ false → gapped z (read_from kept_in k running time l).kept ≡ near z (read_from kept_in k running time l).kept
  unfolding gapped near inside
  read-gaps =
      kept-holds (λ t es. (z : ℤ) → lt_z (pos t) z ≡ false → gapped z es ≡ near z es) (λ t z h. refl) (λ t g es q z h. q z (no-sooner t g z h))
      (λ t g e es h q z from.
      let later : le_z z e.time ≡ true = rw h.time (nlt-le (pos (t + g)) z (no-sooner t g z from)) in
      rw (from_zero_lem e.time z later, q e.time (rw h.time (lt_z-irrefl (pos (t + g))))))
      k running time l
