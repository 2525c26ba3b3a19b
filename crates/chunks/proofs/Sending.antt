-- What is written of an event, by its kind: a status of a channel and one or two data bytes.
--     Kinded, kinded    an event that fits is one of five
--     Sent, sends       its message is of one of two forms, which a reader can tell
use mathlib.Core.Bool.{Bool, true, false, ◌&&◌, ◌||◌, true≢false}
use mathlib.Core.Path.{◌≡◌, refl, sym}
use mathlib.Core.List.{List, [], ◌∷◌}
use Prim.Native.Nat.{ℕ, ◌+◌, ◌*◌, ◌/◌, ◌%◌, ◌≤◌, ◌<◌}
use native.Mathlib.Omega.{arith}
use lib.Dec.{eqb}
use lib.IntN.{ℤ, pos, negsuc}
use Rattle.laws.specs.Integers.{eq_z, inside, cut}
use Rattle.laws.proofs.Bits.{eq_z-true}
use Rattle.laws.proofs.Ranges.{left, right}
use Rattle.numbers.specs.Ranges.{is_channel, is_bend}
use Rattle.events.specs.declared.Event.{Event}
use Rattle.events.specs.Kinds.{note_on, note_off, control_change, pitch_bend, voice}
use Rattle.chunks.specs.Chunks.{message_of}
use Rattle.chunks.specs.Writing.{is_data, fits}
use Rattle.chunks.specs.Reader.{single}
use Rattle.chunks.proofs.Leaves.{cut_most}

-- ---- a number from 0 to n
pub inside-cut : (n : ℕ) (z : ℤ) → inside (pos 0) (pos n) z ≡ true → z ≡ pos (cut z)
unfolding inside
inside-cut n (pos k) e = refl
inside-cut n (negsuc k) e = absurd (true≢false (sym e))

-- ---- by kind
pub data Kinded (e : Event) : Type 0 where
  sounds : e.kind ≡ note_on → is_data e.v1 ≡ true → is_data e.v3 ≡ true → Kinded e
  ends : e.kind ≡ note_off → is_data e.v1 ≡ true → Kinded e
  controls : e.kind ≡ control_change → is_data e.v1 ≡ true → is_data e.v2 ≡ true → Kinded e
  chooses : e.kind ≡ voice → is_data e.v1 ≡ true → Kinded e
  bends : e.kind ≡ pitch_bend → is_bend e.v1 ≡ true → Kinded e

-- one of two tests holds
either : {P : Type 0} (a b : Bool) → (a || b) ≡ true → (a ≡ true → P) → (b ≡ true → P) → P
either true b h f g = f refl
either false b h f g = g h

pub kinded : (e : Event) → fits e ≡ true → Kinded e
unfolding fits
kinded e h =
    let is : (k : ℤ) → eq_z e.kind k ≡ true → e.kind ≡ k = λ k q. eq_z-true e.kind k q in
    let d1 = is_data e.v1 in
    let on = eq_z e.kind note_on in
    let off = eq_z e.kind note_off in
    let control = eq_z e.kind control_change in
    let program = eq_z e.kind voice in
    let bend = eq_z e.kind pitch_bend in
    either _ (bend && is_bend e.v1) h
    (λ h. either _ (program && d1) h
    (λ h. either _ (control && d1 && is_data e.v2) h
    (λ h. either (on && d1 && is_data e.v3) (off && d1) h
    (λ r. let q = left (on && d1) (is_data e.v3) r in sounds (is note_on (left on d1 q)) (right on d1 q) (right (on && d1) (is_data e.v3) r))
    (λ r. ends (is note_off (left off d1 r)) (right off d1 r)))
    (λ r. let q = left (control && d1) (is_data e.v2) r in controls (is control_change (left control d1 q)) (right control d1 q) (right (control && d1) (is_data e.v2) r)))
    (λ r. chooses (is voice (left program d1 r)) (right program d1 r)))
    (λ r. bends (is pitch_bend (left bend (is_bend e.v1) r)) (right bend (is_bend e.v1) r))

-- ---- what a reader can tell
pub data Sent : List ℕ → Type 0 where
  one : (s a : ℕ) → 128 ≤ s → s < 240 → single s ≡ true → a < 128 → Sent (s ∷ a ∷ [])
  two : (s a b : ℕ) → 128 ≤ s → s < 240 → single s ≡ false → a < 128 → b < 128 → Sent (s ∷ a ∷ b ∷ [])

-- a status by what it says and its channel
pub says_is : (h c : ℕ) → c < 16 → (16 * h + c) / 16 ≡ h
says_is h c p = omega arith

pub channel-is : (h c : ℕ) → c < 16 → (16 * h + c) % 16 ≡ c
channel-is h c p = omega arith

module _ (e : Event) (on : is_channel e.channel ≡ true) where
  pub low-channel : cut e.channel < 16
  unfolding is_channel
  low-channel = let h = cut_most 15 e.channel on in omega arith

  data-low : (z : ℤ) → is_data z ≡ true → cut z < 128
  unfolding is_data
  data-low z h = let k = cut_most 127 z h in omega arith

  bend-low : (z : ℤ) → is_bend z ≡ true → cut z < 16384
  unfolding is_bend
  bend-low z h = let k = cut_most 16383 z h in omega arith

  -- what a status says tells whether it has one data byte
  single-is : (h : ℕ) → single (16 * h + cut e.channel) ≡ (eqb h 12 || eqb h 13)
  unfolding single
  single-is h = rw (says_is h (cut e.channel) low-channel)

  pub sends : fits e ≡ true → Sent (message_of e)
  unfolding message_of
  sends h = go (kinded e h)
    where
      c : cut e.channel < 16
      c = low-channel

      go : Kinded e → Sent (message_of e)
      go (sounds k a b) = rw k (two (144 + cut e.channel) (cut e.v1) (cut e.v3) (omega arith) (omega (arith, low-channel)) (single-is 9) (data-low e.v1 a) (data-low e.v3 b))
      go (ends k a) = rw k (two (128 + cut e.channel) (cut e.v1) 0 (omega arith) (omega (arith, low-channel)) (single-is 8) (data-low e.v1 a) (omega arith))
      go (controls k a b) = rw k (two (176 + cut e.channel) (cut e.v1) (cut e.v2) (omega arith) (omega (arith, low-channel)) (single-is 11) (data-low e.v1 a) (data-low e.v2 b))
      go (chooses k a) = rw k (one (192 + cut e.channel) (cut e.v1) (omega arith) (omega (arith, low-channel)) (single-is 12) (data-low e.v1 a))
      go (bends k a) = let l = bend-low e.v1 a in rw k (two (224 + cut e.channel) (cut e.v1 % 128) (cut e.v1 / 128) (omega arith) (omega (arith, low-channel)) (single-is 14) (omega arith) (omega arith))
