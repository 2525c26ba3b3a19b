-- An event that may be stored, by its parts, and those that calls make of numbers in their ranges.
--     Storable, storable, storable-ok   what the test says of each part, and back
--     small_word                        a number from 0 to no more than 32,639 is one of 32 signed bits
--     cc-stored, plain-stored           a controller's event; one of a kind with neither number nor data
use mathlib.Core.Path.{◌≡◌, refl, sym}
use mathlib.Core.Bool.{Bool, true, false, ◌&&◌, true≢false}
use Prim.Native.Nat.{ℕ, ◌-◌, ◌≤◌, ◌^◌}
use native.Mathlib.Omega.{arith}
use borrow.Author.Tests.{leb-true, le-leb}
use lib.Dec.{leb}
use lib.IntN.{ℤ, pos, negsuc}
use Rattle.laws.specs.Integers.{eq_z, inside}
use Rattle.laws.proofs.Ranges.{left, right}
use Rattle.numbers.specs.Ranges.{is_event_time, is_channel, is_word, is_controller}
use Rattle.events.specs.declared.Event.{Event}
use Rattle.events.specs.Kinds.{control_change, is_kind, has_data}
use Rattle.events.specs.Events.{ok_numbered, ok_data, ok_event, plain_event, cc_event}

pub record Storable (store : ℕ) (e : Event) : Type 0 where
  pub kind : is_kind e.kind ≡ true
  pub time : is_event_time e.time ≡ true
  pub channel : is_channel e.channel ≡ true
  pub v1 : is_word e.v1 ≡ true
  pub v2 : is_word e.v2 ≡ true
  pub v3 : is_word e.v3 ≡ true
  pub numbered : ok_numbered e ≡ true
  pub bytes : ok_data store e ≡ true

module _ (store : ℕ) (e : Event) where
  abbrev two : Bool
  two = is_kind e.kind && is_event_time e.time

  abbrev three : Bool
  three = two && is_channel e.channel

  abbrev four : Bool
  four = three && is_word e.v1

  abbrev five : Bool
  five = four && is_word e.v2

  abbrev six : Bool
  six = five && is_word e.v3

  abbrev seven : Bool
  seven = six && ok_numbered e

  pub storable : ok_event store e ≡ true → Storable store e
  unfolding ok_event
  storable y =
      let to-seven = left seven (ok_data store e) y in
      let to-six = left six (ok_numbered e) to-seven in
      let to-five = left five (is_word e.v3) to-six in
      let to-four = left four (is_word e.v2) to-five in
      let to-three = left three (is_word e.v1) to-four in
      let to-two = left two (is_channel e.channel) to-three in
      record {
        kind = left (is_kind e.kind) (is_event_time e.time) to-two;
        time = right (is_kind e.kind) (is_event_time e.time) to-two;
        channel = right two (is_channel e.channel) to-three;
        v1 = right three (is_word e.v1) to-four;
        v2 = right four (is_word e.v2) to-five;
        v3 = right five (is_word e.v3) to-six;
        numbered = right six (ok_numbered e) to-seven;
        bytes = right seven (ok_data store e) y;
      }

  pub storable-ok : Storable store e → ok_event store e ≡ true
  unfolding ok_event
  storable-ok s = rw (s.kind, s.time, s.channel, s.v1, s.v2, s.v3, s.numbered, s.bytes)

-- ---- numbers
pub small_word : (n : ℕ) (z : ℤ) → n ≤ 32639 → inside (pos 0) (pos n) z ≡ true → is_word z ≡ true
unfolding is_word inside
small_word n (pos k) h e = let m = leb-true k n (right (leb 0 k) (leb k n) e) in le-leb k (2 ^ 31 - 1) (omega arith)
small_word n (negsuc k) h e = absurd (true≢false (sym e))

controller-word : (z : ℤ) → is_controller z ≡ true → is_word z ≡ true
unfolding is_controller
controller-word z e = small_word 127 z (omega arith) e

zero_word : is_word (pos 0) ≡ true
unfolding is_word inside
zero_word = refl

-- ---- events
module _ (store : ℕ) (t c : ℤ) (time : is_event_time t ≡ true) (channel : is_channel c ≡ true) where
  pub cc-stored : (a v : ℤ) → is_controller a ≡ true → is_word v ≡ true → ok_event store (cc_event t c a v) ≡ true
  unfolding ok_event ok_numbered ok_data is_kind has_data inside
  cc-stored a v n w = rw (time, channel, controller-word a n, w, zero_word, n)

  pub plain-stored : (k v : ℤ) → is_kind k ≡ true → eq_z k control_change ≡ false → has_data k ≡ false → is_word v ≡ true → ok_event store (plain_event k t c v (pos 0) (pos 0)) ≡ true
  unfolding ok_event ok_numbered ok_data
  plain-stored k v h n d w = rw (h, time, channel, w, zero_word, n, d)
