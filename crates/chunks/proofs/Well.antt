-- An event that is well behind a time: it may be stored whatever the store, it follows the time, and it fits (`well-stored`, `well-follows`,
-- `well-fits`). So a pass that met no other knows all that is asked of the list. And it is all that is asked (`always-well`): a list that is written is
-- gone over once before that.
use mathlib.Core.Bool.{Bool, true, false, ◌&&◌}
use mathlib.Core.Path.{◌≡◌}
use Prim.Native.Nat.{ℕ}
use native.Mathlib.Omega.{arith}
use lib.IntN.{ℤ, pos}
use Rattle.laws.specs.Integers.{eq_z, inside}
use Rattle.laws.proofs.Ranges.{left, right}
use Rattle.numbers.specs.Ranges.{is_event_time, is_channel, is_word, is_controller, is_bend}
use Rattle.events.specs.declared.Event.{Event}
use Rattle.events.specs.Kinds.{is_kind, has_data}
use Rattle.events.specs.Events.{ok_numbered, ok_data, ok_event}
use Rattle.events.proofs.Stored.{storable, storable-ok, small_word}
use Rattle.chunks.specs.Writing.{follows, is_data, fits}
use Rattle.chunks.specs.Steps.{well_after}
use Rattle.chunks.proofs.Sending.{Kinded, sounds, ends, controls, chooses, bends, kinded}

-- what the kind and the first value say
record Kept (e : Event) : Type 0 where
  kind : is_kind e.kind ≡ true
  first : is_word e.v1 ≡ true
  numbered : ok_numbered e ≡ true
  bare : has_data e.kind ≡ false

data-word : (z : ℤ) → is_data z ≡ true → is_word z ≡ true
unfolding is_data
data-word z h = small_word 127 z (omega arith) h

kept : (e : Event) → Kinded e → Kept e
unfolding is_kind has_data ok_numbered inside is_controller is_data is_bend
kept e (sounds k a b) = record { kind = rw k; first = data-word e.v1 a; numbered = rw k; bare = rw k }
kept e (ends k a) = record { kind = rw k; first = data-word e.v1 a; numbered = rw k; bare = rw k }
kept e (controls k a b) = record { kind = rw k; first = data-word e.v1 a; numbered = rw k a; bare = rw k }
kept e (chooses k a) = record { kind = rw k; first = data-word e.v1 a; numbered = rw k; bare = rw k }
kept e (bends k a) = record { kind = rw k; first = small_word 16383 e.v1 (omega arith) a; numbered = rw k; bare = rw k }

module _ (t : ℤ) (e : Event) (h : well_after t e ≡ true) where
  abbrev two : Bool
  two = follows t e && is_channel e.channel

  abbrev three : Bool
  three = two && is_word e.v2

  abbrev four : Bool
  four = three && is_word e.v3

  abbrev five : Bool
  five = four && eq_z e.offset (pos 0)

  abbrev six : Bool
  six = five && eq_z e.len (pos 0)

  pub well-timed : is_event_time e.time ≡ true
  unfolding well_after
  well-timed = left (is_event_time e.time) (six && fits e) h

  to-seven : (six && fits e) ≡ true
  unfolding well_after
  to-seven = right (is_event_time e.time) (six && fits e) h

  to-six : six ≡ true
  to-six = left six (fits e) to-seven

  to-five : five ≡ true
  to-five = left five (eq_z e.len (pos 0)) to-six

  to-four : four ≡ true
  to-four = left four (eq_z e.offset (pos 0)) to-five

  to-three : three ≡ true
  to-three = left three (is_word e.v3) to-four

  to-two : two ≡ true
  to-two = left two (is_word e.v2) to-three

  pub well-follows : follows t e ≡ true
  well-follows = left (follows t e) (is_channel e.channel) to-two

  pub well-fits : fits e ≡ true
  well-fits = right six (fits e) to-seven

  no-data : (store : ℕ) → has_data e.kind ≡ false → ok_data store e ≡ true
  unfolding ok_data
  no-data store d = rw (d, right four (eq_z e.offset (pos 0)) to-five, right five (eq_z e.len (pos 0)) to-six)

  pub well-stored : (store : ℕ) → ok_event store e ≡ true
  well-stored store =
      let k = kept e (kinded e well-fits) in
      storable-ok store e
      (record {
        kind = k.kind;
        time = well-timed;
        channel = right (follows t e) (is_channel e.channel) to-two;
        v1 = k.first;
        v2 = right two (is_word e.v2) to-three;
        v3 = right three (is_word e.v3) to-four;
        numbered = k.numbered;
        bytes = no-data store k.bare;
      })

pub always-well : (store : ℕ) (t : ℤ) (e : Event) → ok_event store e ≡ true → follows t e ≡ true → fits e ≡ true → well_after t e ≡ true
unfolding well_after ok_data
always-well store t e ok near f =
    let s = storable store e ok in
    let k = kept e (kinded e f) in
    let none = rw k.bare at s.bytes in
    let offset = left (eq_z e.offset (pos 0)) (eq_z e.len (pos 0)) none in
    let len = right (eq_z e.offset (pos 0)) (eq_z e.len (pos 0)) none in
    rw (s.time, near, s.channel, s.v2, s.v3, offset, len, f)
