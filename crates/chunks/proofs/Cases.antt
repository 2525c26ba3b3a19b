-- Chunks computed, each byte: what can be held beside the published format by hand; and what is refused, and first.
use mathlib.Core.Path.{◌≡◌, refl, ap}
use mathlib.Core.List.{List, [], ◌∷◌, map}
use Prim.Native.Nat.{ℕ}
use native.Mathlib.Omega.{arith}
use lib.IntN.{pos, negsuc}
use lib.ListN.{get_or}
use Rattle.laws.specs.Integers.{inside}
use Rattle.laws.specs.Lists.{all}
use Rattle.numbers.specs.Ranges.{is_bend}
use Rattle.events.specs.declared.Event.{Event}
use Rattle.events.specs.Kinds.{note_off}
use Rattle.events.specs.Events.{plain_event, note_event, voice_event, cc_event, pitch_bend_event, pitch_bend_range_event}
use Rattle.quantities.specs.Quantities.{quantity_of, quantity_from}
use Rattle.chunks.specs.Chunks.{message_of, written_after, body_from, body_of, big_endian, chunk_of}
use Rattle.chunks.specs.Writing.{gapped, is_data, fits, room_for, unwritten}
use Rattle.chunks.specs.Reader.{single, step_over, end_in, meta_in, second_in, message_in, status_in, seen_in, read_from, read_body}
use Rattle.chunks.specs.Told.{told, event_in}

-- ---- written
-- no event: the end of track alone
pub nothing : chunk_of [] ≡ 77 ∷ 84 ∷ 114 ∷ 107 ∷ 0 ∷ 0 ∷ 0 ∷ 4 ∷ 0 ∷ 255 ∷ 47 ∷ 0 ∷ []
unfolding chunk_of body_from big_endian quantity_of
nothing = refl

-- program 52, volume 100 and a note on channel 1 at 0; the bend back to its middle at 48; the note's end at 96; a NoteOn of velocity 0 at 20,000
abbrev song : List Event
song =
    voice_event (pos 0) (pos 1) (pos 52)
    ∷ cc_event (pos 0) (pos 1) (pos 7) (pos 100)
    ∷ note_event (pos 0) (pos 1) (pos 60) (pos 96) (pos 100)
    ∷ pitch_bend_event (pos 48) (pos 1) (pos 8192)
    ∷ plain_event note_off (pos 96) (pos 1) (pos 60) (pos 96) (pos 100)
    ∷ note_event (pos 20000) (pos 1) (pos 60) (pos 0) (pos 0)
    ∷ []

pub each-kind : body_of song
    ≡ 0 ∷ 193 ∷ 52 ∷ 0 ∷ 177 ∷ 7 ∷ 100 ∷ 0 ∷ 145 ∷ 60 ∷ 100 ∷ 48 ∷ 225 ∷ 0 ∷ 64 ∷ 48 ∷ 129 ∷ 60 ∷ 0 ∷ 129 ∷ 155 ∷ 64 ∷ 145 ∷ 60 ∷ 0 ∷ 0 ∷ 255 ∷ 47 ∷ 0 ∷ []
unfolding body_from written_after message_of quantity_of
each-kind = refl

-- ---- refused
-- a bend range behind which the time falls: 10, which is asked of the whole list, before 11
pub order-first : unwritten (pitch_bend_range_event (pos 5) (pos 0) (pos 2) ∷ cc_event (pos 4) (pos 0) (pos 7) (pos 90) ∷ []) 100 ≡ 10
unfolding gapped inside
order-first = refl

-- a first time below 0; the longest gap, and one more
pub below-zero : unwritten (cc_event (negsuc 0) (pos 0) (pos 7) (pos 90) ∷ []) 100 ≡ 10
unfolding gapped inside
below-zero = refl

pub longest : unwritten (cc_event (pos 268435455) (pos 0) (pos 7) (pos 90) ∷ []) 19 ≡ 0
unfolding gapped inside all fits is_data room_for body_from written_after message_of quantity_of
longest = refl

pub too_far : unwritten (cc_event (pos 268435456) (pos 0) (pos 7) (pos 90) ∷ []) 100 ≡ 10
unfolding gapped inside
too_far = refl

-- a bend of 16,383, and one more
pub widest : unwritten (pitch_bend_event (pos 0) (pos 0) (pos 16383) ∷ []) 16 ≡ 0
unfolding gapped inside all fits is_bend room_for body_from written_after message_of quantity_of
widest = refl

pub too_wide : unwritten (pitch_bend_event (pos 0) (pos 0) (pos 16384) ∷ []) 100 ≡ 11
unfolding gapped inside all fits is_bend
too_wide = refl

-- room for all but the last byte
pub one-short : unwritten (pitch_bend_event (pos 0) (pos 0) (pos 16383) ∷ []) 15 ≡ 12
unfolding gapped inside all fits is_bend room_for body_from written_after message_of quantity_of
one-short = refl

-- ---- told
-- notes that differ in their lengths alone are told alike, and in their velocities not
pub lengths-untold : told (note_event (pos 0) (pos 1) (pos 60) (pos 96) (pos 100)) ≡ told (note_event (pos 0) (pos 1) (pos 60) (pos 48) (pos 100))
unfolding told
lengths-untold = refl

pub velocity-told : chunk_of (note_event (pos 0) (pos 1) (pos 60) (pos 96) (pos 100) ∷ []) ≡ chunk_of (note_event (pos 0) (pos 1) (pos 60) (pos 96) (pos 101) ∷ []) → ⊥
unfolding chunk_of big_endian body_from written_after message_of quantity_of
velocity-told same = let h = ap (λ (l : List ℕ). get_or l 11 0) same in absurd (omega arith)

-- ---- read
pub song-read : read_body event_in (body_of song) ≡ record { code = 0; kept = map told song }
unfolding read_from seen_in status_in message_in second_in meta_in end_in quantity_from single event_in told body_from written_after message_of quantity_of
song-read = refl

-- under running status, behind a Meta event that is stepped over and an aftertouch, which says the status anew
pub running-read : read_body event_in (0 ∷ 255 ∷ 3 ∷ 1 ∷ 65 ∷ 0 ∷ 145 ∷ 60 ∷ 100 ∷ 5 ∷ 64 ∷ 90 ∷ 0 ∷ 209 ∷ 3 ∷ 0 ∷ 4 ∷ 0 ∷ 255 ∷ 47 ∷ 0 ∷ [])
    ≡ record { code = 0; kept = note_event (pos 0) (pos 1) (pos 60) (pos 0) (pos 100) ∷ note_event (pos 5) (pos 1) (pos 64) (pos 0) (pos 90) ∷ [] }
unfolding read_from seen_in status_in message_in second_in meta_in step_over end_in quantity_from single event_in
running-read = refl

-- a data byte with no status before it; no end of track
pub no-status : (read_body event_in (0 ∷ 60 ∷ 100 ∷ 0 ∷ 255 ∷ 47 ∷ 0 ∷ [])).code ≡ 14
unfolding read_from seen_in status_in quantity_from
no-status = refl

pub no_end : (read_body event_in (0 ∷ 145 ∷ 60 ∷ 100 ∷ [])).code ≡ 15
unfolding read_from seen_in status_in message_in second_in quantity_from single event_in
no_end = refl
