-- Chunks computed: what can be held beside the published format by hand, kept, stepped over, refused, and what is refused first.
use mathlib.Core.Path.{◌≡◌, refl}
use mathlib.Core.List.{List, [], ◌∷◌, ◌++◌}
use Prim.Native.Nat.{ℕ, ◌+◌, ◌*◌, ◌^◌}
use native.Mathlib.Omega.{arith}
use lib.IntN.{ℤ, pos}
use lib.ListN.{length, replicate}
use Rattle.laws.specs.Integers.{sized}
use Rattle.laws.specs.Lists.{all}
use Rattle.numbers.specs.Ranges.{is_event_time}
use Rattle.events.specs.Kinds.{note_off}
use Rattle.events.specs.Events.{plain_event, note_event, voice_event, cc_event, pitch_bend_event}
use Rattle.eventlist.specs.Rows.{record_width, numbers_of, rows_of}
use Rattle.eventlist.specs.Sound.{is_list}
use Rattle.quantities.specs.Quantities.{quantity_from}
use Rattle.chunks.specs.Reader.{single, step_over, end_in, meta_in, second_in, message_in, status_in, seen_in, read_from, read_body}
use Rattle.chunks.specs.Told.{event_in}
use Rattle.reader.specs.Reading.{ended, kept_in, marked, is_chunk, read_of, placed, unread, read_refusal, read_taken, read_left}
use Rattle.reader.specs.Rereading.{WholeEvents, none, more}
use Rattle.reader.proofs.Running.{running-same}

-- ---- kept
-- NoteOn, NoteOff with a velocity, controller, program, bend on channel 1, a gap before each
pub each-kind : read_body kept_in (0 ∷ 145 ∷ 60 ∷ 100 ∷ 1 ∷ 129 ∷ 60 ∷ 64 ∷ 2 ∷ 177 ∷ 7 ∷ 90 ∷ 3 ∷ 193 ∷ 52 ∷ 4 ∷ 225 ∷ 0 ∷ 64 ∷ 0 ∷ 255 ∷ 47 ∷ 0 ∷ [])
    ≡ record {
      code = 0;
      kept =
          note_event (pos 0) (pos 1) (pos 60) (pos 0) (pos 100)
          ∷ plain_event note_off (pos 1) (pos 1) (pos 60) (pos 0) (pos 0)
          ∷ cc_event (pos 3) (pos 1) (pos 7) (pos 90)
          ∷ voice_event (pos 6) (pos 1) (pos 52)
          ∷ pitch_bend_event (pos 10) (pos 1) (pos 8192)
          ∷ [];
    }
unfolding read_from seen_in status_in message_in second_in meta_in end_in quantity_from single kept_in event_in ended
each-kind = refl

-- a NoteOn of velocity 0 is a note's end, also under running status
pub velocity-zero : read_body kept_in (0 ∷ 144 ∷ 60 ∷ 100 ∷ 96 ∷ 60 ∷ 0 ∷ 0 ∷ 255 ∷ 47 ∷ 0 ∷ [])
    ≡ record { code = 0; kept = note_event (pos 0) (pos 0) (pos 60) (pos 0) (pos 100) ∷ plain_event note_off (pos 96) (pos 0) (pos 60) (pos 0) (pos 0) ∷ [] }
unfolding read_from seen_in status_in message_in second_in meta_in end_in quantity_from single kept_in event_in ended
velocity-zero = refl

-- running status of one data byte
pub running-program : read_body kept_in (0 ∷ 192 ∷ 1 ∷ 5 ∷ 2 ∷ 0 ∷ 255 ∷ 47 ∷ 0 ∷ [])
    ≡ record { code = 0; kept = voice_event (pos 0) (pos 0) (pos 1) ∷ voice_event (pos 5) (pos 0) (pos 2) ∷ [] }
unfolding read_from seen_in status_in message_in meta_in end_in quantity_from single kept_in event_in ended
running-program = refl

-- the last status of a channel, and data bytes of 127
pub highest : read_body kept_in (0 ∷ 239 ∷ 127 ∷ 127 ∷ 0 ∷ 255 ∷ 47 ∷ 0 ∷ []) ≡ record { code = 0; kept = pitch_bend_event (pos 0) (pos 15) (pos 16383) ∷ [] }
unfolding read_from seen_in status_in message_in second_in meta_in end_in quantity_from single kept_in event_in ended
highest = refl

-- ---- stepped over
-- a Meta event of any type, whose time counts towards the next
pub meta-time : read_body kept_in (5 ∷ 255 ∷ 3 ∷ 2 ∷ 255 ∷ 128 ∷ 3 ∷ 144 ∷ 60 ∷ 100 ∷ 0 ∷ 255 ∷ 47 ∷ 0 ∷ [])
    ≡ record { code = 0; kept = note_event (pos 8) (pos 0) (pos 60) (pos 0) (pos 100) ∷ [] }
unfolding read_from seen_in status_in message_in second_in meta_in step_over end_in quantity_from single kept_in event_in ended
meta-time = refl

-- system exclusive, in two parts, whatever the bytes are
pub exclusive-time : read_body kept_in (5 ∷ 240 ∷ 2 ∷ 1 ∷ 144 ∷ 6 ∷ 247 ∷ 2 ∷ 255 ∷ 247 ∷ 7 ∷ 144 ∷ 60 ∷ 100 ∷ 0 ∷ 255 ∷ 47 ∷ 0 ∷ [])
    ≡ record { code = 0; kept = note_event (pos 18) (pos 0) (pos 60) (pos 0) (pos 100) ∷ [] }
unfolding read_from seen_in status_in message_in second_in meta_in step_over end_in quantity_from single kept_in event_in ended
exclusive-time = refl

-- an aftertouch of one data byte, whose time counts and whose status runs on
pub touch-one : read_body kept_in (0 ∷ 144 ∷ 60 ∷ 100 ∷ 1 ∷ 208 ∷ 3 ∷ 2 ∷ 4 ∷ 3 ∷ 144 ∷ 61 ∷ 100 ∷ 0 ∷ 255 ∷ 47 ∷ 0 ∷ [])
    ≡ record { code = 0; kept = note_event (pos 0) (pos 0) (pos 60) (pos 0) (pos 100) ∷ note_event (pos 6) (pos 0) (pos 61) (pos 0) (pos 100) ∷ [] }
unfolding read_from seen_in status_in message_in second_in meta_in end_in quantity_from single kept_in event_in ended
touch-one = refl

-- and the one of two data bytes
pub touch-two : read_body kept_in (0 ∷ 144 ∷ 60 ∷ 100 ∷ 1 ∷ 160 ∷ 60 ∷ 3 ∷ 2 ∷ 60 ∷ 4 ∷ 3 ∷ 144 ∷ 61 ∷ 100 ∷ 0 ∷ 255 ∷ 47 ∷ 0 ∷ [])
    ≡ record { code = 0; kept = note_event (pos 0) (pos 0) (pos 60) (pos 0) (pos 100) ∷ note_event (pos 6) (pos 0) (pos 61) (pos 0) (pos 100) ∷ [] }
unfolding read_from seen_in status_in message_in second_in meta_in end_in quantity_from single kept_in event_in ended
touch-two = refl

-- a Meta event, of the last type, and a system exclusive of no bytes
pub of-no-bytes : read_body kept_in (0 ∷ 255 ∷ 127 ∷ 0 ∷ 0 ∷ 240 ∷ 0 ∷ 0 ∷ 247 ∷ 0 ∷ 0 ∷ 255 ∷ 47 ∷ 0 ∷ []) ≡ record { code = 0; kept = [] }
unfolding read_from seen_in status_in meta_in step_over end_in quantity_from
of-no-bytes = refl

-- ---- longer forms
-- a gap of 5 in four bytes, a length of 1 in two
pub longer-gap : read_body kept_in (128 ∷ 128 ∷ 128 ∷ 5 ∷ 144 ∷ 60 ∷ 100 ∷ 0 ∷ 255 ∷ 1 ∷ 128 ∷ 1 ∷ 65 ∷ 0 ∷ 255 ∷ 47 ∷ 0 ∷ [])
    ≡ record { code = 0; kept = note_event (pos 5) (pos 0) (pos 60) (pos 0) (pos 100) ∷ [] }
unfolding read_from seen_in status_in message_in second_in meta_in step_over end_in quantity_from single kept_in event_in ended
longer-gap = refl

-- an end of track whose length 0 is in two bytes
pub longer-end : read_body kept_in (0 ∷ 255 ∷ 47 ∷ 128 ∷ 0 ∷ []) ≡ record { code = 0; kept = [] }
unfolding read_from seen_in status_in meta_in end_in quantity_from
longer-end = refl

-- the largest gap
pub largest-gap : read_body kept_in (255 ∷ 255 ∷ 255 ∷ 127 ∷ 144 ∷ 60 ∷ 100 ∷ 0 ∷ 255 ∷ 47 ∷ 0 ∷ [])
    ≡ record { code = 0; kept = note_event (pos 268435455) (pos 0) (pos 60) (pos 0) (pos 100) ∷ [] }
unfolding read_from seen_in status_in message_in second_in meta_in end_in quantity_from single kept_in event_in ended
largest-gap = refl

-- ---- 14
-- a quantity of five bytes, as a gap and as a length
pub fifth-byte : (read_body kept_in (128 ∷ 128 ∷ 128 ∷ 128 ∷ 0 ∷ 144 ∷ 60 ∷ 100 ∷ 0 ∷ 255 ∷ 47 ∷ 0 ∷ [])).code ≡ 14
unfolding read_from seen_in quantity_from
fifth-byte = refl

pub fifth-of-length : (read_body kept_in (0 ∷ 255 ∷ 1 ∷ 128 ∷ 128 ∷ 128 ∷ 128 ∷ 0 ∷ 0 ∷ 255 ∷ 47 ∷ 0 ∷ [])).code ≡ 14
unfolding read_from seen_in status_in meta_in step_over quantity_from
fifth-of-length = refl

-- cut short: in a gap, behind it, behind a status, between two data bytes
pub cut-gap : (read_body kept_in (129 ∷ [])).code ≡ 14
unfolding read_from seen_in quantity_from
cut-gap = refl

pub cut-status : (read_body kept_in (0 ∷ [])).code ≡ 14
unfolding read_from seen_in status_in quantity_from
cut-status = refl

pub cut-first : (read_body kept_in (0 ∷ 144 ∷ [])).code ≡ 14
unfolding read_from seen_in status_in message_in quantity_from
cut-first = refl

pub cut-second : (read_body kept_in (0 ∷ 144 ∷ 60 ∷ [])).code ≡ 14
unfolding read_from seen_in status_in message_in second_in quantity_from single
cut-second = refl

-- cut short: behind FF, in a Meta event, in a system exclusive; behind FF 2F
pub cut-meta : (read_body kept_in (0 ∷ 255 ∷ [])).code ≡ 14
unfolding read_from seen_in status_in meta_in quantity_from
cut-meta = refl

pub cut-text : (read_body kept_in (0 ∷ 255 ∷ 1 ∷ 2 ∷ 65 ∷ [])).code ≡ 14
unfolding read_from seen_in status_in meta_in step_over quantity_from
cut-text = refl

pub cut-exclusive : (read_body kept_in (0 ∷ 240 ∷ 3 ∷ 1 ∷ 247 ∷ [])).code ≡ 14
unfolding read_from seen_in status_in step_over quantity_from
cut-exclusive = refl

pub cut-end : (read_body kept_in (0 ∷ 255 ∷ 47 ∷ [])).code ≡ 14
unfolding read_from seen_in status_in meta_in end_in quantity_from
cut-end = refl

-- a data byte above 127, the first and the second; a Meta type above 127
pub first-high : (read_body kept_in (0 ∷ 144 ∷ 128 ∷ 100 ∷ 0 ∷ 255 ∷ 47 ∷ 0 ∷ [])).code ≡ 14
unfolding read_from seen_in status_in message_in quantity_from
first-high = refl

pub second-high : (read_body kept_in (0 ∷ 144 ∷ 60 ∷ 128 ∷ 0 ∷ 255 ∷ 47 ∷ 0 ∷ [])).code ≡ 14
unfolding read_from seen_in status_in message_in second_in quantity_from single
second-high = refl

pub type-high : (read_body kept_in (0 ∷ 255 ∷ 128 ∷ 0 ∷ 0 ∷ 255 ∷ 47 ∷ 0 ∷ [])).code ≡ 14
unfolding read_from seen_in status_in meta_in quantity_from
type-high = refl

-- status F1 to F6, F8 to FE
pub status-f1 : (read_body kept_in (0 ∷ 241 ∷ 0 ∷ 0 ∷ 255 ∷ 47 ∷ 0 ∷ [])).code ≡ 14
unfolding read_from seen_in status_in quantity_from
status-f1 = refl

pub status-f6 : (read_body kept_in (0 ∷ 246 ∷ 0 ∷ 0 ∷ 255 ∷ 47 ∷ 0 ∷ [])).code ≡ 14
unfolding read_from seen_in status_in quantity_from
status-f6 = refl

pub status-f8 : (read_body kept_in (0 ∷ 248 ∷ 0 ∷ 0 ∷ 255 ∷ 47 ∷ 0 ∷ [])).code ≡ 14
unfolding read_from seen_in status_in quantity_from
status-f8 = refl

pub status-fe : (read_body kept_in (0 ∷ 254 ∷ 0 ∷ 0 ∷ 255 ∷ 47 ∷ 0 ∷ [])).code ≡ 14
unfolding read_from seen_in status_in quantity_from
status-fe = refl

-- an end of track with a length, and as many bytes
pub end-with-length : (read_body kept_in (0 ∷ 255 ∷ 47 ∷ 1 ∷ 0 ∷ [])).code ≡ 14
unfolding read_from seen_in status_in meta_in end_in quantity_from
end-with-length = refl

-- running status without a status before it, first, behind a Meta event, behind F0 and behind F7
pub no-status : (read_body kept_in (0 ∷ 60 ∷ 100 ∷ 0 ∷ 255 ∷ 47 ∷ 0 ∷ [])).code ≡ 14
unfolding read_from seen_in status_in quantity_from
no-status = refl

pub meta-ends-it : (read_body kept_in (0 ∷ 144 ∷ 60 ∷ 100 ∷ 0 ∷ 255 ∷ 1 ∷ 0 ∷ 0 ∷ 61 ∷ 100 ∷ 0 ∷ 255 ∷ 47 ∷ 0 ∷ [])).code ≡ 14
unfolding read_from seen_in status_in message_in second_in meta_in step_over quantity_from single
meta-ends-it = refl

pub exclusive-ends-it : (read_body kept_in (0 ∷ 144 ∷ 60 ∷ 100 ∷ 0 ∷ 240 ∷ 1 ∷ 247 ∷ 0 ∷ 61 ∷ 100 ∷ 0 ∷ 255 ∷ 47 ∷ 0 ∷ [])).code ≡ 14
unfolding read_from seen_in status_in message_in second_in step_over quantity_from single
exclusive-ends-it = refl

pub rest-ends-it : (read_body kept_in (0 ∷ 144 ∷ 60 ∷ 100 ∷ 0 ∷ 247 ∷ 1 ∷ 247 ∷ 0 ∷ 61 ∷ 100 ∷ 0 ∷ 255 ∷ 47 ∷ 0 ∷ [])).code ≡ 14
unfolding read_from seen_in status_in message_in second_in step_over quantity_from single
rest-ends-it = refl

-- ---- 15
-- no byte; no end of track behind a whole event; a byte behind the end of track, whatever it is
pub nothing : (read_body kept_in []).code ≡ 15
unfolding read_from
nothing = refl

pub no_end : (read_body kept_in (0 ∷ 144 ∷ 60 ∷ 100 ∷ [])).code ≡ 15
unfolding read_from seen_in status_in message_in second_in quantity_from single
no_end = refl

pub behind-end : (read_body kept_in (0 ∷ 255 ∷ 47 ∷ 0 ∷ 0 ∷ [])).code ≡ 15
unfolding read_from seen_in status_in meta_in end_in quantity_from
behind-end = refl

pub faulty-behind-end : (read_body kept_in (0 ∷ 255 ∷ 47 ∷ 0 ∷ 0 ∷ 144 ∷ 128 ∷ [])).code ≡ 15
unfolding read_from seen_in status_in meta_in end_in quantity_from
faulty-behind-end = refl

-- ---- the first from the front
-- 14 that stands before 15
pub high-before-no-end : (read_body kept_in (0 ∷ 144 ∷ 60 ∷ 128 ∷ [])).code ≡ 14
unfolding read_from seen_in status_in message_in second_in quantity_from single
high-before-no-end = refl

-- ---- the call, in order
-- bodies shorter than 256 bytes
abbrev chunk : List ℕ → List ℕ
chunk body = 77 ∷ 84 ∷ 114 ∷ 107 ∷ 0 ∷ 0 ∷ 0 ∷ length body ∷ body

-- a list with room for so many events
abbrev room_for : ℕ → List ℤ
room_for n = replicate (n * record_width) (pos 0)

-- 1 before all: numbers that are no whole record, a count above the records, and no chunk
pub broken-list : read_refusal [] (replicate 7 (pos 0)) 0 ≡ 1
unfolding read_refusal is_list
broken-list = refl

pub high-count : read_refusal [] (room_for 1) 2 ≡ 1
unfolding read_refusal is_list
high-count = refl

-- 13: no byte; a head cut short; another mark; a length of one less and of one more than follow, though a fault is in the body
pub no-input : read_refusal [] (room_for 1) 1 ≡ 13
unfolding read_refusal unread is_chunk is_list
no-input = refl

pub cut-head : read_refusal (77 ∷ 84 ∷ 114 ∷ 107 ∷ 0 ∷ 0 ∷ 0 ∷ []) (room_for 1) 1 ≡ 13
unfolding read_refusal unread is_chunk is_list
cut-head = refl

pub other-mark : read_refusal (77 ∷ 84 ∷ 104 ∷ 100 ∷ 0 ∷ 0 ∷ 0 ∷ 4 ∷ 0 ∷ 255 ∷ 47 ∷ 0 ∷ []) (room_for 1) 1 ≡ 13
unfolding read_refusal unread is_chunk marked is_list
other-mark = refl

pub says_less : read_refusal (77 ∷ 84 ∷ 114 ∷ 107 ∷ 0 ∷ 0 ∷ 0 ∷ 3 ∷ 0 ∷ 144 ∷ 128 ∷ 0 ∷ []) (room_for 1) 1 ≡ 13
unfolding read_refusal unread is_chunk marked is_list
says_less = refl

pub says-more : read_refusal (77 ∷ 84 ∷ 114 ∷ 107 ∷ 0 ∷ 0 ∷ 0 ∷ 5 ∷ 0 ∷ 144 ∷ 128 ∷ 0 ∷ []) (room_for 1) 1 ≡ 13
unfolding read_refusal unread is_chunk marked is_list
says-more = refl

-- a head alone is a chunk, whose body has no end of track
pub head-alone : read_refusal (chunk []) (room_for 1) 1 ≡ 15
unfolding read_refusal unread is_chunk marked read_of is_list read_from
head-alone = refl

-- 14 and 15 before 7: a list without room
pub fault-before-room : read_refusal (chunk (0 ∷ 144 ∷ 60 ∷ 100 ∷ 0 ∷ 144 ∷ 60 ∷ [])) [] 0 ≡ 14
unfolding read_refusal unread is_chunk marked read_of is_list read_from seen_in status_in message_in second_in quantity_from single
fault-before-room = refl

pub no-end-before-room : read_refusal (chunk (0 ∷ 144 ∷ 60 ∷ 100 ∷ [])) [] 0 ≡ 15
unfolding read_refusal unread is_chunk marked read_of is_list read_from seen_in status_in message_in second_in quantity_from single
no-end-before-room = refl

-- room for none, and for one
pub no_room : read_refusal (chunk (0 ∷ 144 ∷ 60 ∷ 100 ∷ 0 ∷ 255 ∷ 47 ∷ 0 ∷ [])) [] 0 ≡ 7
unfolding read_refusal unread placed is_chunk marked read_of is_list rows_of read_from seen_in status_in message_in second_in meta_in end_in quantity_from single kept_in event_in
no_room = refl

pub exact-room : read_refusal (chunk (0 ∷ 144 ∷ 60 ∷ 100 ∷ 0 ∷ 255 ∷ 47 ∷ 0 ∷ [])) (room_for 1) 0 ≡ 0
unfolding read_refusal unread placed is_chunk marked read_of is_list rows_of all is_event_time sized read_from seen_in status_in message_in second_in meta_in end_in quantity_from single kept_in event_in ended
exact-room = refl

-- no event needs no room: what is stepped over asks for none
pub no-room-needed : read_refusal (chunk (0 ∷ 208 ∷ 3 ∷ 0 ∷ 255 ∷ 47 ∷ 0 ∷ [])) [] 0 ≡ 0
unfolding read_refusal unread placed is_chunk marked read_of is_list rows_of all read_from seen_in status_in message_in meta_in end_in quantity_from single kept_in event_in
no-room-needed = refl

-- 4 behind 7: the last time that may be stored, one more, and that without room
pub latest : placed (voice_event (pos (2 ^ 42)) (pos 0) (pos 1) ∷ []) 1 ≡ 0
unfolding placed all is_event_time sized
latest = refl

pub too-late : placed (voice_event (pos (2 ^ 42 + 1)) (pos 0) (pos 1) ∷ []) 1 ≡ 4
unfolding placed all is_event_time sized
too-late = refl

pub room-before-times : placed (voice_event (pos (2 ^ 42 + 1)) (pos 0) (pos 1) ∷ []) 0 ≡ 7
unfolding placed
room-before-times = refl

-- ---- the list afterwards
-- one event into a list of three records of which two counted: the second falls vacant, the third stays
abbrev before : List ℤ
before = replicate (3 * record_width) (pos 9)

abbrev one-note : List ℕ
one-note = chunk (5 ∷ 144 ∷ 60 ∷ 100 ∷ 0 ∷ 255 ∷ 47 ∷ 0 ∷ [])

pub counted : read_taken one-note before 2 ≡ record { code = 0; count = 1 }
unfolding read_refusal unread placed is_chunk marked read_of is_list rows_of all is_event_time sized read_from seen_in status_in message_in second_in meta_in end_in quantity_from single kept_in event_in ended
counted = refl

pub listed : read_left one-note before 2
    ≡ numbers_of (note_event (pos 5) (pos 0) (pos 60) (pos 0) (pos 100)) ++ (replicate record_width (pos 0) ++ replicate record_width (pos 9))
unfolding read_refusal unread placed is_chunk marked read_of is_list rows_of all is_event_time sized read_from seen_in status_in message_in second_in meta_in end_in quantity_from single kept_in event_in ended
listed = refl

-- refused, the count and every number are as they were
pub refused : read_taken (chunk (0 ∷ 144 ∷ 60 ∷ [])) before 2 ≡ record { code = 14; count = 2 }
unfolding read_refusal unread is_chunk marked read_of is_list read_from seen_in status_in message_in second_in quantity_from single
refused = refl

pub untouched : read_left (chunk (0 ∷ 144 ∷ 60 ∷ [])) before 2 ≡ before
unfolding read_refusal unread is_chunk marked read_of is_list read_from seen_in status_in message_in second_in quantity_from single
untouched = refl

-- ---- dropped
-- behind a whole event a status that equals the running one may go: what the law asks, of bytes
pub one-event : WholeEvents 0 0 (5 ∷ 144 ∷ 60 ∷ 100 ∷ []) 144 5
unfolding seen_in status_in message_in second_in quantity_from single
one-event = more refl refl none

pub second-status : read_body kept_in (5 ∷ 144 ∷ 60 ∷ 100 ∷ 128 ∷ 3 ∷ 144 ∷ 61 ∷ 100 ∷ 0 ∷ 255 ∷ 47 ∷ 0 ∷ [])
    ≡ read_body kept_in (5 ∷ 144 ∷ 60 ∷ 100 ∷ 128 ∷ 3 ∷ 61 ∷ 100 ∷ 0 ∷ 255 ∷ 47 ∷ 0 ∷ [])
unfolding quantity_from
second-status = running-same one-event (omega arith) (omega arith) (128 ∷ 3 ∷ []) 3 refl 61 (omega arith) (100 ∷ 0 ∷ 255 ∷ 47 ∷ 0 ∷ [])
