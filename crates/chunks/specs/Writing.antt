-- 02, b): what `write_chunk` refuses, in this order, and what it leaves: "10 list unsorted, first time negative, or a gap (the first from
-- time 0) above 268,435,455; 11 a kind not written, or a field outside its MIDI width, where a bend is 0..16,383; 12 output too short. On
-- each the output is untouched." 1 and 4 come first, and each is asked of the whole list before the next.
use Rattle.std.specs.Prelude.{Bool, true, cond, ◌&&◌, ◌||◌, List, [], ◌∷◌, ℕ, ◌+◌, ◌-◌, eqb, ltb, leb, ℤ, pos, ◌-ℤ◌, length}
use Rattle.laws.specs.Integers.{eq_z, inside}
use Rattle.laws.specs.Lists.{all}
use Rattle.numbers.specs.Ranges.{is_bend}
use Rattle.events.specs.declared.Event.{Event}
use Rattle.events.specs.Kinds.{note_on, note_off, control_change, pitch_bend, voice}
use Rattle.eventlist.specs.Rows.{events_of}
use Rattle.eventlist.specs.Sound.{is_list, ok_events}
use Rattle.text.specs.Laying.{laid}
use Rattle.quantities.specs.Quantities.{quantity_top}
use Rattle.chunks.specs.declared.Chunk.{Chunk}
use Rattle.chunks.specs.Chunks.{body_of, chunk_of, length_top}

-- ---- 10
-- the longest gap: the largest quantity, 268,435,455
abbrev pub longest_gap : ℕ
longest_gap = quantity_top - 1

-- an event not before a time, nor too far behind it
abbrev pub follows : ℤ → Event → Bool
follows t e = inside (pos 0) (pos longest_gap) (e.time -ℤ t)

-- each event so after the one before it, the first after t
unfoldable pub gapped : ℤ → List Event → Bool
gapped t [] = true
gapped t (e ∷ es) = follows t e && gapped e.time es

-- ---- 11
-- a data byte has seven bits, a bend two data bytes
unfoldable pub is_data : ℤ → Bool
is_data z = inside (pos 0) (pos 127) z

-- a kind that is written, and each field that is written of it in its width
unfoldable pub fits : Event → Bool
fits e =
    (eq_z e.kind note_on && is_data e.v1 && is_data e.v3)
    || (eq_z e.kind note_off && is_data e.v1)
    || (eq_z e.kind control_change && is_data e.v1 && is_data e.v2)
    || (eq_z e.kind voice && is_data e.v1)
    || (eq_z e.kind pitch_bend && is_bend e.v1)

-- ---- 12
-- the bytes before the body: the mark and the length
abbrev pub head_bytes : ℕ
head_bytes = 8

-- the chunk has room, and its length four bytes
unfoldable pub room_for : ℕ → ℕ → Bool
room_for body room = ltb body length_top && leb (head_bytes + body) room

-- ---- the call
-- what is asked of sound events and an output of so many bytes
abbrev pub unwritten : List Event → ℕ → ℕ
unwritten es room =
    cond (gapped (pos 0) es) (cond (all fits es) (cond (room_for (length (body_of es)) room) 0 12) 11) 10

-- of a list, beside a store of so many bytes
unfoldable pub chunk_refusal : ℕ → List ℤ → ℕ → ℕ → ℕ
chunk_refusal store l count room =
    cond (is_list l count) (cond (ok_events store l count) (unwritten (events_of l count) room) 4) 1

abbrev pub refused_chunk : ℕ → Chunk
refused_chunk n = record { code = n; bytes = 0 }

-- the answer: the number, and the chunk's length
abbrev pub chunk_written : ℕ → List ℤ → ℕ → ℕ → Chunk
chunk_written store l count room =
    record {
      code = chunk_refusal store l count room;
      bytes = cond (eqb (chunk_refusal store l count room) 0) (length (chunk_of (events_of l count))) 0;
    }

-- every byte of the output afterwards: the chunk at its start, and behind it what stood there
abbrev pub chunk_left : ℕ → List ℤ → ℕ → List ℕ → List ℕ
chunk_left store l count out =
    cond (eqb (chunk_refusal store l count (length out)) 0) (laid 0 (chunk_of (events_of l count)) out) out
