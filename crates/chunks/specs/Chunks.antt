-- 02, b): "an MTrk chunk from a normalised, sorted list, by Standard MIDI Files 1.0: delta times as variable-length quantities, NoteOn,
-- NoteOff (status 8n, velocity 0), controllers, program and bend, full status on every event, end of track last, gap 0".
use Rattle.std.specs.Prelude.{cond, List, [], ◌∷◌, ◌++◌, ℕ, ◌+◌, ◌*◌, ◌/◌, ◌%◌, ◌^◌, ℤ, pos, ◌-ℤ◌, length}
use Rattle.laws.specs.Integers.{eq_z, cut}
use Rattle.events.specs.declared.Event.{Event}
use Rattle.events.specs.Kinds.{note_on, note_off, control_change, pitch_bend, voice}
use Rattle.quantities.specs.Quantities.{quantity_of}

-- ---- a message
-- the status: what the message says, in the high four bits, and its channel
abbrev pub status_of : ℕ → Event → ℕ
status_of says e = 16 * says + cut e.channel

-- NoteOn 9n note velocity; NoteOff 8n note 0; controller Bn number value; program Cn number; bend En, its low seven bits, its high seven.
-- No other kind is written.
unfoldable pub message_of : Event → List ℕ
message_of e =
    cond (eq_z e.kind note_on) (status_of 9 e ∷ cut e.v1 ∷ cut e.v3 ∷ [])
    (cond (eq_z e.kind note_off) (status_of 8 e ∷ cut e.v1 ∷ 0 ∷ [])
    (cond (eq_z e.kind control_change) (status_of 11 e ∷ cut e.v1 ∷ cut e.v2 ∷ [])
    (cond (eq_z e.kind voice) (status_of 12 e ∷ cut e.v1 ∷ [])
    (cond (eq_z e.kind pitch_bend) (status_of 14 e ∷ cut e.v1 % 128 ∷ cut e.v1 / 128 ∷ [])
    []))))

abbrev pub end_of_track : List ℕ
end_of_track = 255 ∷ 47 ∷ 0 ∷ []

-- ---- a chunk
-- the gap of an event after a time
abbrev pub gap_after : ℤ → Event → ℕ
gap_after t e = cut (e.time -ℤ t)

-- an event is its gap and its message
unfoldable pub written_after : ℤ → Event → List ℕ
written_after t e = quantity_of (gap_after t e) ++ message_of e

-- the events behind a time, each after the one before it, and the end of track
unfoldable pub body_from : ℤ → List Event → List ℕ
body_from t [] = quantity_of 0 ++ end_of_track
body_from t (e ∷ es) = written_after t e ++ body_from e.time es

-- the first gap is "from time 0"
abbrev pub body_of : List Event → List ℕ
body_of es = body_from (pos 0) es

-- a number below 2^32 in four bytes, big end first
abbrev pub length_top : ℕ
length_top = 2 ^ 32

unfoldable pub big_endian : ℕ → List ℕ
big_endian n = n / 16777216 % 256 ∷ n / 65536 % 256 ∷ n / 256 % 256 ∷ n % 256 ∷ []

-- "MTrk"
abbrev pub mark : List ℕ
mark = 77 ∷ 84 ∷ 114 ∷ 107 ∷ []

-- the mark, the body's length, the body
unfoldable pub chunk_of : List Event → List ℕ
chunk_of es = mark ++ (big_endian (length (body_of es)) ++ body_of es)
