-- 01, "Stored events" and item 2: what an event may hold, the event that each constructor makes, and its answer.
use Rattle.std.specs.Prelude.{Bool, cond, not, ◌&&◌, ◌||◌, ℕ, ℤ, pos, ◌+ℤ◌}
use Rattle.std.specs.Int.Signed.{le_z}
use Rattle.laws.specs.Integers.{eq_z}
use Rattle.numbers.specs.Ranges.{is_event_time, is_channel, is_word, is_controller}
use Rattle.events.specs.declared.Event.{Event}
use Rattle.events.specs.declared.Made.{Made}
use Rattle.events.specs.declared.Size.{Size}
use Rattle.events.specs.Kinds.{note_on, control_change, pitch_bend, pitch_bend_range, voice, meta, sys_ex, direct_smf, is_kind, has_data, bytes_of}

-- ---- the rules
-- "controller number 0..127"
unfoldable pub ok_numbered : Event → Bool
ok_numbered e = not (eq_z e.kind control_change) || is_controller e.v1

-- a stretch inside a store of so many bytes
unfoldable pub is_stretch : ℕ → ℤ → ℤ → Bool
is_stretch store offset len = le_z (pos 0) offset && le_z (pos 0) len && le_z (offset +ℤ len) (pos store)

-- "data, where a kind has it, is a stretch inside the lent byte store; elsewhere offset and length are 0"
unfoldable pub ok_data : ℕ → Event → Bool
ok_data store e =
    cond (has_data e.kind)
    (is_stretch store e.offset e.len)
    (eq_z e.offset (pos 0) && eq_z e.len (pos 0))

-- "v1..v3 within 32 signed bits, channel 0..15, controller number 0..127"; event times within ±2^42
unfoldable pub ok_event : ℕ → Event → Bool
ok_event store e =
    is_kind e.kind && is_event_time e.time && is_channel e.channel && is_word e.v1 && is_word e.v2 && is_word e.v3
    && ok_numbered e && ok_data store e

-- all of that but the data
abbrev pub ok_plain : Event → Bool
ok_plain e =
    is_kind e.kind && is_event_time e.time && is_channel e.channel && is_word e.v1 && is_word e.v2 && is_word e.v3
    && ok_numbered e

-- ---- the events
abbrev pub zero_event : Event
zero_event = record { kind = pos 0; time = pos 0; channel = pos 0; v1 = pos 0; v2 = pos 0; v3 = pos 0; offset = pos 0; len = pos 0 }

-- of a kind with no data: kind, time, channel, v1, v2, v3
abbrev pub plain_event : ℤ → ℤ → ℤ → ℤ → ℤ → ℤ → Event
plain_event k t c a b d = record { kind = k; time = t; channel = c; v1 = a; v2 = b; v3 = d; offset = pos 0; len = pos 0 }

-- of a kind with data, which has channel 0: kind, time, v1, v2, v3, and the stretch
abbrev pub data_event : ℤ → ℤ → ℤ → ℤ → ℤ → ℤ → ℤ → Event
data_event k t a b d from n = record { kind = k; time = t; channel = pos 0; v1 = a; v2 = b; v3 = d; offset = from; len = n }

-- time, channel, note number, length, velocity
abbrev pub note_event : ℤ → ℤ → ℤ → ℤ → ℤ → Event
note_event t c a n vel = plain_event note_on t c a n vel

-- time, channel, value
abbrev pub voice_event : ℤ → ℤ → ℤ → Event
voice_event t c v = plain_event voice t c v (pos 0) (pos 0)

-- time, channel, controller, value
abbrev pub cc_event : ℤ → ℤ → ℤ → ℤ → Event
cc_event t c a v = plain_event control_change t c a v (pos 0)

-- time, channel, value
abbrev pub pitch_bend_event : ℤ → ℤ → ℤ → Event
pitch_bend_event t c v = plain_event pitch_bend t c v (pos 0) (pos 0)

-- time, channel, value
abbrev pub pitch_bend_range_event : ℤ → ℤ → ℤ → Event
pitch_bend_range_event t c v = plain_event pitch_bend_range t c v (pos 0) (pos 0)

-- time, v1, v2, v3, data
abbrev pub meta_event : ℤ → ℤ → ℤ → ℤ → ℤ → ℤ → Event
meta_event t a b d from n = data_event meta t a b d from n

-- time, data
abbrev pub direct_smf_event : ℤ → ℤ → ℤ → Event
direct_smf_event t from n = data_event direct_smf t (pos 0) (pos 0) (pos 0) from n

-- time, data
abbrev pub sysex_event : ℤ → ℤ → ℤ → Event
sysex_event t from n = data_event sys_ex t (pos 0) (pos 0) (pos 0) from n

-- ---- the answers
-- a refusal makes no event
abbrev pub refused : ℕ → Made
refused n = record { code = n; event = zero_event }

-- an event that may be stored beside a store of so many bytes, or 4
abbrev pub made : ℕ → Event → Made
made store e = cond (ok_event store e) (record { code = 0; event = e }) (refused 4)

-- a controller's number is asked first, and gives 2
abbrev pub made_cc : ℤ → ℤ → ℤ → ℤ → Made
made_cc t c a v = cond (is_controller a) (made 0 (cc_event t c a v)) (refused 2)

-- an event's size, or 4 where it may not be stored
abbrev pub size_of : ℕ → Event → Size
size_of store e = cond (ok_event store e) (record { code = 0; bytes = bytes_of e.kind e.len }) (record { code = 4; bytes = 0 })
