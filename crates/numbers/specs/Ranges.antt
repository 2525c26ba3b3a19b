-- 01, "Numbers a caller may hand in" and "Stored events": one test for each range, both ends included.
use Rattle.std.specs.Prelude.{Bool, ◌||◌, ℕ, ◌-◌, ◌^◌, leb, eqb, ℤ, pos, negsuc}
use Rattle.std.specs.Int.Signed.{le_z}
use Rattle.laws.specs.Integers.{inside, sized}
use Rattle.numbers.specs.Limits.{byte_limit}

-- times, cuts and `until`: within ±2^40
unfoldable pub is_time : ℤ → Bool
is_time z = sized (2 ^ 40) z

-- stored start and next times: ±2^41
unfoldable pub is_stored_time : ℤ → Bool
is_stored_time z = sized (2 ^ 41) z

-- event times: ±2^42
unfoldable pub is_event_time : ℤ → Bool
is_event_time z = sized (2 ^ 42) z

-- a list's numbers, range ends, velocities, timing, octave, qlen, defaults, maxima, values to be limited: ±2^22
unfoldable pub is_number : ℤ → Bool
is_number z = sized (2 ^ 22) z

-- lengths of curves, waves, cycles and sines, times of a sine, delay and frequency: ±2^20
unfoldable pub is_length : ℤ → Bool
is_length z = sized (2 ^ 20) z

-- random: at most 2^20
unfoldable pub is_random : ℤ → Bool
is_random z = le_z z (pos (2 ^ 20))

-- "a maximum may be absent; so may a range": what is absent, its flag 0, is not asked
abbrev pub absent_or : ℕ → Bool → Bool
absent_or flag ok = eqb flag 0 || ok

-- a sine's low and high: ±16,383
unfoldable pub is_sine_end : ℤ → Bool
is_sine_end z = sized 16383 z

-- a controller's number: 0 to 127
unfoldable pub is_controller : ℤ → Bool
is_controller z = inside (pos 0) (pos 127) z

-- 02, b) and j): a bend of two data bytes, 0 to 16,383
unfoldable pub is_bend : ℤ → Bool
is_bend z = inside (pos 0) (pos 16383) z

-- a target's code: a controller, 128 for bend 0, 129 for bend 1
unfoldable pub is_target : ℤ → Bool
is_target z = inside (pos 0) (pos 129) z

-- a channel: 0 to 15
unfoldable pub is_channel : ℤ → Bool
is_channel z = inside (pos 0) (pos 15) z

-- a timebase: 1 to 32,767
unfoldable pub is_timebase : ℤ → Bool
is_timebase z = inside (pos 1) (pos 32767) z

-- v1 to v3 of a stored event: 32 signed bits
unfoldable pub is_word : ℤ → Bool
is_word z = inside (negsuc (2 ^ 31 - 1)) (pos (2 ^ 31 - 1)) z

-- the budget's maximum and bytes used
unfoldable pub is_bytes : ℕ → Bool
is_bytes n = leb n byte_limit
