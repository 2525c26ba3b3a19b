-- The counts of a tape, each under its one name. How many numbers a list may have is `list_limit` of `numbers`.
use Rattle.std.specs.Prelude.{ℕ}

-- 01, "The tape program": "It reads up to 16,384 bytes"
abbrev pub tape_limit : ℕ
tape_limit = 16384

-- 01, "The tape program": "The list holds 512 events"
abbrev pub event_room : ℕ
event_room = 512
