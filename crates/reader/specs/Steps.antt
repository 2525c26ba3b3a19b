-- What the passes promise each other: the event that stands at a place, what the first pass counts, and what is left to read.
use Rattle.std.specs.Prelude.{Bool, false, cond, not, ◌||◌, ◌≡◌, List, [], ℕ, ◌+◌, ◌/◌, ◌≤◌, ◌<◌, eqb, length}
use Rattle.laws.specs.Lists.{all}
use Rattle.events.specs.declared.Event.{Event}
use Rattle.chunks.specs.Reader.{Seen, seen, Whole, single, read_from}
use Rattle.reader.specs.declared.Found.{Found}
use Rattle.reader.specs.declared.Cursor.{Cursor}
use Rattle.reader.specs.declared.Outline.{Outline}
use Rattle.reader.specs.Reading.{kept_in, timely}

-- what stands at a place, as the reader of a body has it behind a time
unfoldable pub tells : ℕ → Found → Seen Event
tells time f =
    seen f.code (cond f.sent (kept_in f.status (time + f.gap) f.first f.second) []) f.used f.status f.gap

-- one event is kept of it, or none
abbrev pub Counts : ℕ → Found → Bool → Type 0
Counts time f kept = length (tells time f).kept ≡ cond kept 1 0

-- of a status with two data bytes: any but the aftertouch of a note
unfoldable pub is_told : ℕ → Bool
is_told status = not (eqb (status / 16) 10)

-- a status of a channel, with two data bytes
pub record Double (status : ℕ) : Type 0 where
  pub low : 128 ≤ status
  pub high : status < 240
  pub double : single status ≡ false
  pub counts : (t a b : ℕ) → length (kept_in status t a b) ≡ cond (is_told status) 1 0

-- what is read from here on, behind a running status and a time: of so many bytes there are no more events
abbrev pub rest_of : ℕ → ℕ → List ℕ → Whole Event
rest_of running time l = read_from kept_in (length l) running time l

-- what the first pass answers: the number, how many events are kept, and whether a time is past its range
unfoldable pub outlined : Whole Event → Outline
outlined w = record { code = w.code; kept = length w.kept; late = not (all timely w.kept) }

-- behind some that were counted
abbrev pub counting : ℕ → Bool → Outline → Outline
counting kept late s = record { code = s.code; kept = kept + s.kept; late = late || s.late }

-- a pass behind what stands where it is
abbrev pub moved : Cursor → Seen Event → Cursor
moved c s =
    record {
      at = c.at + s.used;
      status = s.status;
      time = c.time + s.gap;
      kept = c.kept + length s.kept;
      late = c.late || not (all timely s.kept);
    }
