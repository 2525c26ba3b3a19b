-- What is said of reading beyond the call's own contract: what b) writes comes back, a status that equals the running one may be left out, an
-- accepted chunk ends with its end of track, and what is read may be handed to every other call.
use Rattle.std.specs.Prelude.{◌≡◌, List, [], ◌∷◌, ℕ, ◌+◌, ℤ, length, drop}
use Rattle.events.specs.declared.Event.{Event}
use Rattle.eventlist.specs.declared.Taken.{Taken}
use Rattle.quantities.specs.Quantities.{met, quantity_in}
use Rattle.chunks.specs.Reader.{Seen, seen_in}
use Rattle.chunks.specs.Told.{told}
use Rattle.reader.specs.Reading.{ended, kept_in, read_taken, read_left}

-- "the same list, with the fields b) drops set to 0 and each NoteOn of velocity 0 turned into a NoteOff"
abbrev pub back : Event → Event
back e = ended (told e)

-- `read_chunk`, called on a chunk c and a list, answered 0 and n, and left the list l': its contract, with the number 0
pub record ReadIn (c : List ℕ) (l : List ℤ) (count : ℕ) (n : ℕ) (l' : List ℤ) : Type 0 where
  pub answer : ◌≡◌ {A = Taken} (record { code = 0; count = n }) (read_taken c l count)
  pub list : l' ≡ read_left c l count

-- bytes that are whole events, no end of track among them, behind a running status and a time; and the status and the time behind them
pub data WholeEvents : ℕ → ℕ → List ℕ → ℕ → ℕ → Type 0 where
  none : {running time : ℕ} → WholeEvents running time [] running time
  more : {running time status late : ℕ} {l : List ℕ} {s : Seen Event} → seen_in kept_in running time l ≡ s → s.code ≡ 0
      → WholeEvents s.status (time + s.gap) (drop s.used l) status late → WholeEvents running time l status late

-- the bytes of an end of track: FF, 2F, and a length of 0
pub record EndOfTrack (l : List ℕ) : Type 0 where
  pub zeros : List ℕ
  pub is : l ≡ 255 ∷ 47 ∷ zeros
  pub empty : quantity_in zeros ≡ met 0 (length zeros)
