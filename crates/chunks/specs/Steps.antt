-- What the two passes promise: the sum that the first carries from event to event, and the message that the second puts.
use Rattle.std.specs.Prelude.{Bool, true, cond, ◌&&◌, Option, Some, None, Result, Ok, Err, List, [], ◌∷◌, ℕ, ◌+◌, ◌≡◌, ℤ, pos, length}
use Rattle.numbers.specs.declared.refusals.Refusal.{Refusal}
use Rattle.numbers.specs.declared.refusals.Refusal.TheVariants.{OutOfRange, OutOfOrder, Unwritable}
use Rattle.numbers.specs.Refusals.{number_of}
use Rattle.numbers.specs.Ranges.{is_event_time, is_channel, is_word}
use Rattle.laws.specs.Integers.{eq_z}
use Rattle.laws.specs.Lists.{all}
use Rattle.events.specs.declared.Event.{Event}
use Rattle.events.specs.Events.{ok_event, ok_plain}
use Rattle.chunks.specs.declared.Chunk.{Chunk}
use Rattle.chunks.specs.declared.Message.{Message}
use Rattle.chunks.specs.declared.Tally.{Tally}
use Rattle.chunks.specs.Chunks.{written_after, body_of}
use Rattle.chunks.specs.Writing.{follows, fits, gapped, refused_chunk}

-- one event more
abbrev pub tallied : Tally → Event → Tally
tallied t e =
    record {
      last = e.time;
      gaps = t.gaps && follows t.last e;
      fields = t.fields && fits e;
      bytes = t.bytes + length (written_after t.last e);
    }

-- an event behind a time that can be written, and stored whatever the store
unfoldable pub well_after : ℤ → Event → Bool
well_after t e =
    is_event_time e.time && (follows t e && is_channel e.channel && is_word e.v2 && is_word e.v3 && eq_z e.offset (pos 0) && eq_z e.len (pos 0) && fits e)

-- what the first pass answers: the bytes of the body, or why it is not written
unfoldable pub weighed : ℕ → List Event → Result ℕ Refusal
weighed store es =
    cond (all (ok_event store) es)
    (cond (gapped (pos 0) es) (cond (all fits es) (Ok (length (body_of es))) (Err Unwritable)) (Err OutOfOrder))
    (Err OutOfRange)

-- what the call answers that was judged so
abbrev pub answer_of : Result ℕ Refusal → Chunk
answer_of (Ok bytes) = record { code = 0; bytes = bytes }
answer_of (Err r) = refused_chunk (number_of r)

-- the bytes of a message
abbrev pub second_of : Option ℕ → List ℕ
second_of None = []
second_of (Some second) = second ∷ []

abbrev pub bytes_of : Message → List ℕ
bytes_of m = m.status ∷ m.first ∷ second_of m.second

-- an event that can be written behind a time
pub record Writable (t : ℤ) (e : Event) : Type 0 where
  pub before : is_event_time t ≡ true
  pub time : is_event_time e.time ≡ true
  pub channel : is_channel e.channel ≡ true
  pub follows : follows t e ≡ true
  pub fits : fits e ≡ true

-- events that can be written behind a time, each behind the one before it
pub record Ready (t : ℤ) (es : List Event) : Type 0 where
  pub plain : all ok_plain es ≡ true
  pub gaps : gapped t es ≡ true
  pub fields : all fits es ≡ true
