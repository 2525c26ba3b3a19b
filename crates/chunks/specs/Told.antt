-- 02, b): "Two lists that differ in any event give different chunks, apart from what the chunk has no place for: a note's length, a NoteOff's
-- velocity, unused fields."
use Rattle.std.specs.Prelude.{true, cond, ◌≡◌, List, [], ◌∷◌, ℕ, ◌+◌, ◌*◌, ◌/◌, ◌%◌, eqb, ℤ, pos, length}
use Rattle.laws.specs.Integers.{eq_z}
use Rattle.laws.specs.Lists.{all}
use Rattle.events.specs.declared.Event.{Event}
use Rattle.events.specs.Kinds.{note_on, note_off, control_change, pitch_bend, voice}
use Rattle.events.specs.Events.{plain_event, ok_event}
use Rattle.chunks.specs.declared.Chunk.{Chunk}
use Rattle.chunks.specs.Writing.{fits, gapped, chunk_written, chunk_left}

-- events that can be written: past 4, 10 and 11
pub record Writes (store : ℕ) (es : List Event) : Type 0 where
  pub stored : all (ok_event store) es ≡ true
  pub gaps : gapped (pos 0) es ≡ true
  pub fields : all fits es ≡ true

-- an event without what a chunk has no place for: of v2 it has a place for a controller's value alone, of v3 for a NoteOn's velocity alone. The data
-- stays: events that can be written have none, by 4.
unfoldable pub told : Event → Event
told e =
    record {
      kind = e.kind;
      time = e.time;
      channel = e.channel;
      v1 = e.v1;
      v2 = cond (eq_z e.kind control_change) e.v2 (pos 0);
      v3 = cond (eq_z e.kind note_on) e.v3 (pos 0);
      offset = e.offset;
      len = e.len;
    }

-- what a written message tells: status, time, data bytes
unfoldable pub event_in : ℕ → ℕ → ℕ → ℕ → List Event
event_in status time a b =
    let channel = pos (status % 16) in
    cond (eqb (status / 16) 9) (plain_event note_on (pos time) channel (pos a) (pos 0) (pos b) ∷ [])
    (cond (eqb (status / 16) 8) (plain_event note_off (pos time) channel (pos a) (pos 0) (pos 0) ∷ [])
    (cond (eqb (status / 16) 11) (plain_event control_change (pos time) channel (pos a) (pos b) (pos 0) ∷ [])
    (cond (eqb (status / 16) 12) (plain_event voice (pos time) channel (pos a) (pos 0) (pos 0) ∷ [])
    (cond (eqb (status / 16) 14) (plain_event pitch_bend (pos time) channel (pos (a + 128 * b)) (pos 0) (pos 0) ∷ [])
    []))))

-- `write_chunk`, called on the first `count` events of l with an output, answered 0 and `bytes`, and left the output out': its contract, with the
-- number 0
pub record WrittenOut (store : ℕ) (l : List ℤ) (count : ℕ) (out : List ℕ) (bytes : ℕ) (out' : List ℕ) : Type 0 where
  pub answer : ◌≡◌ {A = Chunk} (record { code = 0; bytes = bytes }) (chunk_written store l count (length out))
  pub output : out' ≡ chunk_left store l count out
