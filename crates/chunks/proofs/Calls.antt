-- What is proved of chunks, of the call `write_chunk` wherever it answers 0.
--     accepted-call                  it answers 0 wherever it is not refused, so that what follows is said of something
--     chunk_out, behind-out          the first bytes of the output are the chunk, and those behind it are as they were
--     calls-tell-apart, calls-agree  two calls whose chunks are equal were handed lists that agree but for what a chunk has no place for; and back
--     call_length                    the length in the chunk's head is the number of its bytes behind it
--     call-told                      what is read of the chunk's body is what there is to tell of the list
use mathlib.Core.Path.{◌≡◌, refl, sym, ap, ap₂, ◌∙◌}
use mathlib.Core.List.{List, ◌++◌, map}
use Prim.Native.Nat.{ℕ, ◌+◌, ◌-◌}
use native.Mathlib.Omega.{arith}
use lib.IntN.{ℤ}
use lib.ListN.{length, take, drop, length-drop}
use lib.Seq.{take-append_seam, drop-append_seam}
use Rattle.events.specs.declared.Event.{Event}
use Rattle.eventlist.specs.Rows.{events_of}
use Rattle.text.specs.Laying.{laid}
use Rattle.chunks.specs.declared.Chunk.{Chunk}
use Rattle.chunks.specs.Chunks.{body_of, chunk_of}
use Rattle.chunks.specs.Writing.{head_bytes, chunk_refusal, chunk_left}
use Rattle.chunks.specs.Reader.{read_body, big_endian_in}
use Rattle.chunks.specs.Told.{told, event_in, WrittenOut}
use Rattle.chunks.proofs.Refusing.{Accepted, accepted, accepted-writes, room-length}
use Rattle.chunks.proofs.Apart.{tells-apart, same-chunk, length-says, reads-told, body-of}

-- a text at the start, and what stands behind it
laid-first : (a o : List ℕ) → laid 0 a o ≡ a ++ drop (length a) o
unfolding laid
laid-first a o = let e : 0 + length a ≡ length a = omega arith in rw e

-- where the call is not refused, it writes out
pub accepted-call : (store : ℕ) (l : List ℤ) (count : ℕ) (out : List ℕ) → chunk_refusal store l count (length out) ≡ 0
    → WrittenOut store l count out (length (chunk_of (events_of l count))) (chunk_left store l count out)
accepted-call store l count out y = record { answer = rw y; output = refl }

module _ {store : ℕ} {l : List ℤ} {count : ℕ} {out : List ℕ} {n : ℕ} {out' : List ℕ} (k : WrittenOut store l count out n out') where
  abbrev es : List Event
  es = events_of l count

  code : chunk_refusal store l count (length out) ≡ 0
  code = sym (ap (λ (r : Chunk). r.code) k.answer)

  asked : Accepted store l count (length out)
  asked = accepted store l count (length out) code

  bytes-are : n ≡ length (chunk_of es)
  bytes-are = ap (λ (r : Chunk). r.bytes) k.answer ∙ rw code

  put : out' ≡ chunk_of es ++ drop (length (chunk_of es)) out
  put = k.output ∙ rw code (laid-first (chunk_of es) out)

  -- the chunk, and what stands behind it
  pub chunk_out : take n out' ≡ chunk_of (events_of l count)
  chunk_out = ap₂ take bytes-are put ∙ take-append_seam (chunk_of es) (drop (length (chunk_of es)) out)

  pub behind-out : drop n out' ≡ drop n out
  behind-out = ap₂ drop bytes-are put ∙ drop-append_seam (chunk_of es) (drop (length (chunk_of es)) out) ∙ ap (λ (m : ℕ). drop m out) (sym bytes-are)

  pub call_length : big_endian_in (drop 4 (take n out')) ≡ n - head_bytes
  call_length =
      ap (λ (c : List ℕ). big_endian_in (drop 4 c)) chunk_out
      ∙ length-says es (room-length (length (body_of es)) (length out) asked.room)
      ∙ length-drop head_bytes (chunk_of es)
      ∙ ap (λ (m : ℕ). m - head_bytes) (sym bytes-are)

  pub call-told : read_body event_in (drop head_bytes (take n out')) ≡ record { code = 0; kept = map told (events_of l count) }
  call-told = ap (λ (c : List ℕ). read_body event_in (drop head_bytes c)) chunk_out ∙ ap (read_body event_in) (body-of es) ∙ reads-told store es (accepted-writes store l count (length out) asked)

module _ {store stock : ℕ} {l m : List ℤ} {i j : ℕ} {out other : List ℕ} {n u : ℕ} {out' other' : List ℕ} (k : WrittenOut store l i out n out')
    (w : WrittenOut stock m j other u other') where
  pub calls-tell-apart : take n out' ≡ take u other' → map told (events_of l i) ≡ map told (events_of m j)
  calls-tell-apart same =
      tells-apart (events_of l i) (events_of m j) (accepted-writes store l i (length out) (asked k)) (accepted-writes stock m j (length other) (asked w))
      (sym (chunk_out k) ∙ same ∙ chunk_out w)

  pub calls-agree : map told (events_of l i) ≡ map told (events_of m j) → take n out' ≡ take u other'
  calls-agree same = chunk_out k ∙ same-chunk (events_of l i) (events_of m j) same ∙ sym (chunk_out w)
