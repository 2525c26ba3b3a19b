-- What b) writes is read back: what reads back a written list over any `make` (chunks/proofs/ReadBack) is the list without what a chunk has no place
-- for where a message tells its event (`reads-told`), and e) has one step behind it for each event.
use mathlib.Core.Bool.{true}
use mathlib.Core.Path.{◌≡◌, refl, sym, ap, ap₂, ◌∙◌}
use mathlib.Core.List.{List, [], ◌∷◌, ◌++◌, map, map-append, map-map}
use Prim.Native.Nat.{ℕ, suc, ◌+◌, ◌<◌}
use native.Mathlib.Omega.{arith}
use borrow.Author.Tests.{eq-eqb, le-leb}
use lib.ListN.{length, drop}
use Rattle.laws.specs.Rows.{flat}
use Rattle.laws.proofs.Tests.{both}
use Rattle.events.specs.declared.Event.{Event}
use Rattle.chunks.specs.Chunks.{message_of, body_of, length_top, chunk_of}
use Rattle.chunks.specs.Writing.{head_bytes}
use Rattle.chunks.specs.Reader.{Whole, big_endian_in, read_body}
use Rattle.chunks.specs.Told.{Writes, told, event_in}
use Rattle.chunks.proofs.Apart.{reads-told, body-of, length-says}
use Rattle.chunks.proofs.ReadBack.{heard, made, read-body}
use Rattle.chunks.proofs.Readiness.{ready}
use Rattle.chunks.proofs.Refusing.{chunk-length}
use Rattle.reader.specs.Reading.{ended, kept_in, marked, is_chunk, read_of}
use Rattle.reader.specs.Rereading.{back}
use Rattle.reader.proofs.Rests.{enough}

-- what becomes of a list's messages, one after the other, is what is read of it
module _ {A : Type 0} (make : ℕ → ℕ → ℕ → ℕ → List A) where
  read_made : (store : ℕ) (es : List Event) → Writes store es → read_body make (body_of es) ≡ record { code = 0; kept = flat (made make) es }
  read_made store es w =
      let k = suc (length es) + length (body_of es) in
      sym (enough make k 0 0 (body_of es) (omega arith)) ∙ read-body make k 0 0 es (ready store es w) (omega arith)

-- ---- of each message the event that it tells, ended
heard-ended : (t : ℕ) (m : List ℕ) → heard kept_in t m ≡ map ended (heard event_in t m)
unfolding kept_in
heard-ended t [] = refl
heard-ended t (s ∷ []) = refl
heard-ended t (s ∷ a ∷ []) = refl
heard-ended t (s ∷ a ∷ b ∷ l) = refl

made-ended : (es : List Event) → flat (made kept_in) es ≡ map ended (flat (made event_in) es)
made-ended [] = refl
made-ended (e ∷ es) = ap₂ ◌++◌ (heard-ended _ (message_of e)) (made-ended es) ∙ sym (map-append ended (made event_in e) (flat (made event_in) es))

made_told : (store : ℕ) (es : List Event) → Writes store es → flat (made event_in) es ≡ map told es
made_told store es w = ap (λ (r : Whole Event). r.kept) (sym (read_made event_in store es w) ∙ reads-told store es w)

-- ---- the chunk
head-marked : (es : List Event) → marked (chunk_of es) ≡ true
unfolding marked chunk_of
head-marked es = refl

head-well : (es : List Event) → length (body_of es) < length_top → is_chunk (chunk_of es) ≡ true
unfolding is_chunk
head-well es h =
    let c = chunk_of es in
    let says = length-says es h ∙ ap length (body-of es) in
    let n = chunk-length es in
    both (both (le-leb head_bytes (length c) (omega arith)) (head-marked es)) (eq-eqb (head_bytes + big_endian_in (drop 4 c)) (length c) (omega arith))

pub reads-back : (store : ℕ) (es : List Event) → Writes store es → length (body_of es) < length_top
    → (is_chunk (chunk_of es) ≡ true) × (read_of (chunk_of es) ≡ record { code = 0; kept = map back es })
unfolding read_of
reads-back store es w h =
    let kept : flat (made kept_in) es ≡ map back es = made-ended es ∙ ap (map ended) (made_told store es w) ∙ map-map ended told es in
    (head-well es h, ap (read_body kept_in) (body-of es) ∙ read_made kept_in store es w ∙ ap (λ (l : List Event). record { code = 0; kept = l }) kept)
