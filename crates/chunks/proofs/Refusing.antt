-- The refusals of a chunk in their order, and what holds where nothing refuses.
--     chunk-length                                            the bytes of a chunk
--     room-length, room-enough                                what room says
--     no-list, roomed, listed                                 the answer, by what was weighed
--     Accepted, accepted                                      where nothing refuses, every test holds
--     accepted-writes, accepted-ready, accepted-bytes         so that the events can be written, and the answer is their bytes
--     left_alone, left-written, chunk-put                     the output
use mathlib.Core.Path.{◌≡◌, refl, ◌∙◌}
use mathlib.Core.Bool.{Bool, true, false, cond}
use mathlib.Core.List.{List, ◌++◌}
use Prim.Native.Nat.{ℕ, ◌+◌, ◌≤◌, ◌<◌}
use native.Mathlib.Omega.{arith}
use borrow.Author.Tests.{ltb-true, leb-true, ne_eqb}
use lib.Dec.{eqb, ltb, leb}
use lib.IntN.{ℤ, pos}
use lib.ListN.{length}
use Rattle.std.specs.Prelude.{Result, Ok, Err}
use Rattle.laws.specs.Lists.{all}
use Rattle.numbers.specs.declared.refusals.Refusal.{Refusal}
use Rattle.numbers.specs.declared.refusals.Refusal.TheVariants.{OutOfRange, OutOfOrder, Unwritable, OutputShort}
use Rattle.events.specs.Events.{ok_event}
use Rattle.laws.proofs.Ranges.{left, right}
use Rattle.events.specs.declared.Event.{Event}
use Rattle.eventlist.specs.Rows.{events_of}
use Rattle.eventlist.specs.Sound.{is_list, ok_events}
use Rattle.text.specs.Laying.{laid}
use Rattle.text.proofs.Laying.{put-behind}
use Rattle.chunks.specs.Chunks.{body_of, length_top, big_endian, mark, chunk_of}
use Rattle.chunks.specs.Writing.{gapped, fits, head_bytes, room_for, chunk_refusal, refused_chunk, chunk_written, chunk_left}
use Rattle.chunks.specs.Steps.{Ready, weighed, answer_of}
use Rattle.chunks.specs.Told.{Writes}
use Rattle.chunks.proofs.Readiness.{ready}

pub chunk-length : (es : List Event) → length (chunk_of es) ≡ head_bytes + length (body_of es)
unfolding chunk_of big_endian
chunk-length es = omega arith

-- ---- room
module _ (body size : ℕ) (h : room_for body size ≡ true) where
  pub room-length : body < length_top
  unfolding room_for
  room-length = ltb-true body length_top (left (ltb body length_top) (leb (head_bytes + body) size) h)

  pub room-enough : head_bytes + body ≤ size
  unfolding room_for
  room-enough = leb-true (head_bytes + body) size (right (ltb body length_top) (leb (head_bytes + body) size) h)

-- ---- the answer
-- the bytes of a chunk, if it has room
abbrev pub roomed : ℕ → Result ℕ Refusal → Result ℕ Refusal
roomed size (Ok body) = cond (room_for body size) (Ok (head_bytes + body)) (Err OutputShort)
roomed size (Err r) = Err r

module _ (store : ℕ) (l : List ℤ) (count size : ℕ) where
  abbrev es : List Event
  es = events_of l count

  pub no-list : is_list l count ≡ false → refused_chunk 1 ≡ chunk_written store l count size
  unfolding chunk_refusal
  no-list a = rw a

  -- of a list, what was weighed says the answer, and the room
  pub listed : is_list l count ≡ true → answer_of (roomed size (weighed store es)) ≡ chunk_written store l count size
  unfolding chunk_refusal ok_events weighed
  listed a =
      rw (a, chunk-length es) (go (all (ok_event store) es) (gapped (pos 0) es) (all fits es) (room_for (length (body_of es)) size) refl)
    where
      unwritten : Bool → Bool → Bool → Bool → ℕ
      unwritten b g f r = cond b (cond g (cond f (cond r 0 12) 11) 10) 4

      go : (b g f r : Bool) → room_for (length (body_of es)) size ≡ r
          → answer_of (roomed size (cond b (cond g (cond f (Ok (length (body_of es))) (Err Unwritable)) (Err OutOfOrder)) (Err OutOfRange)))
          ≡ record { code = unwritten b g f r; bytes = cond (eqb (unwritten b g f r) 0) (head_bytes + length (body_of es)) 0 }
      go true true true true e = rw e
      go true true true false e = rw e
      go true true false r e = refl
      go true false f r e = refl
      go false g f r e = refl

  -- a list that is not refused
  pub record Accepted : Type 0 where
    pub list : is_list l count ≡ true
    pub stored : ok_events store l count ≡ true
    pub gaps : gapped (pos 0) (events_of l count) ≡ true
    pub fields : all fits (events_of l count) ≡ true
    pub room : room_for (length (body_of (events_of l count))) size ≡ true

  pub accepted : chunk_refusal store l count size ≡ 0 → Accepted
  unfolding chunk_refusal
  accepted =
      go (is_list l count) (ok_events store l count) (gapped (pos 0) es) (all fits es) (room_for (length (body_of es)) size) refl refl refl refl refl
    where
      go : (a b g f r : Bool) → is_list l count ≡ a → ok_events store l count ≡ b → gapped (pos 0) es ≡ g → all fits es ≡ f → room_for (length (body_of es)) size ≡ r
          → ◌≡◌ {A = ℕ} (cond a (cond b (cond g (cond f (cond r 0 12) 11) 10) 4) 1) 0 → Accepted
      go true true true true true p q s t u e = record { list = p; stored = q; gaps = s; fields = t; room = u }
      go true true true true false p q s t u e = absurd (omega arith)
      go true true true false r p q s t u e = absurd (omega arith)
      go true true false f r p q s t u e = absurd (omega arith)
      go true false g f r p q s t u e = absurd (omega arith)
      go false b g f r p q s t u e = absurd (omega arith)

  -- what the second pass asks
  pub accepted-writes : Accepted → Writes store (events_of l count)
  unfolding ok_events
  accepted-writes a = record { stored = a.stored; gaps = a.gaps; fields = a.fields }

  pub accepted-ready : Accepted → Ready (pos 0) (events_of l count)
  accepted-ready a = ready store (events_of l count) (accepted-writes a)

  pub accepted-bytes : chunk_refusal store l count size ≡ 0 → (chunk_written store l count size).bytes ≡ head_bytes + length (body_of (events_of l count))
  accepted-bytes z = rw z (chunk-length (events_of l count))

-- ---- the output
module _ (store : ℕ) (l : List ℤ) (count : ℕ) (out : List ℕ) where
  pub left_alone : (chunk_refusal store l count (length out) ≡ 0 → ⊥) → out ≡ chunk_left store l count out
  left_alone h = rw (ne_eqb (chunk_refusal store l count (length out)) 0 h)

  pub left-written : chunk_refusal store l count (length out) ≡ 0 → laid 0 (chunk_of (events_of l count)) out ≡ chunk_left store l count out
  left-written z = rw z

-- the head, and the body behind it
pub chunk-put : (es : List Event) (n : ℕ) (o : List ℕ) {x w : List ℕ} {p : ℕ} → n ≡ length (body_of es)
    → x ≡ laid 0 (mark ++ big_endian n) o → p ≡ head_bytes → w ≡ laid p (body_of es) x → w ≡ laid 0 (chunk_of es) o
unfolding chunk_of big_endian
chunk-put es n o e q f g = (put-behind 0 o (mark ++ big_endian n) (body_of es) (omega arith) q f g refl).0 ∙ rw e
