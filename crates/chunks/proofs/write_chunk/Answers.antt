-- `write_chunk` meets its contract: where the judge refuses the output is left; elsewhere every test holds (Refusing), and the head and
-- the body behind it are the chunk.
use Rattle.std.proofs.Common.{ℕ, ℤ, List, ◌≡◌, ◌+◌, ◌-◌, ◌≤◌, ◌<◌, sym, ap, ◌∙◌, arith, length}
use Rattle.eventlist.specs.Rows.{events_of}
use Rattle.eventlist.proofs.Sound.{list-within}
use Rattle.chunks.specs.declared.Chunk.{Chunk}
use Rattle.chunks.specs.Chunks.{body_of, length_top}
use Rattle.chunks.specs.Writing.{head_bytes, chunk_refusal, chunk_written}
use Rattle.chunks.proofs.Refusing.{room-length, room-enough, Accepted, accepted, accepted-ready, accepted-bytes, left-written, chunk-put}
use Rattle.chunks.proofs.write_chunk.Goals as goal

-- where the judge does not refuse
module _ (store : ℕ) (l : List ℤ) (n size bytes : ℕ) (judged : ◌≡◌ {A = Chunk} (record { code = 0; bytes = bytes }) (chunk_written store l n size)) where
  none : chunk_refusal store l n size ≡ 0
  none = sym (ap (λ (r : Chunk). r.code) judged)

  tested : Accepted store l n size
  tested = accepted store l n size none

  weighs : bytes ≡ head_bytes + length (body_of (events_of l n))
  weighs = ap (λ (r : Chunk). r.bytes) judged ∙ accepted-bytes store l n size none

  room : (head_bytes + length (body_of (events_of l n)) ≤ size) × (length (body_of (events_of l n)) < length_top)
  room = (room-enough (length (body_of (events_of l n))) size tested.room, room-length (length (body_of (events_of l n))) size tested.room)

pub overflow_sub-bytes : goal.overflow_sub-bytes
overflow_sub-bytes c =
    let a = c.args in
    omega (arith, weighs (length a.store.now) a.events.now a.count (length a.out.now) c.in-Ok.bytes c.in-Ok.ensures)

pub put_head-at-requires : goal.put_head-at-requires
put_head-at-requires c =
    let a = c.args in
    let w = weighs (length a.store.now) a.events.now a.count (length a.out.now) c.in-Ok.bytes c.in-Ok.ensures in
    let r = room (length a.store.now) a.events.now a.count (length a.out.now) c.in-Ok.bytes c.in-Ok.ensures in
    (omega arith, omega arith)

pub put_body-requires : goal.put_body-requires
put_body-requires c =
    let a = c.args in
    let t = tested (length a.store.now) a.events.now a.count (length a.out.now) c.in-Ok.bytes c.in-Ok.ensures in
    let r = room (length a.store.now) a.events.now a.count (length a.out.now) c.in-Ok.bytes c.in-Ok.ensures in (
      list-within a.events.now a.count t.list,
      (accepted-ready (length a.store.now) a.events.now a.count (length a.out.now) t, omega (arith, c.put_head-at.ensures.1, c.put_head-at.auto.out)),
    )

pub returns-in-Ok : goal.returns-in-Ok
returns-in-Ok c =
    let a = c.args in
    let z = none (length a.store.now) a.events.now a.count (length a.out.now) c.in-Ok.bytes c.in-Ok.ensures in
    let e = weighs (length a.store.now) a.events.now a.count (length a.out.now) c.in-Ok.bytes c.in-Ok.ensures in
    let w : c.in-Ok.bytes - head_bytes ≡ length (body_of (events_of a.events.now a.count)) = omega arith in
    let p = chunk-put (events_of a.events.now a.count) _ a.out.now w c.put_head-at.ensures.0 c.put_head-at.ensures.1 c.put_body.ensures.0 in
    (c.in-Ok.ensures, p ∙ left-written (length a.store.now) a.events.now a.count a.out.now z)
