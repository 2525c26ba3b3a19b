-- How many events a chunk can have: each that is kept takes two bytes at least, a gap and a data byte, and the end of track four. So a list with half as
-- many places as the chunk has bytes behind its head and its end is never too short.
use mathlib.Core.Bool.{true}
use mathlib.Core.Path.{◌≡◌, ap, ◌∙◌}
use mathlib.Core.List.{List}
use Prim.Native.Nat.{ℕ, zero, suc, ◌+◌, ◌*◌, ◌≤◌, ◌<◌}
use native.Mathlib.Omega.{arith}
use borrow.Author.Tests.{ne_eqb}
use lib.IntN.{ℤ}
use lib.ListN.{length, drop, length-append, length-drop}
use lib.Seq.{drop-append_seam}
use Rattle.events.specs.declared.Event.{Event}
use Rattle.eventlist.specs.Rows.{rows_of}
use Rattle.quantities.specs.declared.Quantity.{Quantity}
use Rattle.quantities.specs.Quantities.{met, quantity_in}
use Rattle.quantities.proofs.Groups.{quantity-within}
use Rattle.chunks.specs.Writing.{head_bytes}
use Rattle.chunks.specs.Reader.{read_from}
use Rattle.reader.specs.Reading.{kept_in, is_chunk, read_of, events_in}
use Rattle.reader.proofs.Fronts.{Kept, nothing, message, said_here, Stands, faulty, event, closing, stands}
use Rattle.reader.proofs.Kept.{kept-few}
use Rattle.reader.proofs.Refusing.{chunk-long}

-- a quantity that takes all of its bytes has one
some_byte : (q : List ℕ) (v : ℕ) → quantity_in q ≡ met v (length q) → 0 < length q
some_byte q v e = let n : Quantity = record { value = v; used = length q } in let w = quantity-within q n e in omega (arith, w.0)

one_kept : (time : ℕ) (l : List Event) → Kept kept_in time l → length l ≤ 1
one_kept time l nothing = omega arith
one_kept time l (message status a b x y) = kept-few status time a b

pub read-few : (k running time : ℕ) (l : List ℕ) → (read_from kept_in k running time l).code ≡ 0 → 2 * length (read_from kept_in k running time l).kept + 4 ≤ length l
unfolding read_from
read-few zero running time l h = absurd (omega arith)
read-few (suc k) running time l h = go (stands kept_in running time l) (λ status late x. read-few k status late x)
  where
    go : Stands kept_in running time l
        → ((status late : ℕ) (x : List ℕ) → (read_from kept_in k status late x).code ≡ 0 → 2 * length (read_from kept_in k status late x).kept + 4 ≤ length x)
        → 2 * length (read_from kept_in (suc k) running time l).kept + 4 ≤ length l
    go (faulty n g e) ih =
        let z : n ≡ 0 = rw (e, ne_eqb n 0 (λ (z : n ≡ 0). absurd (omega arith)), ne_eqb n 1 (λ (z : n ≡ 1). absurd (omega arith))) at h in
        absurd (omega arith)
    go (event e) ih =
        let left : drop (length e.own) l ≡ e.rest = ap (drop (length e.own)) e.is ∙ drop-append_seam e.own e.rest in
        let r = read_from kept_in k e.status (time + e.gap) e.rest in
        let rest = ih e.status (time + e.gap) e.rest (rw (said_here kept_in running time l e, left) at h) in
        let long = ap length e.is ∙ length-append e.own e.rest in
        let one = one_kept (time + e.gap) e.kept e.tells in
        let two = e.some in
        rw (said_here kept_in running time l e, left, length-append e.kept r.kept) (omega arith)
    go (closing wait last gap is q t e) ih =
        let long = ap length is ∙ length-append wait last in
        let three = ap length t.is in
        let a = some_byte wait gap q in
        let b = some_byte t.zeros 0 t.empty in
        rw e (omega arith)

-- ---- the call
pub few-events : (c : List ℕ) → is_chunk c ≡ true → (read_of c).code ≡ 0 → 2 * length (events_in c) + 12 ≤ length c
unfolding read_of
few-events c k h =
    let body = drop head_bytes c in
    let few = read-few (length body) 0 0 body h in
    omega (arith, few, length-drop head_bytes c, chunk-long c k)

-- what 7 asks: a list of so many places has room for them
pub roomy : (c : List ℕ) (l : List ℤ) → is_chunk c ≡ true → (read_of c).code ≡ 0 → length c ≤ 2 * length (rows_of l) + 13 → length (events_in c) ≤ length (rows_of l)
roomy c l k h long = let few = few-events c k h in omega arith
