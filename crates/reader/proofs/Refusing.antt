-- The tests of `read_chunk` in their order, of the call's answer: each way out of `judge` is one of these. Where nothing refuses every test holds, and
-- back (`accepted`, `accepts`).
use mathlib.Core.Bool.{Bool, true, false, cond, ◌&&◌}
use mathlib.Core.Path.{◌≡◌, refl, sym, ap, ◌∙◌}
use mathlib.Core.List.{List}
use Prim.Native.Nat.{ℕ, ◌+◌, ◌-◌, ◌≤◌, ◌<◌}
use native.Mathlib.Omega.{arith}
use borrow.Author.Tests.{eqb-true, eqb-false, ne_eqb, leb-true, le-leb, lt-leb}
use lib.Dec.{eqb, leb}
use lib.IntN.{ℤ}
use lib.ListN.{length, take, drop, get_or, length-drop}
use lib.Seq.{get_or-drop, take-length}
use Rattle.laws.specs.Lists.{all}
use Rattle.laws.proofs.Ranges.{left, right}
use Rattle.eventlist.specs.declared.Taken.{Taken}
use Rattle.eventlist.specs.Rows.{rows_of}
use Rattle.eventlist.specs.Sound.{is_list}
use Rattle.chunks.specs.Chunks.{length_top}
use Rattle.chunks.specs.Writing.{head_bytes}
use Rattle.chunks.specs.Reader.{big_endian_in}
use Rattle.reader.specs.Reading.{marked, is_chunk, read_of, events_in, timely, placed, unread, read_refusal, read_taken}

module _ (c : List ℕ) (h : is_chunk c ≡ true) where
  tests : (leb head_bytes (length c) && marked c ≡ true) × (eqb (head_bytes + big_endian_in (drop 4 c)) (length c) ≡ true)
  unfolding is_chunk
  tests =
      let head = leb head_bytes (length c) && marked c in
      let long = eqb (head_bytes + big_endian_in (drop 4 c)) (length c) in
      (left head long h, right head long h)

  -- a chunk has a head
  pub chunk-long : head_bytes ≤ length c
  chunk-long = leb-true head_bytes (length c) (left (leb head_bytes (length c)) (marked c) tests.0)

  -- and a body of fewer than 2^32 bytes
  pub chunk-fits : ((i : ℕ) → get_or c i 0 < 256) → (head_bytes ≤ length c) × (length (drop head_bytes c) < length_top)
  chunk-fits low =
      let says = eqb-true (head_bytes + big_endian_in (drop 4 c)) (length c) tests.1 in
      let four : (i : ℕ) → get_or (drop 4 c) i 0 < 256 = λ i. rw (get_or-drop 4 c i 0) (low (4 + i)) in
      let long = chunk-long in
      (long, omega (arith, four 0, four 1, four 2, four 3, says, length-drop head_bytes c))

-- the bytes behind the head, lent as a part
pub behind-head : (c : List ℕ) → take (length c - head_bytes) (drop head_bytes c) ≡ drop head_bytes c
behind-head c = ap (λ (n : ℕ). take n (drop head_bytes c)) (sym (length-drop head_bytes c)) ∙ take-length (drop head_bytes c)

module _ (c : List ℕ) (l : List ℤ) (count : ℕ) where
  -- what is answered with a number
  answers : (n : ℕ) → read_refusal c l count ≡ n → ◌≡◌ {A = Taken} (record { code = n; count = cond (eqb n 0) (length (events_in c)) count }) (read_taken c l count)
  answers n e = rw e

  refuses : (n : ℕ) → read_refusal c l count ≡ n → (n ≡ 0 → ⊥) → ◌≡◌ {A = Taken} (record { code = n; count = count }) (read_taken c l count)
  refuses n e h = rw (e, ne_eqb n 0 h)

  pub no-list : is_list l count ≡ false → ◌≡◌ {A = Taken} (record { code = 1; count = count }) (read_taken c l count)
  unfolding read_refusal
  no-list h = refuses 1 (rw h) (λ e. absurd (omega (arith, e)))

  module _ (listed : is_list l count ≡ true) where
    pub no_chunk : is_chunk c ≡ false → ◌≡◌ {A = Taken} (record { code = 13; count = count }) (read_taken c l count)
    unfolding read_refusal unread
    no_chunk h = refuses 13 (rw (listed, h)) (λ e. absurd (omega (arith, e)))

    module _ (chunk : is_chunk c ≡ true) where
      pub faulty : ((read_of c).code ≡ 0 → ⊥) → ◌≡◌ {A = Taken} (record { code = (read_of c).code; count = count }) (read_taken c l count)
      unfolding read_refusal unread
      faulty h = refuses (read_of c).code (rw (listed, chunk, ne_eqb (read_of c).code 0 h)) h

      module _ (well : (read_of c).code ≡ 0) where
        pub no_room : length (rows_of l) < length (events_in c) → ◌≡◌ {A = Taken} (record { code = 7; count = count }) (read_taken c l count)
        unfolding read_refusal unread placed
        no_room h = refuses 7 (rw (listed, chunk, well, lt-leb (length (events_in c)) (length (rows_of l)) h)) (λ e. absurd (omega (arith, e)))

        module _ (room : length (events_in c) ≤ length (rows_of l)) where
          pub too-late : all timely (events_in c) ≡ false → ◌≡◌ {A = Taken} (record { code = 4; count = count }) (read_taken c l count)
          unfolding read_refusal unread placed
          too-late h = refuses 4 (rw (listed, chunk, well, le-leb (length (events_in c)) (length (rows_of l)) room, h)) (λ e. absurd (omega (arith, e)))

          pub well-read : all timely (events_in c) ≡ true → ◌≡◌ {A = Taken} (record { code = 0; count = length (events_in c) }) (read_taken c l count)
          unfolding read_refusal unread placed
          well-read h = answers 0 (rw (listed, chunk, well, le-leb (length (events_in c)) (length (rows_of l)) room, h))

  -- ---- a call that is not refused
  pub record Accepted : Type 0 where
    pub list : is_list l count ≡ true
    pub chunk : is_chunk c ≡ true
    pub whole : (read_of c).code ≡ 0
    pub room : length (events_in c) ≤ length (rows_of l)
    pub times : all timely (events_in c) ≡ true

  pub accepted : read_refusal c l count ≡ 0 → Accepted
  unfolding read_refusal unread placed
  accepted = go (is_list l count) (is_chunk c) (eqb (read_of c).code 0) (leb (length (events_in c)) (length (rows_of l))) (all timely (events_in c)) refl refl refl refl refl
    where
      go : (a b w r t : Bool) → is_list l count ≡ a → is_chunk c ≡ b → eqb (read_of c).code 0 ≡ w → leb (length (events_in c)) (length (rows_of l)) ≡ r
          → all timely (events_in c) ≡ t → ◌≡◌ {A = ℕ} (cond a (cond b (cond w (cond r (cond t 0 4) 7) (read_of c).code) 13) 1) 0 → Accepted
      go true true true true true p q x y z e =
          record { list = p; chunk = q; whole = eqb-true (read_of c).code 0 x; room = leb-true (length (events_in c)) (length (rows_of l)) y; times = z }
      go true true true true false p q x y z e = absurd (omega arith)
      go true true true false t p q x y z e = absurd (omega arith)
      go true true false r t p q x y z e = absurd (eqb-false (read_of c).code 0 x e)
      go true false w r t p q x y z e = absurd (omega arith)
      go false b w r t p q x y z e = absurd (omega arith)

  pub accepts : Accepted → read_refusal c l count ≡ 0
  unfolding read_refusal unread placed
  accepts a = rw (a.list, a.chunk, a.whole, le-leb (length (events_in c)) (length (rows_of l)) a.room, a.times)
