-- "An accepted chunk ends with its end of track": a body is well only where the reader met an end of track, which takes every byte that is left.
--     Ends, read-ends, call_ends   it is whole events, a gap, and an end of track
--     Closed, call-closed          so that a chunk's last bytes are those of an end of track
use mathlib.Core.Path.{◌≡◌, refl, sym, ap, subst, ◌∙◌}
use mathlib.Core.List.{List, [], ◌++◌, append_assoc}
use Prim.Native.Nat.{ℕ, zero, suc, ◌+◌}
use native.Mathlib.Omega.{arith}
use borrow.Author.Tests.{ne_eqb}
use lib.IntN.{ℤ}
use lib.ListN.{length, take, drop, take-append-drop}
use lib.Seq.{drop-append_seam}
use Rattle.eventlist.specs.declared.Taken.{Taken}
use Rattle.quantities.specs.Quantities.{met, quantity_in}
use Rattle.chunks.specs.Writing.{head_bytes}
use Rattle.chunks.specs.Reader.{read_from}
use Rattle.reader.specs.Reading.{kept_in, read_of}
use Rattle.reader.specs.Rereading.{WholeEvents, none, more, EndOfTrack, ReadIn}
use Rattle.reader.proofs.Fronts.{Said, Stands, faulty, event, closing, stands, said_here}
use Rattle.reader.proofs.Refusing.{accepted}

-- bytes that are whole events behind a running status and a time, a gap, and an end of track that is last
pub record Ends (running time : ℕ) (l : List ℕ) : Type 0 where
  pub events : List ℕ
  pub gap : List ℕ
  pub last : List ℕ
  pub status : ℕ
  pub late : ℕ
  pub is : l ≡ events ++ (gap ++ last)
  pub whole : WholeEvents running time events status late
  pub wait : ℕ
  pub quantity : quantity_in gap ≡ met wait (length gap)
  pub track : EndOfTrack last

-- an event, and what ends behind it
ends-behind : (running time : ℕ) (l : List ℕ) (e : Said kept_in running time l) → Ends e.status (time + e.gap) e.rest → Ends running time l
ends-behind running time l e r =
    record {
      events = e.own ++ r.events;
      gap = r.gap;
      last = r.last;
      status = r.status;
      late = r.late;
      wait = r.wait;
      is = e.is ∙ ap (λ (x : List ℕ). e.own ++ x) r.is ∙ sym (append_assoc e.own r.events (r.gap ++ r.last));
      whole =
          more (e.seen r.events) refl
          (subst (λ (x : List ℕ). WholeEvents e.status (time + e.gap) x r.status r.late) (sym (drop-append_seam e.own r.events)) r.whole);
      quantity = r.quantity;
      track = r.track;
    }

pub read-ends : (k running time : ℕ) (l : List ℕ) → (read_from kept_in k running time l).code ≡ 0 → Ends running time l
unfolding read_from
read-ends zero running time l h = absurd (omega arith)
read-ends (suc k) running time l h = go (stands kept_in running time l) (λ status late x. read-ends k status late x)
  where
    go : Stands kept_in running time l → ((status late : ℕ) (x : List ℕ) → (read_from kept_in k status late x).code ≡ 0 → Ends status late x) → Ends running time l
    go (faulty n g e) ih =
        let z : n ≡ 0 = rw (e, ne_eqb n 0 (λ (z : n ≡ 0). absurd (omega arith)), ne_eqb n 1 (λ (z : n ≡ 1). absurd (omega arith))) at h in
        absurd (omega arith)
    go (event e) ih =
        let left : drop (length e.own) l ≡ e.rest = ap (drop (length e.own)) e.is ∙ drop-append_seam e.own e.rest in
        ends-behind running time l e (ih e.status (time + e.gap) e.rest (rw (said_here kept_in running time l e, left) at h))
    go (closing gap last wait is q t e) ih =
        record { events = []; gap = gap; last = last; status = running; late = time; wait = wait; is = is; whole = none; quantity = q; track = t }

-- ---- the call
-- the last bytes are those of an end of track
pub record Closed (l : List ℕ) : Type 0 where
  pub front : List ℕ
  pub last : List ℕ
  pub is : l ≡ front ++ last
  pub track : EndOfTrack last

module _ {c : List ℕ} {l : List ℤ} {count n : ℕ} {l' : List ℤ} (k : ReadIn c l count n l') where
  pub call_ends : Ends 0 0 (drop head_bytes c)
  unfolding read_of
  call_ends = read-ends (length (drop head_bytes c)) 0 0 (drop head_bytes c) (accepted c l count (sym (ap (λ (r : Taken). r.code) k.answer))).whole

  pub call-closed : Closed c
  call-closed =
      let e = call_ends in
      let head = take head_bytes c in
      record {
        front = head ++ (e.events ++ e.gap);
        last = e.last;
        is = sym (take-append-drop head_bytes c) ∙ ap (λ (r : List ℕ). head ++ r) (e.is ∙ sym (append_assoc e.events e.gap e.last)) ∙ sym (append_assoc head (e.events ++ e.gap) e.last);
        track = e.track;
      }
