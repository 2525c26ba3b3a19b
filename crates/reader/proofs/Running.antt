-- "Dropping a status byte that equals the running one changes nothing." What stands at the front is the same whatever stands behind it, so that whole
-- events before the place do not matter, and a message is read alike behind its status and under it.
--     status-dropped                    a gap, a status and its data, and the same under that status without it, over what becomes of a message
--     running-same, call-running-same   the same behind whole events, of a body and of the call
use mathlib.Core.Bool.{Bool, true, cond}
use mathlib.Core.Path.{◌≡◌, sym, ap, ap₂, ◌∙◌}
use mathlib.Core.List.{List, ◌∷◌, ◌++◌}
use Prim.Native.Nat.{ℕ, suc, ◌+◌, ◌≤◌, ◌<◌}
use native.Mathlib.Omega.{arith}
use borrow.Author.Tests.{ne_eqb, lt-ltb, le-ltb}
use lib.Dec.{eqb}
use lib.IntN.{ℤ}
use lib.ListN.{length, drop}
use lib.Seq.{drop-append-le, drop-append-add}
use Rattle.laws.specs.Lists.{put_first}
use Rattle.laws.specs.Rows.{flat}
use Rattle.events.specs.declared.Event.{Event}
use Rattle.events.specs.Events.{zero_event}
use Rattle.eventlist.specs.Rows.{numbers_of, rows_of}
use Rattle.eventlist.specs.Sound.{is_list}
use Rattle.quantities.specs.Quantities.{met, quantity_in}
use Rattle.chunks.specs.Writing.{head_bytes}
use Rattle.chunks.specs.Reader.{Seen, seen, Whole, message_in, status_in, seen_in, read_from, read_body}
use Rattle.reader.specs.Reading.{kept_in, is_chunk, read_of, placed, unread, read_refusal, read_taken, read_left}
use Rattle.reader.specs.Rereading.{WholeEvents, none, more}
use Rattle.reader.specs.Steps.{rest_of}
use Rattle.reader.proofs.Fronts.{Front, fails, reads, ends, message-front, behind-gap}
use Rattle.reader.proofs.Rests.{joined, seen-within, seen-alone, after, rest-of, rest-fails}

module _ {A : Type 0} (make : ℕ → ℕ → ℕ → ℕ → List A) where
  -- ---- a gap, a status and its first data byte
  module _ (time s : ℕ) (low : 128 ≤ s) (high : s < 240) (q : List ℕ) (v : ℕ) (gap : quantity_in q ≡ met v (length q)) (a : ℕ) (data-byte : a < 128) (l : List ℕ) where
    status-first : (running : ℕ) → seen_in make running time (q ++ (s ∷ a ∷ l)) ≡ message_in make s (time + v) v (length q + 1) (a ∷ l)
    unfolding status_in
    status-first running = behind-gap make running time v q (s ∷ a ∷ l) gap ∙ rw (le-ltb s 128 low, lt-ltb s 240 high)

    under-status : seen_in make s time (q ++ (a ∷ l)) ≡ message_in make s (time + v) v (length q) (a ∷ l)
    unfolding status_in
    under-status = behind-gap make s time v q (a ∷ l) gap ∙ rw (lt-ltb a 128 data-byte, ne_eqb s 0 (λ (z : s ≡ 0). absurd (omega arith)))

    -- whatever ran before, it is read as under that status without it
    pub status-dropped : (running : ℕ)
        → read_from make (length (q ++ (s ∷ a ∷ l))) running time (q ++ (s ∷ a ∷ l)) ≡ read_from make (length (q ++ (a ∷ l))) s time (q ++ (a ∷ l))
    status-dropped running = go (message-front make (time + v) v ⊥ s (a ∷ l))
      where
        x : List ℕ
        x = q ++ (s ∷ a ∷ l)

        y : List ℕ
        y = q ++ (a ∷ l)

        go : Front make (time + v) v (λ used l. message_in make s (time + v) v used l) ⊥ (a ∷ l) → read_from make (length x) running time x ≡ read_from make (length y) s time y
        go (fails n h f) =
            rest-fails make running time x n h (status-first running ∙ f (length q + 1)) ∙ sym (rest-fails make s time y n h (under-status ∙ f (length q)))
        go (reads own rest kept status is size k f) =
            let n = length own in
            let at : (used : ℕ) → message_in make s (time + v) v used (a ∷ l) ≡ seen 0 kept (used + n) status v = λ used. ap (message_in make s (time + v) v used) is ∙ f used rest in
            let further : length q + 1 + n ≡ length q + suc n = omega arith in
            let left : drop (length q + 1 + n) x ≡ drop (length q + n) y =
            ap (λ (i : ℕ). drop i x) further ∙ drop-append-add q (s ∷ a ∷ l) (suc n) ∙ sym (drop-append-add q (a ∷ l) n) in
            rest-of make running time x (seen 0 kept (length q + 1 + n) status v) (status-first running ∙ at (length q + 1))
            ∙ ap (after make time (seen 0 kept 0 status v)) left
            ∙ sym (rest-of make s time y (seen 0 kept (length q + n) status v) (under-status ∙ at (length q)))
        go (ends t f) = absurd t

-- ---- whole events before it
behind : {running time status late : ℕ} {p : List ℕ} → WholeEvents running time p status late → (x y : List ℕ)
    → rest_of status late x ≡ rest_of status late y → rest_of running time (p ++ x) ≡ rest_of running time (p ++ y)
behind none x y h = h
behind {running} {time} {p = p} (more {s = s} e c w) x y h =
    let code = ap (λ (s : Seen Event). s.code) e ∙ c in
    let used : s.used ≤ length p = rw e at (seen-within kept_in running time p code).1 in
    let here : (m : List ℕ) → rest_of running time (p ++ m) ≡ after kept_in time s (drop s.used p ++ m) =
    λ m. rest-of kept_in running time (p ++ m) s (seen-alone kept_in running time p m code ∙ e) ∙ ap (after kept_in time s) (drop-append-le s.used p m used) in
    here x ∙ ap (joined s) (behind w x y h) ∙ sym (here y)

-- chunks of which as much is read are read alike into every list
read_alike : (c c' : List ℕ) → is_chunk c ≡ true → is_chunk c' ≡ true → read_of c ≡ read_of c' → (m : List ℤ) (count : ℕ)
    → (read_taken c m count ≡ read_taken c' m count) × (read_left c m count ≡ read_left c' m count)
unfolding read_refusal unread
read_alike c c' k k' e m count =
    let same : read_refusal c m count ≡ read_refusal c' m count =
    ap₂ (λ (b : Bool) (w : Whole Event). cond (is_list m count) (cond b (cond (eqb w.code 0) (placed w.kept (length (rows_of m))) w.code) 13) 1) (k ∙ sym k') e in (
      ap₂ (λ (n : ℕ) (w : Whole Event). record { code = n; count = cond (eqb n 0) (length w.kept) count }) same e,
      ap₂ (λ (n : ℕ) (w : Whole Event). cond (eqb n 0) (flat numbers_of (put_first zero_event count w.kept (rows_of m))) m) same e,
    )

-- ---- a body, a call
module _ {p : List ℕ} {s late : ℕ} (w : WholeEvents 0 0 p s late) (low : 128 ≤ s) (high : s < 240) (q : List ℕ) (v : ℕ)
    (gap : quantity_in q ≡ met v (length q)) (a : ℕ) (data-byte : a < 128) (l : List ℕ) where
  pub running-same : read_body kept_in (p ++ (q ++ (s ∷ a ∷ l))) ≡ read_body kept_in (p ++ (q ++ (a ∷ l)))
  running-same = behind w (q ++ (s ∷ a ∷ l)) (q ++ (a ∷ l)) (status-dropped kept_in late s low high q v gap a data-byte l s)

  -- two chunks whose bodies are these are read alike into every list
  pub call-running-same : (c c' : List ℕ) → is_chunk c ≡ true → is_chunk c' ≡ true → drop head_bytes c ≡ p ++ (q ++ (s ∷ a ∷ l)) → drop head_bytes c' ≡ p ++ (q ++ (a ∷ l))
      → (m : List ℤ) (count : ℕ) → (read_taken c m count ≡ read_taken c' m count) × (read_left c m count ≡ read_left c' m count)
  unfolding read_of
  call-running-same c c' k k' e e' m count =
      read_alike c c' k k' (ap (read_body kept_in) e ∙ running-same ∙ sym (ap (read_body kept_in) e')) m count
