-- What is written is read back, over what becomes of a message: one induction on the list. b)'s theorem and e)'s are instances of it.
use mathlib.Core.Bool.{false}
use mathlib.Core.Path.{◌≡◌, refl, ap, subst, ◌∙◌}
use mathlib.Core.List.{List, [], ◌∷◌, ◌++◌, append_assoc}
use Prim.Native.Nat.{ℕ, zero, suc, ◌+◌, ◌≤◌, ◌<◌}
use native.Mathlib.Omega.{arith}
use borrow.Author.Tests.{ne_eqb, lt-ltb, le-ltb}
use lib.Dec.{eqb}
use lib.IntN.{ℤ, pos}
use lib.ListN.{length, drop, length-append}
use lib.Seq.{drop-append_seam}
use Rattle.laws.specs.Integers.{cut}
use Rattle.laws.specs.Rows.{flat}
use Rattle.events.specs.declared.Event.{Event}
use Rattle.quantities.specs.Quantities.{quantity_top, quantity_of, quantity_from}
use Rattle.quantities.proofs.Groups.{read_back, quantity-size}
use Rattle.chunks.specs.Chunks.{message_of, gap_after, written_after, body_from}
use Rattle.chunks.specs.Reader.{seen, end_in, meta_in, second_in, message_in, status_in, seen_in, read_from}
use Rattle.chunks.specs.Steps.{Ready}
use Rattle.chunks.proofs.Sending.{Sent, one, two, sends}
use Rattle.chunks.proofs.Readiness.{time-is, gap-small, first-follows, first_fits, first-channel, others}

-- the status that a message leaves
abbrev pub status_behind : List ℕ → ℕ
status_behind [] = 0
status_behind (s ∷ l) = s

module _ {A : Type 0} (make : ℕ → ℕ → ℕ → ℕ → List A) where
  -- what becomes of the bytes of a message at a time
  abbrev pub heard : ℕ → List ℕ → List A
  heard time [] = []
  heard time (s ∷ []) = []
  heard time (s ∷ a ∷ []) = make s time a 0
  heard time (s ∷ a ∷ b ∷ l) = make s time a b

  -- ---- a message, whatever stands behind it
  module _ (running time gap used : ℕ) (l : List ℕ) where
    opens : (s : ℕ) (r : List ℕ) → 128 ≤ s → s < 240 → status_in make running time gap used (s ∷ r) ≡ message_in make s time gap (used + 1) r
    unfolding status_in
    opens s r low high = rw (le-ltb s 128 low, lt-ltb s 240 high)

    met-message : {m : List ℕ} → Sent m → status_in make running time gap used (m ++ l) ≡ seen 0 (heard time m) (used + length m) (status_behind m) gap
    unfolding message_in second_in
    met-message (one s a low high alone da) =
        let u : used + 1 + 1 ≡ used + 2 = omega arith in
        opens s (a ∷ l) low high ∙ rw (lt-ltb a 128 da, alone, u)
    met-message (two s a b low high alone da db) =
        let u : used + 1 + 1 + 1 ≡ used + 3 = omega arith in
        opens s (a ∷ b ∷ l) low high ∙ rw (lt-ltb a 128 da, alone, lt-ltb b 128 db, u)

  -- ---- an event: its gap, and its message
  module _ (running t : ℕ) (l : List ℕ) (gap : ℕ) (m : List ℕ) where
    seen_one : gap < quantity_top → Sent m
        → seen_in make running t (quantity_of gap ++ (m ++ l)) ≡ seen 0 (heard (t + gap) m) (length (quantity_of gap ++ m)) (status_behind m) gap
    unfolding seen_in
    seen_one small p =
        let q = quantity_of gap in
        let n = length-append q (m ++ l) in
        let o = (quantity-size gap).0 in
        let some : eqb (length (q ++ (m ++ l))) 0 ≡ false = ne_eqb (length (q ++ (m ++ l))) 0 (λ (y : length (q ++ (m ++ l)) ≡ 0). absurd (omega arith)) in
        rw (some, read_back gap (m ++ l) small, drop-append_seam q (m ++ l)) (met-message running (t + gap) gap (length q) l p ∙ rw (← length-append q m))

  finished : (running t : ℕ) → seen_in make running t (0 ∷ 255 ∷ 47 ∷ 0 ∷ []) ≡ seen 1 [] 4 0 0
  unfolding seen_in status_in meta_in end_in quantity_from
  finished running t = refl

  -- ---- the body
  -- what becomes of an event
  abbrev pub made : Event → List A
  made e = heard (cut e.time) (message_of e)

  pub read-body : (k running t : ℕ) (es : List Event) → Ready (pos t) es → length es < k
      → read_from make k running t (body_from (pos t) es) ≡ record { code = 0; kept = flat made es }
  unfolding read_from
  read-body zero running t es r h = absurd (omega arith)
  read-body (suc k) running t [] r h =
      let body : body_from (pos t) [] ≡ 0 ∷ 255 ∷ 47 ∷ 0 ∷ [] = (unfold body_from quantity_of in refl) in
      rw (body, finished running t)
  read-body (suc k) running t (e ∷ es) r h =
      let f = first-follows (pos t) e es r in
      let g = gap_after (pos t) e in
      let q = quantity_of g in
      let m = message_of e in
      let b = body_from e.time es in
      let body : body_from (pos t) (e ∷ es) ≡ q ++ (m ++ b) = (unfold body_from written_after in append_assoc q m b) in
      let one = seen_one running t b g m (gap-small t e f) (sends e (first-channel (pos t) e es r) (first_fits (pos t) e es r)) in
      let rest : drop (length (q ++ m)) (q ++ (m ++ b)) ≡ b = rw (← append_assoc) (drop-append_seam (q ++ m) b) in
      let time = time-is t e f in
      let there : Ready (pos (t + g)) es = subst (λ (z : ℤ). Ready z es) time (others (pos t) e es r) in
      let more : read_from make k (status_behind m) (t + g) b ≡ record { code = 0; kept = flat made es } =
      ap (λ (z : ℤ). read_from make k (status_behind m) (t + g) (body_from z es)) time ∙ read-body k (status_behind m) (t + g) es there (omega arith) in
      let now : cut e.time ≡ t + g = ap cut time in
      rw (body, one, rest, more, now)
