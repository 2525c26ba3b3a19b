-- What is left of a body, over what becomes of a message: an event takes a byte at least and no more than there are, so that as many steps as there
-- are bytes always do, and a body is its first event and the body behind it.
--     seen-within, less-left, seen-alone   the bytes of what stands at the front, and those behind it
--     enough                               more steps change nothing
--     rest_goes, rest-ends, rest-is, ..    a body by what stands at its front
use mathlib.Core.Bool.{cond}
use mathlib.Core.Path.{◌≡◌, refl, sym, ap, ◌∙◌}
use mathlib.Core.List.{List, [], ◌∷◌, ◌++◌, append_assoc}
use mathlib.Core.Logic.{⊎_elim}
use Prim.Native.Nat.{ℕ, zero, suc, ◌+◌, ◌≤◌, ◌<◌}
use native.Mathlib.Omega.{arith}
use borrow.Author.Tests.{eqb-true, eqb-false, ne_eqb}
use lib.Dec.{eqb}
use lib.ListN.{length, drop, length-append, length-drop}
use Rattle.laws.proofs.Bools.{which}
use Rattle.chunks.specs.Reader.{Seen, fault, Whole, seen_in, read_from}
use Rattle.reader.proofs.Fronts.{said_here, said}

-- what is kept of what stands at the front and of the body behind it
abbrev pub joined : {A : Type 0} → Seen A → Whole A → Whole A
joined s r = cond (eqb s.code 0) (record { code = r.code; kept = s.kept ++ r.kept }) (record { code = cond (eqb s.code 1) 0 s.code; kept = [] })

module _ {A : Type 0} (make : ℕ → ℕ → ℕ → ℕ → List A) where
  -- ---- bytes
  pub seen-within : (running time : ℕ) (l : List ℕ) → (seen_in make running time l).code ≡ 0
      → (0 < (seen_in make running time l).used) × ((seen_in make running time l).used ≤ length l)
  seen-within running time l h =
      let e = said make running time l h in
      let at = ap (λ (s : Seen A). s.used) (said_here make running time l e) in
      let long = ap length e.is ∙ length-append e.own e.rest in
      (omega arith, omega arith)

  -- an event is the same whatever stands behind it
  pub seen-alone : (running time : ℕ) (l m : List ℕ) → (seen_in make running time l).code ≡ 0 → seen_in make running time (l ++ m) ≡ seen_in make running time l
  seen-alone running time l m h =
      let e = said make running time l h in
      let far : l ++ m ≡ e.own ++ (e.rest ++ m) = ap (λ (x : List ℕ). x ++ m) e.is ∙ append_assoc e.own e.rest m in
      ap (seen_in make running time) far ∙ e.seen (e.rest ++ m) ∙ sym (said_here make running time l e)

  -- ---- steps
  nothing : (running time : ℕ) → seen_in make running time [] ≡ fault 15
  unfolding seen_in
  nothing running time = refl

  -- what is left behind an event is shorter
  pub less-left : (running time : ℕ) (l : List ℕ) → (seen_in make running time l).code ≡ 0 → length (drop (seen_in make running time l).used l) < length l
  less-left running time l h =
      let w = seen-within running time l h in
      let d = length-drop (seen_in make running time l).used l in
      omega arith

  module _ (k running time : ℕ) (l : List ℕ) where
    goes_on : (seen_in make running time l).code ≡ 0
        → (let s = seen_in make running time l in
        let r = read_from make k s.status (time + s.gap) (drop s.used l) in
        read_from make (suc k) running time l ≡ record { code = r.code; kept = s.kept ++ r.kept })
    unfolding read_from
    goes_on h = rw h

    stops : ((seen_in make running time l).code ≡ 0 → ⊥)
        → (let s = seen_in make running time l in read_from make (suc k) running time l ≡ record { code = cond (eqb s.code 1) 0 s.code; kept = [] })
    unfolding read_from
    stops h = rw (ne_eqb (seen_in make running time l).code 0 h)

  -- no byte, no event
  barren : (k running time : ℕ) (l : List ℕ) → length l ≡ 0 → read_from make k running time l ≡ record { code = 15; kept = [] }
  unfolding read_from
  barren zero running time l h = refl
  barren (suc k) running time [] h = rw (nothing running time)
  barren (suc k) running time (x ∷ l) h = absurd (omega arith)

  alike : (k j running time : ℕ) (l : List ℕ) → length l ≤ k → length l ≤ j → read_from make k running time l ≡ read_from make j running time l
  alike zero j running time l h i = barren zero running time l (omega arith) ∙ sym (barren j running time l (omega arith))
  alike (suc k) zero running time l h i = barren (suc k) running time l (omega arith) ∙ sym (barren zero running time l (omega arith))
  alike (suc k) (suc j) running time l h i =
      let s = seen_in make running time l in
      ⊎_elim
      (λ e.
      let c = eqb-true s.code 0 e in
      let n = less-left running time l c in
      let rest = alike k j s.status (time + s.gap) (drop s.used l) (omega arith) (omega arith) in
      goes_on k running time l c ∙ ap (λ (r : Whole A). record { code = r.code; kept = s.kept ++ r.kept }) rest ∙ sym (goes_on j running time l c))
      (λ e. let n = eqb-false s.code 0 e in stops k running time l n ∙ sym (stops j running time l n))
      (which (eqb s.code 0))

  pub enough : (k running time : ℕ) (l : List ℕ) → length l ≤ k → read_from make k running time l ≡ read_from make (length l) running time l
  enough k running time l h = alike k (length l) running time l h (omega arith)

  -- ---- a body by what stands at its front
  -- an event: what is kept of it, and the body behind it
  pub rest_goes : (running time : ℕ) (l : List ℕ) → (seen_in make running time l).code ≡ 0
      → (let s = seen_in make running time l in
      let r = read_from make (length (drop s.used l)) s.status (time + s.gap) (drop s.used l) in
      read_from make (length l) running time l ≡ record { code = r.code; kept = s.kept ++ r.kept })
  rest_goes running time [] h = let z : ◌≡◌ {A = ℕ} 15 0 = ap (λ (s : Seen A). s.code) (sym (nothing running time)) ∙ h in absurd (omega arith)
  rest_goes running time (x ∷ l) h =
      let s = seen_in make running time (x ∷ l) in
      let n = less-left running time (x ∷ l) h in
      goes_on (length l) running time (x ∷ l) h
      ∙ ap (λ (r : Whole A). record { code = r.code; kept = s.kept ++ r.kept }) (enough (length l) s.status (time + s.gap) (drop s.used (x ∷ l)) (omega arith))

  -- the end of track, or a fault
  pub rest-ends : (running time : ℕ) (l : List ℕ) → ((seen_in make running time l).code ≡ 0 → ⊥)
      → (let s = seen_in make running time l in
      read_from make (length l) running time l ≡ record { code = cond (eqb s.code 1) 0 s.code; kept = [] })
  rest-ends running time [] h = barren 0 running time [] refl ∙ rw (nothing running time)
  rest-ends running time (x ∷ l) h = stops (length l) running time (x ∷ l) h

  -- both at once
  abbrev pub after : ℕ → Seen A → List ℕ → Whole A
  after time s rest = joined s (read_from make (length rest) s.status (time + s.gap) rest)

  pub rest-is : (running time : ℕ) (l : List ℕ)
      → (let s = seen_in make running time l in read_from make (length l) running time l ≡ after time s (drop s.used l))
  rest-is running time l =
      let s = seen_in make running time l in
      ⊎_elim (λ e. rest_goes running time l (eqb-true s.code 0 e) ∙ rw e) (λ e. rest-ends running time l (eqb-false s.code 0 e) ∙ rw e) (which (eqb s.code 0))

  -- where this stands at the front
  pub rest-of : (running time : ℕ) (l : List ℕ) (s : Seen A) → seen_in make running time l ≡ s → read_from make (length l) running time l ≡ after time s (drop s.used l)
  rest-of running time l s e = rw e at (rest-is running time l)

  pub rest-fails : (running time : ℕ) (l : List ℕ) (n : ℕ) → 2 ≤ n → seen_in make running time l ≡ fault n → read_from make (length l) running time l ≡ record { code = n; kept = [] }
  rest-fails running time l n h e =
      rest-of running time l (fault n) e ∙ rw (ne_eqb n 0 (λ (z : n ≡ 0). absurd (omega arith)), ne_eqb n 1 (λ (z : n ≡ 1). absurd (omega arith)))
