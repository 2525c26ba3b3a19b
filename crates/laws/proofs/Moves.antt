-- A list that closes up over what is taken out of it.
--     once, front      each record moves at most once, and none up to the first that is taken out
--     moved-count      those that move are the kept ones behind the first that is taken out
--     arrive           after these moves what is kept stands in front, in order
--     front-..         the loop that finds the first that is taken out
use mathlib.Core.Bool.{Bool, true, false, not, cond}
use mathlib.Core.Logic.{⊎_elim}
use mathlib.Core.Path.{◌≡◌, refl, sym, ap, ◌∙◌}
use mathlib.Core.List.{List, [], ◌∷◌, ◌++◌, append_assoc, append-nil}
use Prim.Native.Nat.{ℕ, zero, suc, ◌+◌, ◌≤◌, ◌<◌}
use native.Mathlib.Nat.{zero-add}
use native.Mathlib.Numerals.{add-one}
use native.Mathlib.Omega.{arith}
use borrow.Author.Tests.{eqb-true, eqb-false, eq-eqb, ne_eqb}
use lib.Dec.{eqb}
use lib.ListN.{length, get_or, set, take, length-append}
use lib.Seq.{set_at, take_at, get_or_at, length-take-le, take-suc}
use Rattle.laws.specs.Lists.{without, unless}
use Rattle.laws.proofs.Bools.{which}
use Rattle.laws.proofs.Leading.{leading_le, leading-within, leading-past}
use Rattle.laws.specs.Moves.{Move, times_moved, move_to, carried, in_front, moves_from, moves}

-- where a record stands already it does not move, and elsewhere it moves once
stays-there : (i : ℕ) → move_to i i ≡ []
stays-there i = rw (eq-eqb i i refl)

goes : (i n : ℕ) → n < i → move_to i n ≡ record { from = i; to = n } ∷ []
goes i n h = rw (ne_eqb i n (λ e. omega arith))

module _ {A : Type 0} (out : A → Bool) where
  -- ---- how many
  behind-count : (i n : ℕ) (es : List A) → n < i → length (moves_from out i n es) ≡ length (without out es)
  behind-count i n [] h = refl
  behind-count i n (x ∷ es) h = go (out x) (behind-count (suc i) n es (omega arith)) (behind-count (suc i) (suc n) es (omega arith))
    where
      go : (t : Bool) → length (moves_from out (suc i) n es) ≡ length (without out es) → length (moves_from out (suc i) (suc n) es) ≡ length (without out es)
          → length (cond t (moves_from out (suc i) n es) (move_to i n ++ moves_from out (suc i) (suc n) es)) ≡ length (unless t x (without out es))
      go true a b = a
      go false a b = ap (λ (m : List Move). length (m ++ moves_from out (suc i) (suc n) es)) (goes i n h) ∙ ap suc b

  own-count : (i : ℕ) (es : List A) → length (moves_from out i i es) + in_front out es ≡ length (without out es)
  own-count i [] = refl
  own-count i (x ∷ es) = go (out x) (own-count (suc i) es)
    where
      go : (t : Bool) → length (moves_from out (suc i) (suc i) es) + in_front out es ≡ length (without out es)
          → length (cond t (moves_from out (suc i) i es) (move_to i i ++ moves_from out (suc i) (suc i) es)) + cond (not t) (suc (in_front out es)) 0 ≡ length (unless t x (without out es))
      go true b = let a = behind-count (suc i) i es (omega arith) in omega arith
      go false b = ap (λ (m : List Move). length (m ++ moves_from out (suc i) (suc i) es) + suc (in_front out es)) (stays-there i) ∙ omega arith

  pub moved-count : (es : List A) → length (moves out es) + in_front out es ≡ length (without out es)
  moved-count es = own-count 0 es

  -- what stands in front of the first that is taken out is kept
  pub front_kept : (es : List A) → without out (take (in_front out es) es) ≡ take (in_front out es) es
  front_kept [] = refl
  front_kept (x ∷ es) = go (out x) refl (front_kept es)
    where
      go : (t : Bool) → out x ≡ t → without out (take (in_front out es) es) ≡ take (in_front out es) es
          → without out (take (cond (not t) (suc (in_front out es)) 0) (x ∷ es)) ≡ take (cond (not t) (suc (in_front out es)) 0) (x ∷ es)
      go true e ih = refl
      go false e ih = ap (λ (t : Bool). unless t x (without out (take (in_front out es) es))) e ∙ ap (λ (l : List A). x ∷ l) ih

  -- ---- how often
  not_yet : (k i n : ℕ) (es : List A) → k < i → times_moved k (moves_from out i n es) ≡ 0
  not_yet k i n [] h = refl
  not_yet k i n (x ∷ es) h = go (out x) (eqb i n) (not_yet k (suc i) n es (omega arith)) (not_yet k (suc i) (suc n) es (omega arith))
    where
      go : (t here : Bool) → times_moved k (moves_from out (suc i) n es) ≡ 0 → times_moved k (moves_from out (suc i) (suc n) es) ≡ 0
          → times_moved k (cond t (moves_from out (suc i) n es) (cond here [] (record { from = i; to = n } ∷ []) ++ moves_from out (suc i) (suc n) es)) ≡ 0
      go true here a b = a
      go false true a b = b
      go false false a b = ap (λ (own : Bool). cond own 1 0 + times_moved k (moves_from out (suc i) (suc n) es)) (ne_eqb i k (λ e. omega arith)) ∙ omega arith

  once-from : (k i n : ℕ) (es : List A) → times_moved k (moves_from out i n es) ≤ 1
  once-from k i n [] = omega arith
  once-from k i n (x ∷ es) = go (out x) (eqb i n) (once-from k (suc i) n es) (once-from k (suc i) (suc n) es)
    where
      -- the one at place i moves here, and none further on is of place i
      own : (o : Bool) → eqb i k ≡ o → times_moved k (moves_from out (suc i) (suc n) es) ≤ 1 → cond o 1 0 + times_moved k (moves_from out (suc i) (suc n) es) ≤ 1
      own true e b = let here = eqb-true i k e in let none = not_yet k (suc i) (suc n) es (omega arith) in omega arith
      own false e b = omega arith

      go : (t here : Bool) → times_moved k (moves_from out (suc i) n es) ≤ 1 → times_moved k (moves_from out (suc i) (suc n) es) ≤ 1
          → times_moved k (cond t (moves_from out (suc i) n es) (cond here [] (record { from = i; to = n } ∷ []) ++ moves_from out (suc i) (suc n) es)) ≤ 1
      go true here a b = a
      go false true a b = b
      go false false a b = own (eqb i k) refl b

  pub once : (k : ℕ) (es : List A) → times_moved k (moves out es) ≤ 1
  once k es = once-from k 0 0 es

  front-from : (k i : ℕ) (es : List A) → k ≤ in_front out es → times_moved (i + k) (moves_from out i i es) ≡ 0
  front-from k i [] h = refl
  front-from zero i (x ∷ es) h = go (out x)
    where
      go : (t : Bool) → times_moved (i + 0) (cond t (moves_from out (suc i) i es) (move_to i i ++ moves_from out (suc i) (suc i) es)) ≡ 0
      go true = not_yet (i + 0) (suc i) i es (omega arith)
      go false = ap (λ (m : List Move). times_moved (i + 0) (m ++ moves_from out (suc i) (suc i) es)) (stays-there i) ∙ not_yet (i + 0) (suc i) (suc i) es (omega arith)
  front-from (suc k) i (x ∷ es) h = go (out x) h (front-from k (suc i) es)
    where
      go : (t : Bool) → suc k ≤ cond (not t) (suc (in_front out es)) 0 → (k ≤ in_front out es → times_moved (suc i + k) (moves_from out (suc i) (suc i) es) ≡ 0)
          → times_moved (i + suc k) (cond t (moves_from out (suc i) i es) (move_to i i ++ moves_from out (suc i) (suc i) es)) ≡ 0
      go true g ih = absurd (omega arith)
      go false g ih =
          let there : i + suc k ≡ suc i + k = omega arith in
          ap (λ (m : List Move). times_moved (i + suc k) (m ++ moves_from out (suc i) (suc i) es)) (stays-there i)
          ∙ ap (λ (j : ℕ). times_moved j (moves_from out (suc i) (suc i) es)) there
          ∙ ih (omega arith)

  pub front : (k : ℕ) (es : List A) → k ≤ in_front out es → times_moved k (moves out es) ≡ 0
  front k es h = ap (λ (j : ℕ). times_moved j (moves out es)) (sym (zero-add k)) ∙ front-from k 0 es h

  -- ---- where to
  -- p is what was kept so far, j what is left behind it of the places passed
  abbrev Arrived : A → List A → List A → List Move → List A → ℕ → Type 0
  Arrived z p now ms l n = take (n + length now) (carried z ms l) ≡ p ++ now

  arrive-from : (z : A) (es p j : List A) (i n : ℕ) → length p ≡ n → n + length j ≡ i → Arrived z p (without out es) (moves_from out i n es) (p ++ (j ++ es)) n
  arrive-from z [] p j i n a b = take_at p (j ++ []) (n + 0) (omega arith) ∙ sym (append-nil p)
  arrive-from z (x ∷ es) p j i n a b =
      go (out x) j b (arrive-from z es p (j ++ (x ∷ [])) (suc i) n a (length_more j b)) (arrive-from z es (p ++ (x ∷ [])))
    where
      length_more : (y : List A) → n + length y ≡ i → n + length (y ++ (x ∷ [])) ≡ suc i
      length_more y e = let m = length-append y (x ∷ []) in omega arith

      long : length (p ++ (x ∷ [])) ≡ suc n
      long = length-append p (x ∷ []) ∙ omega arith

      behind : (y : List A) → p ++ (y ++ (x ∷ es)) ≡ p ++ ((y ++ (x ∷ [])) ++ es)
      behind y = ap (λ (l : List A). p ++ l) (sym (append_assoc y (x ∷ []) es))

      -- one more is kept
      further : (ms : List Move) (l : List A) → Arrived z (p ++ (x ∷ [])) (without out es) ms l (suc n) → Arrived z p (x ∷ without out es) ms l n
      further ms l h =
          let m : n + length (x ∷ without out es) ≡ suc n + length (without out es) = omega arith in
          ap (λ (k : ℕ). take k (carried z ms l)) m ∙ h ∙ append_assoc p (x ∷ []) (without out es)

      kept : (y : List A) → n + length y ≡ i
          → ((w : List A) (i' n' : ℕ) → length (p ++ (x ∷ [])) ≡ n' → n' + length w ≡ i' → Arrived z (p ++ (x ∷ [])) (without out es) (moves_from out i' n' es) ((p ++ (x ∷ [])) ++ (w ++ es)) n')
          → Arrived z p (x ∷ without out es) (move_to i n ++ moves_from out (suc i) (suc n) es) (p ++ (y ++ (x ∷ es))) n
      kept [] e ih =
          let here : i ≡ n = omega arith in
          let l = p ++ (x ∷ es) in
          ap (λ (m : List Move). take (n + suc (length (without out es))) (carried z (m ++ moves_from out (suc i) (suc n) es) l)) (ap (λ (k : ℕ). move_to k n) here ∙ stays-there n)
          ∙ further (moves_from out (suc i) (suc n) es) l
          (ap (λ (q : List A). take (suc n + length (without out es)) (carried z (moves_from out (suc i) (suc n) es) q)) (sym (append_assoc p (x ∷ []) es))
          ∙ ih [] (suc i) (suc n) long (omega arith))
      kept (v ∷ y) e ih =
          let l = p ++ (v ∷ (y ++ (x ∷ es))) in
          let read : get_or l i z ≡ x = ap (λ (q : List A). get_or q i z) (sym (append_assoc p (v ∷ y) (x ∷ es))) ∙ get_or_at (p ++ (v ∷ y)) x es z i (length-append p (v ∷ y) ∙ omega arith) in
          let written : set l n x ≡ (p ++ (x ∷ [])) ++ ((y ++ (x ∷ [])) ++ es) =
          set_at p v (y ++ (x ∷ es)) x n a ∙ sym (append_assoc p (x ∷ []) (y ++ (x ∷ es))) ∙ ap (λ (q : List A). (p ++ (x ∷ [])) ++ q) (sym (append_assoc y (x ∷ []) es)) in
          ap (λ (m : List Move). take (n + suc (length (without out es))) (carried z (m ++ moves_from out (suc i) (suc n) es) l)) (goes i n (omega arith))
          ∙ further (moves_from out (suc i) (suc n) es) (set l n (get_or l i z))
          (ap (λ (q : List A). take (suc n + length (without out es)) (carried z (moves_from out (suc i) (suc n) es) q)) (ap (set l n) read ∙ written)
          ∙ ih (y ++ (x ∷ [])) (suc i) (suc n) long (let m = length-append y (x ∷ []) in omega arith))

      go : (t : Bool) (y : List A) → n + length y ≡ i
          → Arrived z p (without out es) (moves_from out (suc i) n es) (p ++ ((y ++ (x ∷ [])) ++ es)) n
          → ((w : List A) (i' n' : ℕ) → length (p ++ (x ∷ [])) ≡ n' → n' + length w ≡ i' → Arrived z (p ++ (x ∷ [])) (without out es) (moves_from out i' n' es) ((p ++ (x ∷ [])) ++ (w ++ es)) n')
          → Arrived z p (unless t x (without out es)) (cond t (moves_from out (suc i) n es) (move_to i n ++ moves_from out (suc i) (suc n) es)) (p ++ (y ++ (x ∷ es))) n
      go true y e a ih = ap (λ (l : List A). take (n + length (without out es)) (carried z (moves_from out (suc i) n es) l)) (behind y) ∙ a
      go false y e a ih = kept y e ih

  pub arrive : (z : A) (es : List A) → take (length (without out es)) (carried z (moves out es) es) ≡ without out es
  arrive z es = ap (λ (k : ℕ). take k (carried z (moves out es) es)) (sym (zero-add (length (without out es)))) ∙ arrive-from z es [] [] 0 0 refl refl

  -- ---- one record more is looked at
  module _ (z : A) (l : List A) (i first : ℕ) (h : i < length l) (e : first ≡ in_front out (take i l)) where
    long : length (take i l) ≡ i
    long = length-take-le i l (omega arith)

    next : take (i + 1) l ≡ take i l ++ (get_or l i z ∷ [])
    next = ap (λ (k : ℕ). take k l) (add-one i) ∙ take-suc l i z h

    -- one was taken out before
    pub front-past : first < i → first ≡ in_front out (take (i + 1) l)
    front-past n = let m = long in sym (ap (in_front out) next ∙ leading-within (λ x. not (out x)) (take i l) (get_or l i z ∷ []) (omega arith) ∙ sym e)

    -- none was: this one may be the first
    front_at : first ≡ i → in_front out (take (i + 1) l) ≡ i + cond (not (out (get_or l i z))) 1 0
    front_at n =
        let m = long in
        ap (in_front out) next ∙ leading-past (λ x. not (out x)) (take i l) (get_or l i z ∷ []) (omega arith) ∙ ap (λ (k : ℕ). k + cond (not (out (get_or l i z))) 1 0) m

    pub front-kept-too : out (get_or l i z) ≡ false → first ≡ i → first + 1 ≡ in_front out (take (i + 1) l)
    front-kept-too t n = let a = front_at n ∙ ap (λ (b : Bool). i + cond (not b) 1 0) t in omega arith

    pub front-taken : out (get_or l i z) ≡ true → first ≡ in_front out (take (i + 1) l)
    front-taken t = ⊎_elim (λ (q : eqb first i ≡ true). here (eqb-true first i q)) (λ (q : eqb first i ≡ false). front-past (below q)) (which (eqb first i))
      where
        here : first ≡ i → first ≡ in_front out (take (i + 1) l)
        here n = let a = front_at n ∙ ap (λ (b : Bool). i + cond (not b) 1 0) t in omega arith

        below : eqb first i ≡ false → first < i
        below q = let w = leading_le (λ x. not (out x)) (take i l) in let m = long in let d = eqb-false first i q in omega arith
