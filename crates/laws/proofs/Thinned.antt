-- A list that is thinned by a test which also sees what stands behind an element (`thinned`).
--     thinned_to                             what stays of the first i,
--     thinned-few, thinned-pass, thinned-move   no more than i, and the same or one more after the next,
--     thinned-whole                         and in the end the whole
--     all-thinned, few-thinned              a test that holds throughout holds of what stays; no test holds of more than before
use mathlib.Core.Bool.{Bool, true, false}
use mathlib.Core.Path.{◌≡◌, refl, ap, ◌∙◌}
use mathlib.Core.List.{List, [], ◌∷◌, ◌++◌, append-nil}
use Prim.Native.Nat.{ℕ, zero, suc, ◌+◌, ◌≤◌, ◌<◌}
use native.Mathlib.Numerals.{add-one}
use native.Mathlib.Omega.{arith}
use lib.ListN.{length, get_or, drop}
use Rattle.laws.specs.Lists.{all, unless, without, thinned}
use Rattle.laws.proofs.Ranges.{left, right}

module _ {A : Type 0} (out : A → List A → Bool) where
  abbrev pub thinned_to : ℕ → List A → List A
  thinned_to zero l = []
  thinned_to (suc i) [] = []
  thinned_to (suc i) (x ∷ l) = unless (out x l) x (thinned_to i l)

  pub thinned-few : (i : ℕ) (l : List A) → length (thinned_to i l) ≤ i
  thinned-few zero l = omega arith
  thinned-few (suc i) [] = omega arith
  thinned-few (suc i) (x ∷ l) = go (out x l) (thinned-few i l)
    where
      go : (t : Bool) → length (thinned_to i l) ≤ i → length (unless t x (thinned_to i l)) ≤ suc i
      go true h = omega arith
      go false h = omega arith

  step : (z : A) (i : ℕ) (l : List A) → i < length l → thinned_to (suc i) l ≡ thinned_to i l ++ unless (out (get_or l i z) (drop (suc i) l)) (get_or l i z) []
  step z i [] h = absurd (omega arith)
  step z zero (x ∷ l) h = refl
  step z (suc i) (x ∷ l) h = go (out x l) (step z i l (omega arith))
    where
      go : (t : Bool) → thinned_to (suc i) l ≡ thinned_to i l ++ unless (out (get_or l i z) (drop (suc i) l)) (get_or l i z) []
          → unless t x (thinned_to (suc i) l) ≡ unless t x (thinned_to i l) ++ unless (out (get_or l i z) (drop (suc i) l)) (get_or l i z) []
      go true e = e
      go false e = ap (λ (r : List A). x ∷ r) e

  pub thinned-pass : (z : A) (i : ℕ) (l : List A) → i < length l → out (get_or l i z) (drop (i + 1) l) ≡ true → thinned_to (i + 1) l ≡ thinned_to i l
  thinned-pass z i l h e =
      let t : out (get_or l i z) (drop (suc i) l) ≡ true = rw add-one at e in
      rw add-one (step z i l h ∙ rw (t, append-nil))

  pub thinned-move : (z : A) (i : ℕ) (l : List A) → i < length l → out (get_or l i z) (drop (i + 1) l) ≡ false → thinned_to (i + 1) l ≡ thinned_to i l ++ (get_or l i z ∷ [])
  thinned-move z i l h e =
      let t : out (get_or l i z) (drop (suc i) l) ≡ false = rw add-one at e in
      rw add-one (step z i l h ∙ rw t)

  pub thinned-whole : (i : ℕ) (l : List A) → length l ≤ i → thinned_to i l ≡ thinned out l
  thinned-whole zero [] h = refl
  thinned-whole zero (x ∷ l) h = absurd (omega arith)
  thinned-whole (suc i) [] h = refl
  thinned-whole (suc i) (x ∷ l) h = ap (unless (out x l) x) (thinned-whole i l (omega arith))

  pub all-thinned : (p : A → Bool) (l : List A) → all p l ≡ true → all p (thinned out l) ≡ true
  unfolding all
  all-thinned p [] e = refl
  all-thinned p (x ∷ l) e = go (out x l) (all-thinned p l (right (p x) (all p l) e))
    where
      go : (t : Bool) → all p (thinned out l) ≡ true → all p (unless t x (thinned out l)) ≡ true
      go true ih = ih
      go false ih = rw (left (p x) (all p l) e) ih

  pub few-thinned : (p : A → Bool) (l : List A) → length (without p (thinned out l)) ≤ length (without p l)
  few-thinned p [] = omega arith
  few-thinned p (x ∷ l) = go (out x l) (p x) refl (few-thinned p l)
    where
      go : (t b : Bool) → p x ≡ b → length (without p (thinned out l)) ≤ length (without p l) → length (without p (unless t x (thinned out l))) ≤ length (unless b x (without p l))
      go true true q h = h
      go true false q h = omega arith
      go false true q h = rw q h
      go false false q h = rw q (omega arith)
