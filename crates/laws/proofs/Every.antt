-- Of a list of which a test holds throughout (`all`).
--     all-below   it holds of each of the first n
--     all-places  back: it holds throughout where it holds at each place
--     all-imply   so does what it implies
--     all-next    of the first i and the next, by both
use mathlib.Core.Path.{◌≡◌, refl, sym, ap, ◌∙◌}
use mathlib.Core.Bool.{Bool, true, ◌&&◌, and_assoc}
use mathlib.Core.List.{List, [], ◌∷◌}
use Prim.Native.Nat.{ℕ, zero, suc, ◌+◌, ◌≤◌, ◌<◌}
use native.Mathlib.Numerals.{add-one}
use native.Mathlib.Omega.{arith}
use lib.ListN.{length, get_or, take}
use lib.Seq.{get_or-take, length-take-le}
use Rattle.laws.specs.Lists.{all}
use Rattle.laws.proofs.Bools.{and-on}
use Rattle.laws.proofs.Ranges.{left, right}
use Rattle.laws.proofs.Tests.{all-at}

module _ {A : Type 0} (p : A → Bool) where
  pub all-below : (l : List A) (n i : ℕ) (z : A) → all p (take n l) ≡ true → i < n → n ≤ length l → p (get_or l i z) ≡ true
  all-below l n i z y h m =
      ap p (sym (get_or-take n l i z h)) ∙ all-at p (take n l) i z (rw (length-take-le n l m) h) y

  pub all-places : (l : List A) (z : A) → ((i : ℕ) → i < length l → p (get_or l i z) ≡ true) → all p l ≡ true
  unfolding all
  all-places [] z h = refl
  all-places (x ∷ l) z h = rw (h 0 (omega arith), all-places l z (λ i m. h (suc i) (omega arith)))

  pub all-imply : (q : A → Bool) → ((x : A) → p x ≡ true → q x ≡ true) → (l : List A) → all p l ≡ true → all q l ≡ true
  unfolding all
  all-imply q f [] y = refl
  all-imply q f (x ∷ l) y = rw (f x (left (p x) (all p l) y), all-imply q f l (right (p x) (all p l) y))

  next : (l : List A) (i : ℕ) (z : A) → i < length l → all p (take (suc i) l) ≡ (all p (take i l) && p (get_or l i z))
  unfolding all
  next [] i z h = absurd (omega arith)
  next (x ∷ l) zero z h = and-on (p x)
  next (x ∷ l) (suc i) z h = ap (λ (b : Bool). p x && b) (next l i z (omega arith)) ∙ sym (and_assoc (p x) (all p (take i l)) (p (get_or l i z)))

  pub all-next : (l : List A) (i : ℕ) (z : A) → i < length l → all p (take (i + 1) l) ≡ (all p (take i l) && p (get_or l i z))
  all-next l i z h = rw add-one (next l i z h)
