-- How many at the front of a list pass a test.
--     leading_le, leading-stops      they are in the list, and the next one does not pass
--     leading-within, leading-past   more behind the list: they end in it, or all of it passes
--     one_more, no_more, at-end      the loop that counts them
use mathlib.Core.Bool.{Bool, true, false, cond}
use mathlib.Core.Logic.{⊎_elim}
use mathlib.Core.Path.{◌≡◌, refl, sym, ap}
use mathlib.Core.List.{List, [], ◌∷◌, ◌++◌}
use Prim.Native.Nat.{ℕ, suc, ◌+◌, ◌≤◌, ◌<◌}
use native.Mathlib.Nat.{zero-add, le_of_suc-le-suc}
use native.Mathlib.Numerals.{add-one}
use native.Mathlib.Omega.{arith}
use lib.ListN.{length, get_or, drop, drop_of_length-le}
use lib.Seq.{drop-cons}
use Rattle.laws.specs.Lists.{leading}
use Rattle.laws.proofs.Bools.{which}

pub leading_le : {A : Type 0} (test : A → Bool) (l : List A) → leading test l ≤ length l
leading_le test [] = omega arith
leading_le test (x ∷ l) =
    let n = leading_le test l in ⊎_elim (λ h. rw h (omega arith)) (λ h. rw h (omega arith)) (which (test x))

pub leading-stops : {A : Type 0} (test : A → Bool) (z : A) (l : List A) → leading test l < length l → test (get_or l (leading test l) z) ≡ false
leading-stops test z [] h = absurd (omega arith)
leading-stops test z (x ∷ l) h =
    ⊎_elim (λ t. rw t (leading-stops test z l (le_of_suc-le-suc (rw t at h)))) (λ t. rw t t) (which (test x))

pub leading-within : {A : Type 0} (test : A → Bool) (a b : List A) → leading test a < length a → leading test (a ++ b) ≡ leading test a
leading-within test [] b h = absurd (omega arith)
leading-within test (x ∷ a) b h = go (test x) h (leading-within test a b)
  where
    go : (t : Bool) → cond t (suc (leading test a)) 0 < suc (length a) → (leading test a < length a → leading test (a ++ b) ≡ leading test a)
        → cond t (suc (leading test (a ++ b))) 0 ≡ cond t (suc (leading test a)) 0
    go true g ih = ap suc (ih (le_of_suc-le-suc g))
    go false g ih = refl

pub leading-past : {A : Type 0} (test : A → Bool) (a b : List A) → leading test a ≡ length a → leading test (a ++ b) ≡ length a + leading test b
leading-past test [] b h = sym (zero-add (leading test b))
leading-past test (x ∷ a) b h = go (test x) h (leading-past test a b)
  where
    go : (t : Bool) → cond t (suc (leading test a)) 0 ≡ suc (length a) → (leading test a ≡ length a → leading test (a ++ b) ≡ length a + leading test b)
        → cond t (suc (leading test (a ++ b))) 0 ≡ suc (length a) + leading test b
    go true g ih = let e = ih (omega arith) in omega arith
    go false g ih = absurd (omega arith)

-- the loop that counts them
module _ {A : Type 0} (test : A → Bool) (z : A) (l : List A) (j : ℕ) where
  pub one_more : j < length l → test (get_or l j z) ≡ true → leading test (drop j l) ≡ suc (leading test (drop (j + 1) l))
  one_more h t = rw (drop-cons l j z h, t, add-one)

  pub no_more : j < length l → test (get_or l j z) ≡ false → leading test (drop j l) ≡ 0
  no_more h t = rw (drop-cons l j z h, t)

  pub at-end : length l ≤ j → leading test (drop j l) ≡ 0
  at-end h = rw (drop_of_length-le l {i = j} h)
