-- A table from which a target was taken out and at whose end one was put, over any kind of entry; `f` is the key of one.
--     at-the-end   what is used then: those of the other targets, and the new one behind them
--     gone         a target that was taken out has no entry
--     behind       one that was put in has
--     fewer        where it had one, a place falls vacant
use mathlib.Core.Path.{◌≡◌, refl, sym, ap, ◌∙◌}
use mathlib.Core.Bool.{Bool, true, false, not, ◌&&◌, true≢false}
use mathlib.Core.List.{List, [], ◌∷◌, ◌++◌, map, map-append}
use Prim.Native.Nat.{ℕ, ◌+◌, ◌≤◌, ◌<◌}
use native.Mathlib.Omega.{arith}
use borrow.Author.Tests.{eq-eqb}
use lib.Dec.{eqb}
use lib.ListN.{length, take, length-append, length-take}
use Rattle.laws.specs.Lists.{all, unless, without, put_first}
use Rattle.laws.specs.Keys.{absent}
use Rattle.laws.proofs.Compact.{length_without}
use Rattle.laws.proofs.Parts.{map-without}
use Rattle.laws.proofs.Lone as lone
use Rattle.laws.proofs.Firsts.{shown}

absent-last : (k : ℕ) (ks : List ℕ) → absent k (ks ++ (k ∷ [])) ≡ false
unfolding absent all
absent-last k [] = rw (eq-eqb k k refl)
absent-last k (x ∷ ks) = go (not (eqb k x)) (absent-last k ks)
  where
    go : (b : Bool) → absent k (ks ++ (k ∷ [])) ≡ false → (b && absent k (ks ++ (k ∷ []))) ≡ false
    go true ih = ih
    go false ih = refl

module _ {A : Type 0} (f : A → ℕ) (k : ℕ) where
  abbrev out : A → Bool
  out x = eqb (f x) k

  none_left : (l : List A) → absent k (map f (without out l)) ≡ true
  none_left l = ap (absent k) (map-without f (λ (i : ℕ). eqb i k) l) ∙ lone.gone k (map f l)

  fewer-left : (l : List A) → absent k (map f l) ≡ false → length (without out l) < length l
  unfolding absent all
  fewer-left [] e = absurd (true≢false e)
  fewer-left (x ∷ l) e = go (eqb (f x) k) refl (fewer-left l)
    where
      go : (b : Bool) → eqb (f x) k ≡ b → (absent k (map f l) ≡ false → length (without out l) < length l) → length (unless b x (without out l)) < length (x ∷ l)
      go true q ih = omega (arith, length_without out l)
      go false q ih =
          let other : not (eqb k (f x)) ≡ true = ap not (lone.flip (f x) k q) in
          let rest : absent k (map f l) ≡ false = rw other at e in
          omega (arith, ih rest)

  pub behind : (l : List A) (x : A) → f x ≡ k → absent k (map f (l ++ (x ∷ []))) ≡ false
  behind l x q = ap (absent k) (map-append f l (x ∷ []) ∙ ap (λ (i : ℕ). map f l ++ (i ∷ [])) q) ∙ absent-last k (map f l)

  pub fewer : (n : ℕ) (l : List A) (most : ℕ) → n ≤ most → absent k (map f (take n l)) ≡ false → length (without out (take n l)) < most
  fewer n l most h e = omega (arith, fewer-left (take n l) e, length-take n l)

  -- of a table: n of l count, z is an unused place
  module _ (z : A) (n : ℕ) (l : List A) where
    abbrev now : List A
    now = without out (take n l)

    pub gone : absent k (map f (take (length now) (put_first z n now l))) ≡ true
    gone = ap (λ (x : List A). absent k (map f x)) (shown z n l now) ∙ none_left (take n l)

    module _ (x : A) where
      abbrev items : List A
      items = put_first z n now l

      pub at-the-end : take (length now + 1) (put_first z (length now) (take (length now) items ++ (x ∷ [])) items) ≡ now ++ (x ∷ [])
      at-the-end =
          let e = shown z n l now in
          let m : length (take (length now) items ++ (x ∷ [])) ≡ length now + 1 =
          length-append (take (length now) items) (x ∷ []) ∙ ap (λ (y : List A). length y + 1) e in
          ap (λ (i : ℕ). take i (put_first z (length now) (take (length now) items ++ (x ∷ [])) items)) (sym m)
          ∙ shown z (length now) items (take (length now) items ++ (x ∷ []))
          ∙ ap (λ (y : List A). y ++ (x ∷ [])) e
