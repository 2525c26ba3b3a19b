-- How long a wave lasts: as long as its own triples where it is unchanged or Normal, else n steps.
use mathlib.Core.Path.{◌≡◌, refl, sym, ap}
use mathlib.Core.Bool.{true, false}
use mathlib.Core.List.{List}
use Prim.Native.Nat.{ℕ}
use native.Mathlib.Omega.{arith}
use borrow.Author.Tests.{eq-eqb, ne_eqb}
use Rattle.offers.specs.declared.Piece.{Piece}
use Rattle.offers.specs.declared.Mode.{Mode}
use Rattle.offers.specs.declared.Mode.TheVariants.{Normal, Expand, Repeat}
use Rattle.offers.specs.Pieces.{total}
use Rattle.offers.specs.Waves.{triples_of, unchanged}
use Rattle.offers.proofs.Starting.{long}

own : (m : Mode) (ts : List Piece) (n : ℕ) → unchanged ts n ≡ true → triples_of m ts n ≡ ts
unfolding triples_of
own Normal ts n e = refl
own Expand ts n e = rw e
own Repeat ts n e = rw e

not-expand : Expand ≡ Normal → ⊥
not-expand e = let z : ◌≡◌ {A = ℕ} 0 1 = cc in omega arith

not-repeat : Repeat ≡ Normal → ⊥
not-repeat e = let z : ◌≡◌ {A = ℕ} 0 1 = cc in omega arith

module _ (m : Mode) (ts : List Piece) (n : ℕ) where
  pub lasts-none : n ≡ 0 → total ts ≡ total (triples_of m ts n)
  lasts-none e = sym (ap total (own m ts n (rw (eq-eqb n 0 e))))

  pub lasts-empty : (n ≡ 0 → ⊥) → total ts ≡ 0 → total ts ≡ total (triples_of m ts n)
  lasts-empty h e = sym (ap total (own m ts n (rw (ne_eqb n 0 h, eq-eqb (total ts) 0 e))))

module _ (ts : List Piece) (n : ℕ) where
  pub lasts-normal : total ts ≡ total (triples_of Normal ts n)
  unfolding triples_of
  lasts-normal = refl

  module _ (h : n ≡ 0 → ⊥) (k : total ts ≡ 0 → ⊥) where
    changed : unchanged ts n ≡ false
    changed = rw (ne_eqb n 0 h, ne_eqb (total ts) 0 k)

    pub lasts-expand : n ≡ total (triples_of Expand ts n)
    lasts-expand = sym (long Expand ts n changed not-expand)

    pub lasts-repeat : n ≡ total (triples_of Repeat ts n)
    lasts-repeat = sym (long Repeat ts n changed not-repeat)
