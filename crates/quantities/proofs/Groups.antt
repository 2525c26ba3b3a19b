-- A quantity by its number of bytes, and what is written of one is read back, whatever stands behind it.
use mathlib.Core.Bool.{Bool, true, false, cond}
use mathlib.Core.Path.{◌≡◌, refl, ap, ◌∙◌}
use mathlib.Core.List.{List, [], ◌∷◌, ◌++◌}
use mathlib.Core.Logic.{⊎_elim}
use Prim.Native.Nat.{ℕ, zero, suc, ◌+◌, ◌*◌, ◌-◌, ◌/◌, ◌%◌, ◌^◌, ◌≤◌, ◌<◌}
use native.Mathlib.Nat.{pow-suc}
use native.Mathlib.Numerals.{add-one}
use native.Mathlib.Omega.{arith}
use lib.Dec.{ltb, leb}
use lib.ListN.{length, take, drop}
use borrow.Author.Tests.{ltb-true, ltb-false, lt-ltb, le-ltb, le-leb, lt-leb}
use mir.Val.{bool_byte}
use Rattle.laws.proofs.Bools.{which}
use Rattle.std.specs.Prelude.{Option, Some}
use Rattle.quantities.specs.declared.Quantity.{Quantity}
use Rattle.quantities.specs.Quantities.{quantity_bytes, quantity_top, followed, lowest1, lowest2, lowest3, lowest4, quantity_of, met, not_met, quantity_from, quantity_in}

-- ---- what is read is small
-- of u groups, each of seven bits
pub grows : (u v b : ℕ) → v < 128 ^ u → b < 128 → v * 128 + b < 128 ^ (u + 1)
grows u v b h k = rw (add-one, pow-suc) (omega arith)

pub small : (u v : ℕ) → u ≤ 3 → v < 128 ^ u → v < 2097152
small zero v h k = omega arith
small (suc zero) v h k = let l : v < 128 = k in omega arith
small (suc (suc zero)) v h k = let l : v < 16384 = k in omega arith
small (suc (suc (suc zero))) v h k = k
small (suc (suc (suc (suc u)))) v h k = absurd (omega arith)

-- ---- by the number of bytes
case-lt : {A : Type 0} (a b : ℕ) → (a < b → A) → (b ≤ a → A) → A
case-lt a b below above = ⊎_elim (λ e. below (ltb-true a b e)) (λ e. above (ltb-false a b e)) (which (ltb a b))

module _ (q : ℕ) where
  pub has1 : q < 128 → quantity_of q ≡ lowest1 q
  unfolding quantity_of
  has1 h = rw (lt-ltb q 128 h)

  pub has2 : 128 ≤ q → q < 16384 → quantity_of q ≡ lowest2 q
  unfolding quantity_of
  has2 g h = rw (le-ltb q 128 g, lt-ltb q 16384 h)

  pub has3 : 16384 ≤ q → q < 2097152 → quantity_of q ≡ lowest3 q
  unfolding quantity_of
  has3 g h = rw (le-ltb q 128 (omega arith), le-ltb q 16384 g, lt-ltb q 2097152 h)

  pub has4 : 2097152 ≤ q → quantity_of q ≡ lowest4 q
  unfolding quantity_of
  has4 g = rw (le-ltb q 128 (omega arith), le-ltb q 16384 (omega arith), le-ltb q 2097152 g)

-- one byte, and one more for each of the numbers from which on there is one
pub bytes_counted : (q : ℕ) → 1 + bool_byte (leb 128 q) + bool_byte (leb 16384 q) + bool_byte (leb 2097152 q) ≡ length (quantity_of q)
bytes_counted q = case-lt q 128 one (λ a. case-lt q 16384 (two a) (λ b. case-lt q 2097152 (three b) four))
  where
    Counted : Type 0
    Counted = 1 + bool_byte (leb 128 q) + bool_byte (leb 16384 q) + bool_byte (leb 2097152 q) ≡ length (quantity_of q)

    one : q < 128 → Counted
    one h = rw (has1 q h, lt-leb 128 q h, lt-leb 16384 q (omega arith), lt-leb 2097152 q (omega arith))

    two : 128 ≤ q → q < 16384 → Counted
    two g h = rw (has2 q g h, le-leb 128 q g, lt-leb 16384 q h, lt-leb 2097152 q (omega arith))

    three : 16384 ≤ q → q < 2097152 → Counted
    three g h = rw (has3 q g h, le-leb 128 q (omega arith), le-leb 16384 q g, lt-leb 2097152 q h)

    four : 2097152 ≤ q → Counted
    four g = rw (has4 q g, le-leb 128 q (omega arith), le-leb 16384 q (omega arith), le-leb 2097152 q g)

-- all four groups, without those that the shortest form leaves out
pub lowest : (q : ℕ) → let left_out = 4 - length (quantity_of q) in take (4 - left_out) (drop left_out (lowest4 q)) ≡ quantity_of q
lowest q = case-lt q 128 one (λ a. case-lt q 16384 (two a) (λ b. case-lt q 2097152 (three b) four))
  where
    Lowest : Type 0
    Lowest = let left_out = 4 - length (quantity_of q) in take (4 - left_out) (drop left_out (lowest4 q)) ≡ quantity_of q

    one : q < 128 → Lowest
    one h = rw (has1 q h) refl

    two : 128 ≤ q → q < 16384 → Lowest
    two g h = rw (has2 q g h) refl

    three : 16384 ≤ q → q < 2097152 → Lowest
    three g h = rw (has3 q g h) refl

    four : 2097152 ≤ q → Lowest
    four g = rw (has4 q g) refl

-- ---- read back
ends : (k value used b : ℕ) (l : List ℕ) → b < 128 → quantity_from (suc k) value used (b ∷ l) ≡ met (value * 128 + b) (used + 1)
unfolding quantity_from
ends k value used b l h = rw (lt-ltb b 128 h)

goes_on : (k value used g : ℕ) (l : List ℕ) → quantity_from (suc k) value used (followed g ∷ l) ≡ quantity_from k (value * 128 + g) (used + 1) l
unfolding quantity_from
goes_on k value used g l = let e : (128 + g) - 128 ≡ g = omega arith in rw (le-ltb (128 + g) 128 (omega arith), e)

says : {v w : ℕ} (used : ℕ) → v ≡ w → met v used ≡ met w used
says used e = ap (λ (x : ℕ). met x used) e

module _ (q : ℕ) (l : List ℕ) where
  back1 : q < 128 → quantity_in (lowest1 q ++ l) ≡ met q 1
  back1 h = ends 3 0 0 (q % 128) l (omega arith) ∙ says 1 (omega arith)

  back2 : q < 16384 → quantity_in (lowest2 q ++ l) ≡ met q 2
  back2 h = goes_on 3 0 0 _ _ ∙ ends 2 _ 1 (q % 128) l (omega arith) ∙ says 2 (omega arith)

  back3 : q < 2097152 → quantity_in (lowest3 q ++ l) ≡ met q 3
  back3 h = goes_on 3 0 0 _ _ ∙ goes_on 2 _ 1 _ _ ∙ ends 1 _ 2 (q % 128) l (omega arith) ∙ says 3 (omega arith)

  back4 : q < quantity_top → quantity_in (lowest4 q ++ l) ≡ met q 4
  back4 g =
      let h : q < 268435456 = g in
      let e : q / 2097152 % 128 ≡ q / 2097152 = omega arith in
      goes_on 3 0 0 _ _ ∙ goes_on 2 _ 1 _ _ ∙ goes_on 1 _ 2 _ _ ∙ ends 0 _ 3 (q % 128) l (omega arith) ∙ says 4 (omega arith)

  -- a quantity is read back, and as many bytes are taken for it as were written
  pub read_back : q < quantity_top → quantity_in (quantity_of q ++ l) ≡ met q (length (quantity_of q))
  read_back h = case-lt q 128 one (λ a. case-lt q 16384 (two a) (λ b. case-lt q 2097152 (three b) four))
    where
      one : q < 128 → quantity_in (quantity_of q ++ l) ≡ met q (length (quantity_of q))
      one a = rw (has1 q a) (back1 a)

      two : 128 ≤ q → q < 16384 → quantity_in (quantity_of q ++ l) ≡ met q (length (quantity_of q))
      two a b = rw (has2 q a b) (back2 b)

      three : 16384 ≤ q → q < 2097152 → quantity_in (quantity_of q ++ l) ≡ met q (length (quantity_of q))
      three a b = rw (has3 q a b) (back3 b)

      four : 2097152 ≤ q → quantity_in (quantity_of q ++ l) ≡ met q (length (quantity_of q))
      four a = rw (has4 q a) (back4 h)

-- ---- what is read of the bytes that are left
pub nothing_left : (k value used : ℕ) (l : List ℕ) → (0 < k → length l ≡ 0) → quantity_from k value used l ≡ not_met
unfolding quantity_from
nothing_left zero value used l h = refl
nothing_left (suc k) value used [] h = refl
nothing_left (suc k) value used (b ∷ l) h = let e = h (omega arith) in absurd (cc)

module _ (value used b : ℕ) (rest : List ℕ) (k : ℕ) {n : ℕ} {l : List ℕ} (one : k + 1 ≡ n) (is : l ≡ b ∷ rest) where
  pub at_last : b < 128 → quantity_from n value used l ≡ met (value * 128 + b) (used + 1)
  at_last h = rw (← one, is, add-one k) (ends k value used b rest h)

  pub at_more : 128 ≤ b → quantity_from n value used l ≡ quantity_from k (value * 128 + (b - 128)) (used + 1) rest
  unfolding quantity_from
  at_more h = rw (← one, is, add-one k) (rw (le-ltb b 128 h) refl)

-- ---- a quantity has a byte, and at most four
either : {A : Type 0} (P : A → Type 0) (t : Bool) (a b : A) → P a → P b → P (cond t a b)
either P true a b p q = p
either P false a b p q = q

pub quantity-size : (q : ℕ) → (0 < length (quantity_of q)) × (length (quantity_of q) ≤ quantity_bytes)
unfolding quantity_of
quantity-size q =
    let few : List ℕ → Type 0 = λ l. (0 < length l) × (length l ≤ quantity_bytes) in
    either few (ltb q 128) _ _ (omega arith, omega arith)
    (either few (ltb q 16384) _ _ (omega arith, omega arith) (either few (ltb q 2097152) _ _ (omega arith, omega arith) (omega arith, omega arith)))

-- ---- of a quantity that is read, the bytes that it takes are there, and are at least one
met-is : (v u : ℕ) (q : Quantity) → met v u ≡ Some q → u ≡ q.used
met-is v u q e = cc

quantity-there : (k value used : ℕ) (l : List ℕ) (q : Quantity) → quantity_from k value used l ≡ Some q → (used < q.used) × (q.used ≤ used + length l)
unfolding quantity_from
quantity-there zero value used l q h = absurd (cc)
quantity-there (suc k) value used [] q h = absurd (cc)
quantity-there (suc k) value used (b ∷ l) q h = go (ltb b 128) h (quantity-there k (value * 128 + (b - 128)) (used + 1) l q)
  where
    more : Option Quantity
    more = quantity_from k (value * 128 + (b - 128)) (used + 1) l

    go : (t : Bool) → cond t (met (value * 128 + b) (used + 1)) more ≡ Some q → (more ≡ Some q → (used + 1 < q.used) × (q.used ≤ used + 1 + length l))
        → (used < q.used) × (q.used ≤ used + length (b ∷ l))
    go true g ih = let e = met-is (value * 128 + b) (used + 1) q g in (omega arith, omega arith)
    go false g ih = let m = ih g in (omega arith, omega arith)

pub quantity-within : (l : List ℕ) (q : Quantity) → quantity_in l ≡ Some q → (0 < q.used) × (q.used ≤ length l)
quantity-within l q h = let w = quantity-there quantity_bytes 0 0 l q h in (w.0, omega (arith, w.1))

-- what stands behind a quantity that is read does not matter to it
quantity-goes : (k value used : ℕ) (l m : List ℕ) (q : Quantity) → quantity_from k value used l ≡ Some q → quantity_from k value used (l ++ m) ≡ Some q
unfolding quantity_from
quantity-goes zero value used l m q h = absurd (cc)
quantity-goes (suc k) value used [] m q h = absurd (cc)
quantity-goes (suc k) value used (b ∷ l) m q h = go (ltb b 128) h (quantity-goes k (value * 128 + (b - 128)) (used + 1) l m q)
  where
    more : List ℕ → Option Quantity
    more l = quantity_from k (value * 128 + (b - 128)) (used + 1) l

    go : (t : Bool) → cond t (met (value * 128 + b) (used + 1)) (more l) ≡ Some q → (more l ≡ Some q → more (l ++ m) ≡ Some q)
        → cond t (met (value * 128 + b) (used + 1)) (more (l ++ m)) ≡ Some q
    go true g ih = g
    go false g ih = ih g

pub quantity-alone : (l m : List ℕ) (q : Quantity) → quantity_in l ≡ Some q → quantity_in (l ++ m) ≡ Some q
quantity-alone l m q h = quantity-goes quantity_bytes 0 0 l m q h
