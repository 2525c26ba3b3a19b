-- A number and the same some steps later.
--     le_up     not before
--     lt_up     fewer steps later is earlier
--     up_none   no step
--     not-both  nothing is at or after a number and before it
use mathlib.Core.Path.{◌≡◌, refl, ap, ◌∙◌}
use mathlib.Core.Bool.{Bool, true, false, cond, ◌&&◌}
use Prim.Native.Nat.{ℕ, suc, ◌+◌, ◌-◌, ◌<◌}
use native.Mathlib.Omega.{arith}
use borrow.Author.Tests.{le-leb, lt-ltb, ltb-true, ltb-false, leb-true, le-ltb}
use lib.Dec.{leb, ltb}
use lib.IntN.{ℤ, pos, negsuc, ◌+ℤ◌}
use lib.Signed.{le_z, lt_z}

pub le_up : (z : ℤ) (j : ℕ) → le_z z (z +ℤ pos j) ≡ true
le_up (pos a) j = le-leb a (a + j) (omega arith)
le_up (negsuc a) j = go (ltb j (suc a)) refl
  where
    go : (t : Bool) → ltb j (suc a) ≡ t → le_z (negsuc a) (cond t (negsuc (suc a - suc j)) (pos (j - suc a))) ≡ true
    go true e = le-leb (suc a - suc j) a (omega arith)
    go false e = refl

pub lt_up : (z : ℤ) (j k : ℕ) → j < k → lt_z (z +ℤ pos j) (z +ℤ pos k) ≡ true
lt_up (pos a) j k h = lt-ltb (a + j) (a + k) (omega arith)
lt_up (negsuc a) j k h = go (ltb j (suc a)) refl (ltb k (suc a)) refl
  where
    go : (s : Bool) → ltb j (suc a) ≡ s → (t : Bool) → ltb k (suc a) ≡ t
        → lt_z (cond s (negsuc (suc a - suc j)) (pos (j - suc a))) (cond t (negsuc (suc a - suc k)) (pos (k - suc a))) ≡ true
    go true e true f = let p = ltb-true k (suc a) f in lt-ltb (suc a - suc k) (suc a - suc j) (omega arith)
    go true e false f = refl
    go false e true f = let p = ltb-true k (suc a) f in let q = ltb-false j (suc a) e in absurd (omega arith)
    go false e false f = let q = ltb-false j (suc a) e in lt-ltb (j - suc a) (k - suc a) (omega arith)

pub up_none : (z : ℤ) → z +ℤ pos 0 ≡ z
up_none (pos a) = ap pos (omega arith)
up_none (negsuc a) = let e : ltb 0 (suc a) ≡ true = lt-ltb 0 (suc a) (omega arith) in ap (λ (t : Bool). cond t (negsuc (suc a - 1)) (pos (0 - suc a))) e ∙ ap negsuc (omega arith)

pub not-both : (z t : ℤ) → (le_z z t && lt_z t z) ≡ false
not-both (pos a) (pos b) = go (leb a b) refl
  where
    go : (s : Bool) → leb a b ≡ s → (s && ltb b a) ≡ false
    go true e = let h = leb-true a b e in le-ltb b a (omega arith)
    go false e = refl
not-both (pos a) (negsuc b) = refl
not-both (negsuc a) (pos b) = refl
not-both (negsuc a) (negsuc b) = go (leb b a) refl
  where
    go : (s : Bool) → leb b a ≡ s → (s && ltb a b) ≡ false
    go true e = let h = leb-true b a e in le-ltb a b (omega arith)
    go false e = refl
