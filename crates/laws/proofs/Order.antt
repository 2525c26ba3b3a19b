-- Signed numbers by size, as the stable sort asks it of an order: one way only, and `not after` goes through. Numbers that are moved
-- by as much stand as they stood (`lt-moved`, `le-moved`); a difference is asked of a sum (`le_from`, `le-until`, `lt-until`).
use mathlib.Core.Bool.{Bool, true, false, not, true≢false}
use mathlib.Core.Path.{◌≡◌, refl, sym, ap, ap₂, ◌∙◌}
use mathlib.Core.Logic.{⊎_elim}
use Prim.Native.Nat.{ℕ, zero, suc}
use native.Mathlib.Omega.{arith}
use lib.IntN.{ℤ, pos, negsuc, suc_ℤ, ◌+ℤ◌, ◌-ℤ◌, +ℤ_idl, +ℤ_idr, +ℤ-suc_ℤ, +ℤ_comm, +ℤ-neg_ℤ_cancel, -ℤ-+ℤ_cancel}
use lib.Dec.{ltb}
use lib.Signed.{lt_z, le_z}
use borrow.Author.Tests.{ltb-true, ltb-false, le-ltb, lt-ltb, leb-true, leb-false, lt-leb}
use Rattle.laws.proofs.Bools.{which}

pub lt_z-asym : (a b : ℤ) → lt_z a b ≡ true → lt_z b a ≡ false
lt_z-asym (pos a) (pos b) h = le-ltb b a (let k = ltb-true a b h in omega arith)
lt_z-asym (pos a) (negsuc b) h = cc
lt_z-asym (negsuc a) (pos b) h = refl
lt_z-asym (negsuc a) (negsuc b) h = le-ltb a b (let k = ltb-true b a h in omega arith)

-- a ≤ b ≤ c
pub nlt_z-trans : (a b c : ℤ) → lt_z b a ≡ false → lt_z c b ≡ false → lt_z c a ≡ false
nlt_z-trans (pos a) (pos b) (pos c) h k = le-ltb c a (let p = ltb-false b a h in let q = ltb-false c b k in omega arith)
nlt_z-trans (pos a) (pos b) (negsuc c) h k = k
nlt_z-trans (pos a) (negsuc b) (pos c) h k = cc
nlt_z-trans (pos a) (negsuc b) (negsuc c) h k = h
nlt_z-trans (negsuc a) (pos b) (pos c) h k = refl
nlt_z-trans (negsuc a) (pos b) (negsuc c) h k = cc
nlt_z-trans (negsuc a) (negsuc b) (pos c) h k = refl
nlt_z-trans (negsuc a) (negsuc b) (negsuc c) h k = le-ltb a c (let p = ltb-false a b h in let q = ltb-false b c k in omega arith)

pub lt_z-irrefl : (a : ℤ) → lt_z a a ≡ false
lt_z-irrefl (pos a) = le-ltb a a (omega arith)
lt_z-irrefl (negsuc a) = le-ltb a a (omega arith)

-- below, and not below
pub lt_not_le : (a b : ℤ) → lt_z a b ≡ true → le_z b a ≡ false
lt_not_le (pos a) (pos b) h = lt-leb b a (ltb-true a b h)
lt_not_le (pos a) (negsuc b) h = cc
lt_not_le (negsuc a) (pos b) h = refl
lt_not_le (negsuc a) (negsuc b) h = lt-leb a b (ltb-true b a h)

pub le_not_lt : (a b : ℤ) → le_z a b ≡ true → lt_z b a ≡ false
le_not_lt (pos a) (pos b) h = le-ltb b a (leb-true a b h)
le_not_lt (pos a) (negsuc b) h = cc
le_not_lt (negsuc a) (pos b) h = refl
le_not_lt (negsuc a) (negsuc b) h = le-ltb a b (leb-true b a h)

pub nle-lt : (a b : ℤ) → le_z a b ≡ false → lt_z b a ≡ true
nle-lt (pos a) (pos b) e = lt-ltb b a (leb-false a b e)
nle-lt (pos a) (negsuc b) e = refl
nle-lt (negsuc a) (pos b) e = absurd (true≢false e)
nle-lt (negsuc a) (negsuc b) e = lt-ltb a b (leb-false b a e)

pub nlt-le : (a b : ℤ) → lt_z a b ≡ false → le_z b a ≡ true
nlt-le a b h = go (le_z b a) refl
  where
    go : (t : Bool) → le_z b a ≡ t → le_z b a ≡ true
    go true q = q
    go false q = absurd (true≢false (sym (nle-lt b a q) ∙ h))

pub lt-le : (a b : ℤ) → lt_z a b ≡ true → le_z a b ≡ true
lt-le a b h = nlt-le b a (lt_z-asym a b h)

-- a ≤ b < c
pub le_lt_trans : (a b c : ℤ) → le_z a b ≡ true → lt_z b c ≡ true → lt_z a c ≡ true
le_lt_trans a b c h k = go (lt_z a c) refl
  where
    go : (t : Bool) → lt_z a c ≡ t → lt_z a c ≡ true
    go true q = q
    go false q = absurd (true≢false (sym k ∙ nlt_z-trans c a b q (le_not_lt a b h)))

pub le_is : (a b : ℤ) → le_z a b ≡ not (lt_z b a)
le_is a b = go (lt_z b a) refl
  where
    go : (t : Bool) → lt_z b a ≡ t → le_z a b ≡ not t
    go true q = lt_not_le b a q
    go false q = nlt-le b a q

-- ---- moved by as much
ltb_next : (a b : ℕ) → ltb (suc a) (suc b) ≡ ltb a b
ltb_next a b =
    ⊎_elim
    (λ q. lt-ltb (suc a) (suc b) (let h = ltb-true a b q in omega arith) ∙ sym q)
    (λ q. le-ltb (suc a) (suc b) (let h = ltb-false a b q in omega arith) ∙ sym q)
    (which (ltb a b))

lt-next : (a b : ℤ) → lt_z (suc_ℤ a) (suc_ℤ b) ≡ lt_z a b
lt-next (pos a) (pos b) = ltb_next a b
lt-next (pos a) (negsuc zero) = le-ltb (suc a) 0 (omega arith)
lt-next (pos a) (negsuc (suc b)) = refl
lt-next (negsuc zero) (pos b) = lt-ltb 0 (suc b) (omega arith)
lt-next (negsuc (suc a)) (pos b) = refl
lt-next (negsuc zero) (negsuc zero) = refl
lt-next (negsuc zero) (negsuc (suc b)) = sym (le-ltb (suc b) 0 (omega arith))
lt-next (negsuc (suc a)) (negsuc zero) = sym (lt-ltb 0 (suc a) (omega arith))
lt-next (negsuc (suc a)) (negsuc (suc b)) = sym (ltb_next b a)

lt_up : (a b : ℤ) (n : ℕ) → lt_z (a +ℤ pos n) (b +ℤ pos n) ≡ lt_z a b
lt_up a b zero = ap₂ lt_z (+ℤ_idr a) (+ℤ_idr b)
lt_up a b (suc n) = ap₂ lt_z (+ℤ-suc_ℤ a (pos n)) (+ℤ-suc_ℤ b (pos n)) ∙ lt-next (a +ℤ pos n) (b +ℤ pos n) ∙ lt_up a b n

pub lt-moved : (a b k : ℤ) → lt_z (a +ℤ k) (b +ℤ k) ≡ lt_z a b
lt-moved a b (pos n) = lt_up a b n
lt-moved a b (negsuc n) =
    sym (lt_up (a +ℤ negsuc n) (b +ℤ negsuc n) (suc n)) ∙ ap₂ lt_z (+ℤ-neg_ℤ_cancel a (negsuc n)) (+ℤ-neg_ℤ_cancel b (negsuc n))

pub le-moved : (a b k : ℤ) → le_z (a +ℤ k) (b +ℤ k) ≡ le_z a b
le-moved a b k = le_is (a +ℤ k) (b +ℤ k) ∙ ap not (lt-moved b a k) ∙ sym (le_is a b)

-- ---- a difference, asked of a sum
pub le_from : (x c t : ℤ) → le_z t (x -ℤ c) ≡ le_z (c +ℤ t) x
le_from x c t = sym (le-moved t (x -ℤ c) c) ∙ ap₂ le_z (+ℤ_comm t c) (-ℤ-+ℤ_cancel x c)

pub lt-until : (x c t : ℤ) → lt_z (x -ℤ c) t ≡ lt_z x (c +ℤ t)
lt-until x c t = sym (lt-moved (x -ℤ c) t c) ∙ ap₂ lt_z (-ℤ-+ℤ_cancel x c) (+ℤ_comm t c)

pub le-until : (x c t : ℤ) → le_z (x -ℤ c) t ≡ le_z x (c +ℤ t)
le-until x c t = sym (le-moved (x -ℤ c) t c) ∙ ap₂ le_z (-ℤ-+ℤ_cancel x c) (+ℤ_comm t c)

-- c ≤ x: what is behind c is not below 0, and more is not less
pub not-less : (c t : ℤ) → le_z (pos 0) t ≡ true → le_z c (c +ℤ t) ≡ true
not-less c t h = sym (ap₂ le_z (+ℤ_idl c) (+ℤ_comm t c)) ∙ le-moved (pos 0) t c ∙ h

pub from_zero_lem : (x c : ℤ) → le_z c x ≡ true → le_z (pos 0) (x -ℤ c) ≡ true
from_zero_lem x c h = le_from x c (pos 0) ∙ ap (λ (z : ℤ). le_z z x) (+ℤ_idr c) ∙ h
