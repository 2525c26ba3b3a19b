-- The points of a piece, one after the other: jumping by the frequency gives each step that it divides.
use mathlib.Core.Path.{◌≡◌, ap, ◌∙◌}
use mathlib.Core.List.{List, [], ◌∷◌}
use mathlib.Core.Logic.{⊎_elim}
use Prim.Native.Nat.{ℕ, zero, suc, ◌+◌, ◌-◌, ◌≤◌, ◌<◌}
use native.Mathlib.Nat.{div-eq-sub-div, div-eq_of_lt}
use native.Mathlib.Omega.{arith}
use borrow.Author.Tests.{leb-true, leb-false}
use lib.Dec.{leb}
use Rattle.laws.proofs.Bools.{which}
use Rattle.offers.specs.declared.Piece.{Piece}
use Rattle.values.specs.declared.Offer.{Offer}
use Rattle.offers.specs.Pieces.{steps, points, point_at}

-- one step, and those that begin l later
pub steps-one : (g l : ℕ) → 0 < g → 0 < l → steps g l ≡ suc (steps (g - l) l)
unfolding steps
steps-one zero l p h = absurd (omega arith)
steps-one (suc d) l p h =
    ⊎_elim
    (λ b. let k = leb-true l d b in let e : suc d - l ≡ suc (d - l) = omega arith in rw e (omega (arith, div-eq-sub-div h k)))
    (λ b. let k = leb-false l d b in let e : suc d - l ≡ 0 = omega arith in rw e (ap suc (div-eq_of_lt (omega arith))))
    (which (leb l d))

module _ (f at : ℕ) (t : Piece) (k : ℕ) where
  -- the points that are left from step j on
  abbrev pub left : ℕ → List Offer
  left j = points f at t (steps (k - j) f) j

  pub left-more : (j : ℕ) → j < k → 0 < f → left j ≡ point_at at t j ∷ left (j + f)
  unfolding points
  left-more j h p =
      let e : (k - j) - f ≡ k - (j + f) = omega arith in
      rw (steps-one (k - j) f (omega arith) p, e)

  pub left-none : (j : ℕ) → k ≤ j → left j ≡ []
  unfolding points steps
  left-none j h = let e : k - j ≡ 0 = omega arith in rw e

  pub left-all : left 0 ≡ points f at t (steps k f) 0
  left-all = let e : k - 0 ≡ k = omega arith in rw e

-- a count that is not 0
pub steps-suc : (g f n : ℕ) → 0 < f → suc n ≡ steps g f → (0 < g) × (n ≡ steps (g - f) f)
unfolding steps
steps-suc zero f n p e = absurd (omega arith)
steps-suc (suc g) f n p e =
    let s = steps-one (suc g) f (omega arith) p in
    (omega arith, omega (arith, e ∙ s))
