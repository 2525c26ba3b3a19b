-- Jumping by the frequency gives the steps that it divides: testing each step says the same.
use mathlib.Core.Path.{◌≡◌, sym, ap, ◌∙◌}
use mathlib.Core.Bool.{false, cond}
use mathlib.Core.List.{List, [], ◌∷◌}
use Prim.Native.Nat.{ℕ, zero, suc, ◌+◌, ◌-◌, ◌%◌, ◌<◌}
use native.Mathlib.Nat.{mod-add-mod, mod-eq_of_lt, mod_self, zero-add}
use native.Mathlib.Omega.{arith}
use borrow.Author.Tests.{eq-eqb, ne_eqb}
use lib.Dec.{eqb}
use Rattle.offers.specs.declared.Piece.{Piece}
use Rattle.values.specs.declared.Offer.{Offer}
use Rattle.offers.specs.Pieces.{steps, points, points_of, point_at}
use Rattle.offers.proofs.Stepping.{steps-one}

module _ (f at : ℕ) (t : Piece) (p : 0 < f) where
  -- m steps from step j on, each tested
  unfoldable pub tested : ℕ → ℕ → List Offer
  tested zero j = []
  tested (suc m) j = cond (eqb (j % f) 0) (point_at at t j ∷ tested m (suc j)) (tested m (suc j))

  next : (j : ℕ) → j % f ≡ 0 → (j + f) % f ≡ 0
  next j e = sym (mod-add-mod j f f) ∙ rw (e, zero-add) (mod_self f)

  -- short of the next step that the frequency divides, it divides none
  between : (j e : ℕ) → (j + suc e) % f ≡ 0 → suc e < f → eqb (j % f) 0 ≡ false
  between j e h k =
      ne_eqb (j % f) 0
      (λ (z : j % f ≡ 0).
      let q : (j + suc e) % f ≡ suc e = sym (mod-add-mod j f (suc e)) ∙ rw (z, zero-add) (mod-eq_of_lt k) in
      absurd (omega arith))

  one : (m j : ℕ) → points f at t (steps (suc m) f) j ≡ point_at at t j ∷ points f at t (steps (suc m - f) f) (j + f)
  unfolding points
  one m j = rw (steps-one (suc m) f (omega arith) p)

  -- the next one that it divides is d steps ahead
  ahead : (m d j : ℕ) → d < f → (j + d) % f ≡ 0 → tested m j ≡ points f at t (steps (m - d) f) (j + d)
  unfolding tested points steps
  ahead zero d j k h = let z : 0 - d ≡ 0 = omega arith in rw z
  ahead (suc m) zero j k h =
      let z : j + 0 ≡ j = omega arith in
      let e : j % f ≡ 0 = rw z at h in
      let w : suc j + (f - 1) ≡ j + f = omega arith in
      let l : m - (f - 1) ≡ suc m - f = omega arith in
      let n : suc m - 0 ≡ suc m = omega arith in
      let more = ahead m (f - 1) (suc j) (omega arith) (rw w (next j e)) in
      rw (n, z, eq-eqb (j % f) 0 e) (ap (λ (r : List Offer). point_at at t j ∷ r) (rw (w, l) at more) ∙ sym (one m j))
  ahead (suc m) (suc e) j k h =
      let w : suc j + e ≡ j + suc e = omega arith in
      let l : suc m - suc e ≡ m - e = omega arith in
      let more = ahead m e (suc j) (omega arith) (rw w h) in
      rw (between j e h k, l) (rw w at more)

  pub divided : (k : ℕ) → tested k 0 ≡ points_of f at t k
  divided k = let z : k - 0 ≡ k = omega arith in rw z at (ahead k 0 0 p (mod-eq_of_lt p))
