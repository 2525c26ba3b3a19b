-- Times in order stay in order where the same delay is added to each.
use mathlib.Core.Path.{◌≡◌, refl, sym, ap, subst, ◌∙◌}
use mathlib.Core.Bool.{Bool, true, false, cond}
use mathlib.Core.List.{List, [], ◌∷◌, map}
use Prim.Native.Nat.{ℕ, suc, ◌+◌, ◌-◌}
use native.Mathlib.Omega.{arith}
use borrow.Author.Tests.{ltb-true}
use lib.Dec.{T, ltb, lt→ltb, ltb→lt}
use lib.IntN.{ℤ, pos, negsuc, ◌+ℤ◌}
use lib.Signed.{lt_z, ◌<ℤ◌, lt_z_yes}
use Rattle.laws.proofs.Differences.{subℕ-ge, subℕ-lt, swap}
use Rattle.cycles.specs.Due.{DueWrite}
use Rattle.cycles.specs.Promise.{InOrder}
use Rattle.series.specs.Events.{Rising}

-- x < y: y is so much more
above : (x y : ℤ) → T (lt_z x y) → (k : ℕ) × (y ≡ x +ℤ pos (suc k))
above (pos a) (pos b) t = (b - suc a, ap pos (omega (arith, ltb→lt a b t)))
above (pos a) (negsuc b) t = absurd t
above (negsuc a) (pos b) t = (a + b, sym (subℕ-ge (suc (a + b)) (suc a) (omega arith) ∙ ap pos (omega arith)))
above (negsuc a) (negsuc b) t = (a - suc b, sym (subℕ-lt (suc (a - suc b)) (suc a) (omega (arith, ltb→lt b a t)) ∙ ap negsuc (omega (arith, ltb→lt b a t))))

later : (z : ℤ) (k : ℕ) → T (lt_z z (z +ℤ pos (suc k)))
later (pos a) k = lt→ltb a (a + suc k) (omega arith)
later (negsuc a) k = go (ltb (suc k) (suc a)) refl
  where
    go : (b : Bool) → ltb (suc k) (suc a) ≡ b → T (lt_z (negsuc a) (cond b (negsuc (suc a - suc (suc k))) (pos (suc k - suc a))))
    go true e = lt→ltb (suc a - suc (suc k)) a (omega (arith, ltb-true (suc k) (suc a) e))
    go false e = tt

delayed : (d x y : ℤ) → x <ℤ y → (x +ℤ d) <ℤ (y +ℤ d)
delayed d x y h =
    let m = above x y h.lt in
    let e : y +ℤ d ≡ x +ℤ d +ℤ pos (suc m.0) = ap (λ (z : ℤ). z +ℤ d) m.1 ∙ swap x (pos (suc m.0)) d in
    subst (λ (z : ℤ). (x +ℤ d) <ℤ z) (sym e) (lt_z_yes (later (x +ℤ d) m.0))

pub rising : (d : ℤ) (ws : List DueWrite) → InOrder ws → Rising (map (λ (w : DueWrite). w.time +ℤ d) ws)
unfolding InOrder Rising
rising d [] h = tt
rising d (w ∷ []) h = tt
rising d (w ∷ x ∷ ws) h = (delayed d w.time x.time h.0, rising d (x ∷ ws) h.1)
