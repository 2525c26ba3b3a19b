-- A float that is zero, of either sign: `Within x 0`.
--     cut-zero   it is cut to 0
--     div-zero   zero by a whole number is one
--     add-zero   added to a whole number above 0 it leaves that number
use mathlib.Core.Path.{◌≡◌, sym, ap, ◌∙◌}
use mathlib.Core.Bool.{Bool, true, false, cond}
use Prim.Native.Nat.{ℕ, zero, suc, ◌-◌, ◌*◌, ◌/◌, ◌^◌, ◌≤◌, ◌<◌, min}
use native.Mathlib.Nat.{mul-one, zero-mul, mul-pos, mul_assoc, mul_comm, div-le_of_le-mul, zero-lt-suc}
use native.Mathlib.Omega.{arith}
use lib.Dec.{eqb-suc-zero}
use borrow.Author.Tests.{lt-ltb}
use lib.IntN.{pos, neg_ℤ}
use lib.Ieee.{Float, nan, inf, fin, Format, up, down, unlike, round, sum, add, div, to_signed}
use lib.Ieee.Fits.{up_pos, down_pos}
use lib.Ieee.Exact.{HasValue}
use lib.Ieee.Scale.{round_same}
use Rattle.laws.proofs.Floats.{Within, round-within}

-- what is at most 0 in size is cut to 0
pub cut-zero : (h : ℕ) (x : Float) → Within x 0 → to_signed h x ≡ pos 0
unfolding to_signed
cut-zero h nan p = absurd p
cut-zero h (inf s) p = absurd p
cut-zero h (fin s m e) p = go s (m * up e / down e) (div-le_of_le-mul (down e) (omega (arith, zero-mul (down e), p)))
  where
    go : (s : Bool) (q : ℕ) → q ≤ 0 → cond s (neg_ℤ (pos (min q (2 ^ h)))) (pos (min q (2 ^ h - 1))) ≡ pos 0
    go true q k = let z : min q (2 ^ h) ≡ 0 = omega arith in rw z
    go false q k = let z : min q (2 ^ h - 1) ≡ 0 = omega arith in rw z

-- zero by a whole number
pub div-zero : (f : Format) (x y : Float) (len : ℕ) → HasValue x false 0 1 → HasValue y false len 1 → 0 < len → Within (div f x y) 0
unfolding div
div-zero f nan y len p q k = absurd p
div-zero f (inf s) y len p q k = absurd p
div-zero f (fin s m e) nan len p q k = absurd q
div-zero f (fin s m e) (inf t) len p q k = absurd q
div-zero f (fin s m e) (fin t zero d) len p q k = let z = mul-pos k (down_pos d) in let y = zero-mul (up d) in let v = q.1 in absurd (omega arith)
div-zero f (fin s m e) (fin t (suc n) d) len p q k =
    let a : m * up e ≡ 0 = omega (arith, p.1, zero-mul (down e)) in
    rw (eqb-suc-zero n, a, zero-mul (down d))
    (round-within f (unlike s t) 0 (suc n * up d * down e) 0 (mul-pos (mul-pos (zero-lt-suc n) (up_pos d)) (down_pos e)) (omega arith) (omega arith))

-- a zero, of either sign, added to a number
sum-zero : (f : Format) (s t : Bool) (b c : ℕ) → 0 < b → sum f s 0 t b c ≡ round f t b c
unfolding sum
sum-zero f true true b c h = ap (λ (n : ℕ). round f true n c) (omega arith)
sum-zero f true false b c h = rw (lt-ltb 0 b h) (ap (λ (n : ℕ). round f false n c) (omega arith))
sum-zero f false true b c h = rw (lt-ltb 0 b h) (ap (λ (n : ℕ). round f true n c) (omega arith))
sum-zero f false false b c h = ap (λ (n : ℕ). round f false n c) (omega arith)

pub add-zero : (f : Format) (x y : Float) (s : Bool) (n : ℕ) → Within x 0 → 0 < n → HasValue y s n 1 → add f x y ≡ round f s n 1
unfolding add
add-zero f nan y s n p h v = absurd p
add-zero f (inf r) y s n p h v = absurd p
add-zero f (fin r m e) nan s n p h v = absurd v
add-zero f (fin r m e) (inf t) s n p h v = absurd v
add-zero f (fin r m e) (fin t k d) s n p h v =
    let a : m * up e ≡ 0 = omega (arith, zero-mul (down e), p) in
    let b : k * up d * down e ≡ n * (down e * down d) = ap (λ (z : ℕ). z * down e) (sym (mul-one (k * up d)) ∙ v.1) ∙ mul_assoc n (down d) (down e) ∙ ap (λ (z : ℕ). n * z) (mul_comm (down d) (down e)) in
    let c : 0 < down e * down d = mul-pos (down_pos e) (down_pos d) in
    rw (a, zero-mul (down d), b, v.0)
    (sum-zero f r s (n * (down e * down d)) (down e * down d) (mul-pos h c) ∙ round_same f s (n * (down e * down d)) (down e * down d) n 1 c (zero-lt-suc 0) (mul-one (n * (down e * down d))))
