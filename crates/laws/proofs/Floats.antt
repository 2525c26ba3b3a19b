-- How large a float expression can get. `Within x n`: x is finite and at most n in size. Rounding keeps a whole bound up to
-- 2 ^ prec, since such an n is a value of the format and rounding keeps the order (`round-within`); the operations round once each.
use mathlib.Core.Path.{◌≡◌, refl, sym, ap, ◌∙◌, subst}
use mathlib.Core.Bool.{Bool, true, false, cond, ◌&&◌, ◌||◌, beq, true≢false}
use mathlib.Core.Logic.{⊎_elim}
use Prim.Native.Nat.{ℕ, zero, suc, ◌+◌, ◌-◌, ◌*◌, ◌/◌, ◌^◌, ◌≤◌, ◌<◌, min}
use native.Mathlib.Nat.{le_trans, le_of_eq, le_of_lt, mul-one, one-mul, zero-mul, mul_comm, mul_assoc, mul_right_comm, add-mul, mul-pos, mul-le-mul, mul-le-mul_right, le_of_mul-le-mul_right, div-le_of_le-mul, mul-mul-mul_comm, zero-lt-suc}
use native.Mathlib.Omega.{arith}
use lib.Dec.{T, ltb, eqb, eqb-suc-zero}
use lib.IntN.{ℤ, pos, negsuc, neg_ℤ, nat_abs}
use lib.Signed.{mag}
use borrow.Author.Tests.{ltb-true, eqb-true}
use lib.Ieee.{Float, nan, inf, fin, Format, prec, emax, low, up, down, unlike, odd, units, round, sum, add, mul, div, of_int, to_signed, le, lt, eq}
use lib.Ieee.Fits.{up_pos, down_pos, round_is}
use lib.Ieee.Exact.{HasValue}
use lib.Ieee.Back.{round_whole}
use lib.Ieee.Order.{round_mono}
use Rattle.laws.proofs.Bools.{which}

abbrev pub Within : Float → ℕ → Type 0
Within nan n = ⊥
Within (inf s) n = ⊥
Within (fin s m e) n = m * up e ≤ n * down e

-- ---- a sign is set on what is rounded without one
abbrev signed : Bool → Float → Float
signed s nan = nan
signed s (inf r) = inf s
signed s (fin r m e) = fin s m e

within_signed : (s : Bool) (x : Float) (n : ℕ) → Within x n → Within (signed s x) n
within_signed s nan n h = h
within_signed s (inf r) n h = h
within_signed s (fin r m e) n h = h

odd-signed : (d : ℕ) (s : Bool) (q k l : ℕ) → odd d s q k l ≡ signed s (odd d false q k l)
unfolding odd
odd-signed d s zero k l = refl
odd-signed d s (suc q) k l = refl

units-signed : (f : Format) (s : Bool) (q k : ℕ) → units f s q k ≡ signed s (units f false q k)
unfolding units
units-signed f s q k =
    ⊎_elim (λ h. rw h (odd-signed (suc (prec f)) s q k (low f))) (λ h. rw h) (which (ltb (q * 2 ^ k) (2 ^ (low f + suc (emax f)))))

round-signed : (f : Format) (s : Bool) (a c : ℕ) → round f s a c ≡ signed s (round f false a c)
round-signed f s a c = round_is f s a c ∙ units-signed f s _ _ ∙ ap (signed s) (sym (round_is f false a c))

-- ---- what is at most a whole number
or-le : (a b : ℕ) → T (ltb a b || (eqb a b && true)) → a ≤ b
or-le a b t =
    ⊎_elim
    (λ h. le_of_lt (ltb-true a b h))
    (λ h. ⊎_elim (λ k. le_of_eq (eqb-true a b k)) (λ k. absurd (neither h k t)) (which (eqb a b)))
    (which (ltb a b))
  where
    neither : ltb a b ≡ false → eqb a b ≡ false → T (ltb a b || (eqb a b && true)) → ⊥
    neither h k t = rw (h, k) at t

-- a fraction at most another, which is n
cross : (a e b d n : ℕ) → 0 < d → a * d ≤ b * e → b * 1 ≡ n * d → a ≤ n * e
cross a e b d n some h v =
    let same : b * e ≡ n * e * d = ap (λ (x : ℕ). x * e) (sym (mul-one b) ∙ v) ∙ mul_right_comm n d e in
    le_of_mul-le-mul_right (le_trans h (le_of_eq same)) some

le-within : (x y : Float) (n : ℕ) → T (le (signed false x) y) → HasValue y false n 1 → Within x n
unfolding le lt eq
le-within x nan n t v = absurd v
le-within x (inf r) n t v = absurd v
le-within nan (fin r k d) n t v = t
le-within (inf s) (fin r k d) n t v = t
le-within (fin s m e) (fin true k d) n t v = absurd (true≢false v.0)
le-within (fin s m e) (fin false k d) n t v =
    cross (m * up e) (down e) (k * up d) (down d) n (down_pos d) (or-le (m * up e * down d) (k * up d * down e) t) v.1

pub round-within : (f : Format) (s : Bool) (a c n : ℕ) → 0 < c → a ≤ n * c → n ≤ 2 ^ prec f → Within (round f s a c) n
round-within f s a c n C h k =
    let x = round f false a c in
    let y = round f false n 1 in
    let below = round_mono f a c n 1 C (zero-lt-suc 0) (omega arith) in
    rw (round-signed f s a c)
    (within_signed s x n (le-within x y n (subst (λ (u : Float). T (le u y)) (round-signed f false a c) below) (round_whole f false n k)))

-- ---- the operations
pub of_int-within : (f : Format) (z : ℤ) → nat_abs z ≤ 2 ^ prec f → Within (of_int f z) (nat_abs z)
unfolding of_int
of_int-within f (pos n) h = round-within f false n 1 n (zero-lt-suc 0) (le_of_eq (sym (mul-one n))) h
of_int-within f (negsuc n) h = round-within f true (suc n) 1 (suc n) (zero-lt-suc 0) (le_of_eq (sym (mul-one (suc n)))) h

pub mul-within : (f : Format) (x y : Float) (a b : ℕ) → Within x a → Within y b → a * b ≤ 2 ^ prec f → Within (mul f x y) (a * b)
unfolding mul
mul-within f nan y a b p q h = p
mul-within f (inf s) y a b p q h = absurd p
mul-within f (fin s m e) nan a b p q h = q
mul-within f (fin s m e) (inf t) a b p q h = absurd q
mul-within f (fin s m e) (fin t n d) a b p q h =
    round-within f (unlike s t) (m * up e * (n * up d)) (down e * down d) (a * b) (mul-pos (down_pos e) (down_pos d))
    (le_trans (mul-le-mul p q) (le_of_eq (mul-mul-mul_comm a (down e) b (down d)))) h

cond-within : (t : Bool) (x y : Float) (n : ℕ) → Within x n → Within y n → Within (cond t x y) n
cond-within true x y n p q = p
cond-within false x y n p q = q

pub add-within : (f : Format) (x y : Float) (a b : ℕ) → Within x a → Within y b → a + b ≤ 2 ^ prec f → Within (add f x y) (a + b)
unfolding add sum
add-within f nan y a b p q h = p
add-within f (inf s) y a b p q h = absurd p
add-within f (fin s m e) nan a b p q h = q
add-within f (fin s m e) (inf t) a b p q h = absurd q
add-within f (fin s m e) (fin t n d) a b p q h =
    let A = m * up e * down d in
    let B = n * up d * down e in
    let C = down e * down d in
    let cp : 0 < C = mul-pos (down_pos e) (down_pos d) in
    let x : A ≤ a * C = le_trans (mul-le-mul_right (down d) p) (le_of_eq (mul_assoc a (down e) (down d))) in
    let y : B ≤ b * C = le_trans (mul-le-mul_right (down e) q) (le_of_eq (mul_assoc b (down d) (down e) ∙ ap (λ (z : ℕ). b * z) (mul_comm (down d) (down e)))) in
    let z : (a + b) * C ≡ a * C + b * C = add-mul a b C in
    cond-within (beq s t) _ _ (a + b) (round-within f s (A + B) C (a + b) cp (omega arith) h)
    (cond-within (ltb A B) _ _ (a + b) (round-within f t (B - A) C (a + b) cp (omega arith) h) (round-within f (s && ltb B A) (A - B) C (a + b) cp (omega arith) h))

-- a whole number by another that is no smaller
pub div-within : (f : Format) (x y : Float) (j l : ℕ) → HasValue x false j 1 → HasValue y false l 1 → j ≤ l → 0 < l → 1 ≤ 2 ^ prec f → Within (div f x y) 1
unfolding div
div-within f nan y j l p q h k o = absurd p
div-within f (inf s) y j l p q h k o = absurd p
div-within f (fin s m e) nan j l p q h k o = absurd q
div-within f (fin s m e) (inf t) j l p q h k o = absurd q
div-within f (fin s m e) (fin t zero d) j l p q h k o = let z = mul-pos k (down_pos d) in let y = zero-mul (up d) in let v = q.1 in absurd (omega arith)
div-within f (fin s m e) (fin t (suc n) d) j l p q h k o =
    let a : m * up e ≡ j * down e = sym (mul-one (m * up e)) ∙ p.1 in
    let b : suc n * up d ≡ l * down d = sym (mul-one (suc n * up d)) ∙ q.1 in
    let g : m * up e * down d ≤ 1 * (suc n * up d * down e) = rw (a, b, one-mul (l * down d * down e)) (le_trans (mul-le-mul_right (down d) (mul-le-mul_right (down e) h)) (le_of_eq (mul_right_comm l (down e) (down d)))) in
    rw (eqb-suc-zero n) (round-within f (unlike s t) (m * up e * down d) (suc n * up d * down e) 1 (mul-pos (mul-pos (zero-lt-suc n) (up_pos d)) (down_pos e)) g o)

-- ---- cut toward zero
cut-le : (a d n : ℕ) → 0 < d → a ≤ n * d → a / d ≤ n
cut-le a d n D h = div-le_of_le-mul d (le_trans h (le_of_eq (mul_comm n d)))

either_mag : (t : Bool) (a b : ℕ) (n : ℕ) → a ≤ n → b ≤ n → mag (cond t (neg_ℤ (pos a)) (pos b)) ≤ n
either_mag true zero b n h k = omega arith
either_mag true (suc a) b n h k = omega arith
either_mag false a b n h k = k

pub to_signed-within : (h : ℕ) (x : Float) (n : ℕ) → Within x n → mag (to_signed h x) ≤ n
unfolding to_signed
to_signed-within h nan n p = absurd p
to_signed-within h (inf s) n p = absurd p
to_signed-within h (fin s m e) n p =
    let c = cut-le (m * up e) (down e) n (down_pos e) p in
    either_mag s (min (m * up e / down e) (2 ^ h)) (min (m * up e / down e) (2 ^ h - 1)) n (omega arith) (omega arith)

-- a bound may be widened
pub within_more : (x : Float) {n m : ℕ} → Within x n → n ≤ m → Within x m
within_more nan p h = p
within_more (inf s) p h = p
within_more (fin s k e) p h = le_trans p (mul-le-mul_right (down e) h)
