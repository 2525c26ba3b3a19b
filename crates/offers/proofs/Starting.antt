-- A source that starts has to give exactly the triples of its mode; and how long those last.
use mathlib.Core.Path.{◌≡◌, refl, sym, ap, ap₂, ◌∙◌}
use mathlib.Core.Bool.{Bool, true, false, ◌||◌, true≢false}
use mathlib.Core.List.{List, [], ◌∷◌, ◌++◌}
use mathlib.Core.Logic.{⊎_elim}
use Prim.Native.Nat.{ℕ, zero, suc, ◌+◌, ◌-◌, ◌*◌, ◌/◌, ◌≤◌, ◌<◌, min, ◌^◌}
use native.Mathlib.Nat.{div-mul-le_self, mul_comm, mul-add, le_refl, mul-sub, le_of_mul-le-mul_right}
use native.Mathlib.Omega.{arith}
use borrow.Author.Tests.{eqb-true}
use lib.Dec.{eqb}
use lib.ListN.{length}
use Rattle.laws.proofs.Bools.{which}
use Rattle.offers.specs.declared.Piece.{Piece}
use Rattle.offers.specs.declared.Mode.{Mode}
use Rattle.offers.specs.declared.Mode.TheVariants.{Normal, Expand, Repeat}
use Rattle.offers.specs.Pieces.{total}
use Rattle.offers.specs.Waves.{expand, fill, rounds, around, triples_of, unchanged}
use Rattle.offers.specs.Sources.{rest_by, rest_of, Sound, starting_at}
use Rattle.offers.proofs.Sources.{around-more, clash}

-- ---- a wave that is not used unchanged has steps to fill, and something to fill them with
neither : (a b : Bool) → a || b ≡ false → (a ≡ false) × (b ≡ false)
neither true b e = absurd (true≢false e)
neither false b e = (refl, e)

above : (n : ℕ) → eqb n 0 ≡ false → 0 < n
above zero e = absurd (true≢false e)
above (suc n) e = omega arith

pub some : (n t : ℕ) → eqb n 0 || eqb t 0 ≡ false → (0 < n) × (0 < t)
some n t e = let q = neither (eqb n 0) (eqb t 0) e in (above n q.0, above t q.1)

pub start_gives : (m : Mode) (ts : List Piece) (n : ℕ) → rest_of ts (starting_at m ts n) ≡ triples_of m ts n
unfolding rest_by triples_of starting_at
start_gives m ts n = ⊎_elim (λ e. plain m e) (λ e. filled m e) (which (unchanged ts n))
  where
    plain : (m : Mode) → unchanged ts n ≡ true → rest_of ts (starting_at m ts n) ≡ triples_of m ts n
    plain Normal e = rw e
    plain Expand e = rw e
    plain Repeat e = rw e

    filled : (m : Mode) → unchanged ts n ≡ false → rest_of ts (starting_at m ts n) ≡ triples_of m ts n
    filled Normal e = rw e
    filled Expand e = rw e
    filled Repeat e = rw e (sym (around-more ts n (some n (total ts) e).1))

-- ---- how long the triples of each mode last
pub total-append : (a b : List Piece) → total (a ++ b) ≡ total a + total b
unfolding total
total-append [] b = omega arith
total-append (t ∷ a) b = omega (arith, total-append a b)

pub total-fill : (ts : List Piece) (n : ℕ) → total (fill ts n) ≡ min (total ts) n
unfolding total fill
total-fill [] n = omega arith
total-fill (t ∷ ts) n =
    let rest = total-fill ts (n - t.len) in
    ⊎_elim
    (λ b. let none = eqb-true n 0 b in rw b (omega arith))
    (λ b. let some = above n b in rw b (omega arith))
    (which (eqb n 0))

-- as many rounds as there are steps fill them all
full : (ts : List Piece) → 0 < total ts → (k n : ℕ) → n ≤ k → total (rounds k ts n) ≡ n
unfolding rounds total
full ts some zero n p = omega arith
full ts some (suc k) n p =
    let left = n - total ts in
    total-append (fill ts n) (rounds k ts left) ∙ omega (arith, total-fill ts n, full ts some k left (omega arith))

pub total-around : (ts : List Piece) (n : ℕ) → 0 < total ts → total (around ts n) ≡ n
total-around ts n some = full ts some n n (omega arith)

-- a part of n, as great as a part of the total, is not more than what is left
pub part-le : (len n tot r rest : ℕ) → 0 < tot → n * (len + rest) ≤ r * tot → (len * n / tot ≤ r) × (n * rest ≤ (r - len * n / tot) * tot)
part-le len n tot r rest some p =
    let f = len * n / tot in
    let floor = div-mul-le_self (len * n) tot in
    let both = mul-add n len rest ∙ ap (λ (x : ℕ). x + n * rest) (mul_comm n len) in
    let less : (r - f) * tot ≡ r * tot - f * tot = mul_comm (r - f) tot ∙ mul-sub tot r f ∙ ap₂ (λ (x y : ℕ). x - y) (mul_comm tot r) (mul_comm tot f) in
    let under : f * tot ≤ r * tot = omega arith in
    (le_of_mul-le-mul_right under some, omega arith)

pub total-expand : (n tot r : ℕ) (t : Piece) (us : List Piece) → 0 < tot → n * total (t ∷ us) ≤ r * tot → total (expand n tot r (t ∷ us)) ≡ r
unfolding expand total
total-expand n tot r t [] h p = omega arith
total-expand n tot r t (u ∷ us) h p =
    let q = part-le t.len n tot r (total (u ∷ us)) h p in
    omega (arith, q.0, total-expand n tot (r - t.len * n / tot) u us h q.1)

pub no_length : 0 < total [] → ⊥
unfolding total
no_length q = absurd (omega arith)

-- a wave lasts n steps, and one that is unchanged its own
pub long : (m : Mode) (ts : List Piece) (n : ℕ) → unchanged ts n ≡ false → (m ≡ Normal → ⊥) → total (triples_of m ts n) ≡ n
unfolding triples_of
long Normal ts n e h = absurd (h refl)
long Repeat ts n e h = rw e (total-around ts n (some n (total ts) e).1)
long Expand [] n e h = absurd (no_length (some n (total []) e).1)
long Expand (t ∷ us) n e h = rw e (total-expand n (total (t ∷ us)) n t us (some n (total (t ∷ us)) e).1 (le_refl (n * total (t ∷ us))))

any : (ts : List Piece) → 0 < total ts → 0 < length ts
any [] h = absurd (no_length h)
any (t ∷ ts) h = omega arith

-- ---- it is in order
pub start-sound : (m : Mode) (ts : List Piece) (n : ℕ) → n < 2 ^ 32 → Sound ts (starting_at m ts n)
unfolding starting_at
start-sound m ts n small = ⊎_elim (λ e. plain e) (λ e. filled e (some n (total ts) e).1) (which (unchanged ts n))
  where
    plain : unchanged ts n ≡ true → Sound ts (starting_at m ts n)
    plain e = rw e (record { inside = omega arith; turns = λ q. absurd (clash q); some = λ q. absurd (clash q); parts = omega arith; small = omega arith })

    filled : unchanged ts n ≡ false → 0 < total ts → Sound ts (starting_at m ts n)
    filled e t = rw e (record { inside = omega arith; turns = λ q. any ts t; some = λ q. t; parts = t; small = small })
