-- The triples of a wave stay in range where those of its list are: what a run asks is met.
use mathlib.Core.Path.{◌≡◌, refl, sym, ap, ◌∙◌}
use mathlib.Core.Bool.{Bool, true, false, true≢false}
use mathlib.Core.List.{List, [], ◌∷◌, ◌++◌}
use mathlib.Core.Logic.{⊎_elim}
use Prim.Native.Nat.{ℕ, zero, suc, ◌+◌, ◌-◌, ◌*◌, ◌/◌, ◌≤◌, ◌<◌, min, ◌^◌}
use native.Mathlib.Nat.{le_refl}
use native.Mathlib.Omega.{arith}
use lib.Dec.{eqb}
use lib.ListN.{length, get_or, drop, drop_of_length-le}
use lib.Seq.{drop-cons}
use native.Mathlib.Numerals.{add-one}
use Rattle.laws.proofs.Bools.{which}
use Rattle.offers.specs.declared.Piece.{Piece}
use Rattle.offers.specs.declared.Mode.{Mode}
use Rattle.offers.specs.declared.Mode.TheVariants.{Normal, Expand, Repeat}
use Rattle.offers.specs.Pieces.{total}
use Rattle.offers.specs.Waves.{no_piece, with_len, expand, fill, rounds, triples_of, unchanged}
use Rattle.offers.specs.Sources.{starting_at, Glides, Tame, Short, Runs}
use Rattle.offers.proofs.Starting.{some, part-le, long, no_length, start_gives, start-sound}

pub total-le : (ts : List Piece) → Tame ts → total ts ≤ 16777216 * length ts
unfolding total
total-le [] h = omega arith
total-le (t ∷ ts) h = let a = h.0.len in omega (arith, total-le ts h.1)

pub tame-short : (ts : List Piece) → Tame ts → Short ts
tame-short [] h i = omega arith
tame-short (t ∷ ts) h zero = let a = h.0.len in omega arith
tame-short (t ∷ ts) h (suc i) = tame-short ts h.1 i

tame-append : (a b : List Piece) → Tame a → Tame b → Tame (a ++ b)
tame-append [] b h k = k
tame-append (t ∷ a) b h k = (h.0, tame-append a b h.1 k)

resized : {t : Piece} → Glides t → (n : ℕ) → n ≤ 2 ^ 24 → Glides (with_len t n)
resized g n h = record { low = g.low; high = g.high; len = h; glide = g.glide }

tame-fill : (ts : List Piece) (n : ℕ) → Tame ts → Tame (fill ts n)
unfolding fill
tame-fill [] n h = tt
tame-fill (t ∷ ts) n h =
    let g = h.0 in
    let short : min t.len n ≤ 2 ^ 24 = omega (arith, g.len) in
    ⊎_elim (λ b. rw b tt) (λ b. rw b (resized g (min t.len n) short, tame-fill ts (n - t.len) h.1)) (which (eqb n 0))

tame-rounds : (k n : ℕ) (ts : List Piece) → Tame ts → Tame (rounds k ts n)
unfolding rounds
tame-rounds zero n ts h = tt
tame-rounds (suc k) n ts h = tame-append (fill ts n) (rounds k ts (n - total ts)) (tame-fill ts n h) (tame-rounds k (n - total ts) ts h)

tame-expand : (n tot r : ℕ) (t : Piece) (us : List Piece) → 0 < tot → r ≤ 2 ^ 24 → n * total (t ∷ us) ≤ r * tot → Tame (t ∷ us) → Tame (expand n tot r (t ∷ us))
unfolding expand total
tame-expand n tot r t [] h k p v = (resized v.0 r k, tt)
tame-expand n tot r t (u ∷ us) h k p v =
    let q = part-le t.len n tot r (total (u ∷ us)) h p in
    let f = q.0 in
    (resized v.0 (t.len * n / tot) (omega arith), tame-expand n tot (r - t.len * n / tot) u us h (omega arith) q.1 v.1)

abbrev as_is : Mode → Bool
as_is Normal = true
as_is Expand = false
as_is Repeat = false

made : (m : Mode) → as_is m ≡ false → m ≡ Normal → ⊥
made m h e = true≢false (sym (ap as_is e) ∙ h)

pub same-wave-normal : (ts : List Piece) (n : ℕ) → triples_of Normal ts n ≡ ts
unfolding triples_of
same-wave-normal ts n = refl

same-wave : (m : Mode) (ts : List Piece) (n : ℕ) → unchanged ts n ≡ true → triples_of m ts n ≡ ts
unfolding triples_of
same-wave Normal ts n e = refl
same-wave Expand ts n e = rw e
same-wave Repeat ts n e = rw e

-- ---- a wave
module _ (ts : List Piece) (n : ℕ) (v : Tame ts) (few : length ts ≤ 2 ^ 10) (h : n ≤ 2 ^ 24) where
  tame-expanded : (us : List Piece) → Tame us → 0 < total us → Tame (expand n (total us) n us)
  tame-expanded [] w p = absurd (no_length p)
  tame-expanded (u ∷ us) w p = tame-expand n (total (u ∷ us)) n u us p h (le_refl (n * total (u ∷ us))) w

  tame-wave : (m : Mode) → Tame (triples_of m ts n)
  unfolding triples_of
  tame-wave Normal = v
  tame-wave Repeat = ⊎_elim (λ e. rw e v) (λ e. rw e (tame-rounds n n ts v)) (which (unchanged ts n))
  tame-wave Expand = ⊎_elim (λ e. rw e v) (λ e. rw e (tame-expanded ts v (some n (total ts) e).1)) (which (unchanged ts n))

  pub bound : total ts ≤ 2 ^ 40
  bound = omega (arith, total-le ts v)

  pub far-wave : (m : Mode) → total (triples_of m ts n) ≤ 2 ^ 40
  far-wave m = ⊎_elim (λ e. rw (same-wave m ts n e) bound) (λ e. filled m e) (which (unchanged ts n))
    where
      filled : (m : Mode) → unchanged ts n ≡ false → total (triples_of m ts n) ≤ 2 ^ 40
      filled Normal e = rw (same-wave-normal ts n) bound
      filled Expand e = rw (long Expand ts n e (made Expand refl)) (omega arith)
      filled Repeat e = rw (long Repeat ts n e (made Repeat refl)) (omega arith)

  pub runs : (m : Mode) → Runs (starting_at m ts n) ts
  runs m =
      record {
        sound = start-sound m ts n (omega arith);
        short = tame-short ts v;
        tame = rw (start_gives m ts n) (tame-wave m);
        far = rw (start_gives m ts n) (far-wave m);
      }

pub total-drop : (ts : List Piece) (i : ℕ) → i < length ts → total (drop i ts) ≡ (get_or ts i no_piece).len + total (drop (i + 1) ts)
unfolding total
total-drop ts i h = rw add-one (ap total (drop-cons ts i no_piece h))

pub total-end : (ts : List Piece) (i : ℕ) → length ts ≤ i → total (drop i ts) ≡ 0
unfolding total
total-end ts i h = ap total (drop_of_length-le ts h)
