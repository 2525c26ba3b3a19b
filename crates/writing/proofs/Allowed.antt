-- The document's ranges meet what the calls ask, and no write lasts longer than 2^40 steps; with `Promises.in-time` that keeps every
-- event's time within ±2^42.
--     ready, fine     what a write and a list of triples ask
--     curve-far, wave-far, sine-far   how long each lasts at most
use mathlib.Core.Path.{◌≡◌, refl}
use mathlib.Core.Bool.{Bool, true}
use mathlib.Core.List.{List, [], ◌∷◌}
use Prim.Native.Nat.{ℕ, zero, suc, ◌/◌, ◌≤◌, ◌<◌, ◌^◌}
use native.Mathlib.Omega.{arith}
use lib.IntN.{ℤ, pos}
use lib.Signed.{mag}
use lib.ListN.{length, get_or, drop}
use Rattle.laws.specs.Integers.{inside, sized}
use Rattle.laws.specs.Lists.{all}
use Rattle.laws.specs.Rows.{rows}
use Rattle.laws.proofs.Signed.{cut-mag}
use Rattle.laws.proofs.Ranges.{left, right, sized-mag}
use Rattle.numbers.specs.Ranges.{is_time, is_number, is_length}
use Rattle.counted.specs.Curves as curves
use Rattle.sines.specs.declared.SineType.{SineType}
use Rattle.values.specs.declared.Write.{Write}
use Rattle.values.specs.Value.{Ready}
use Rattle.offers.specs.declared.Mode.{Mode}
use Rattle.offers.specs.Pieces.{total}
use Rattle.offers.specs.Waves.{triple_of, triples, triples_of}
use Rattle.offers.specs.Sources.{Tame, Fine}
use Rattle.offers.proofs.Taming.{bound, far-wave}
use Rattle.offers.proofs.Tripling.{length-triples}
use Rattle.writing.specs.Sines.{sine_piece, sine_pieces}
use Rattle.writing.proofs.Drawing.{long-le}

pub ready : (w : Write) → is_time w.time ≡ true → 0 < w.freq → w.freq ≤ 2 ^ 20 → Ready w
unfolding is_time
ready w t p q = let m = sized-mag (2 ^ 40) w.time t in record { time = omega arith; some = p; slow = q }

-- ---- a list whose numbers are allowed
all-at : (p : ℤ → Bool) → p (pos 0) ≡ true → (l : List ℤ) (i : ℕ) → all p l ≡ true → p (get_or l i (pos 0)) ≡ true
unfolding all
all-at p z [] i e = z
all-at p z (x ∷ l) zero e = left (p x) (all p l) e
all-at p z (x ∷ l) (suc i) e = all-at p z l i (right (p x) (all p l) e)

all_drop : (p : ℤ → Bool) (n : ℕ) (l : List ℤ) → all p l ≡ true → all p (drop n l) ≡ true
unfolding all
all_drop p zero l e = e
all_drop p (suc n) [] e = e
all_drop p (suc n) (x ∷ l) e = all_drop p n l (right (p x) (all p l) e)

number-zero : is_number (pos 0) ≡ true
unfolding is_number sized inside
number-zero = refl

number-mag : (z : ℤ) → is_number z ≡ true → mag z ≤ 2 ^ 22
unfolding is_number
number-mag z e = sized-mag (2 ^ 22) z e

length-mag : (z : ℤ) → is_length z ≡ true → mag z ≤ 2 ^ 20
unfolding is_length
length-mag z e = sized-mag (2 ^ 20) z e

tame-rows : (n : ℕ) (l : List ℤ) → all is_number l ≡ true → all curves.has_length (rows 3 curves.triple_of n l) ≡ true → Tame (rows 3 triple_of n l)
unfolding all curves.has_length
tame-rows zero l p q = tt
tame-rows (suc n) l p q =
    let t = get_or l 2 (pos 0) in
    let m = length-mag t (left (is_length t) (all curves.has_length (rows 3 curves.triple_of n (drop 3 l))) q) in
    let c = cut-mag t in (
      record {
        low = number-mag (get_or l 0 (pos 0)) (all-at is_number number-zero l 0 p);
        high = number-mag (get_or l 1 (pos 0)) (all-at is_number number-zero l 1 p);
        len = omega arith;
        glide = refl;
      },
      tame-rows n (drop 3 l) (all_drop is_number 3 l p) (right (is_length t) (all curves.has_length (rows 3 curves.triple_of n (drop 3 l))) q),
    )

pub fine : (l : List ℤ) → curves.is_curve l ≡ true → length l ≤ 2 ^ 10 → Fine l
unfolding curves.is_curve curves.triples triples
fine l e h =
    record {
      tame = tame-rows (length l / 3) l (left (all is_number l) (all curves.has_length (curves.triples l)) e) (right (all is_number l) (all curves.has_length (curves.triples l)) e);
      few = omega (arith, length-triples l);
    }

-- ---- how long
pub curve-far : (l : List ℤ) → Fine l → total (triples l) ≤ 2 ^ 40
curve-far l f = bound (triples l) 0 f.tame f.few (omega arith)

pub wave-far : (l : List ℤ) (m : Mode) (n : ℕ) → Fine l → n ≤ 2 ^ 24 → total (triples_of m (triples l) n) ≤ 2 ^ 40
wave-far l m n f h = far-wave (triples l) n f.tame f.few h m

pub sine-far : (stype : SineType) (low high len times : ℤ) → mag len ≤ 2 ^ 20 → mag times ≤ 2 ^ 20 → total (sine_pieces stype low high len times) ≤ 2 ^ 40
unfolding total sine_piece
sine-far stype low high len times p q = let l = long-le len times p q in omega arith
