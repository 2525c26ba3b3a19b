-- A source gives the triples of its mode one after the other.
--     rest_more     what it has still to give is the next one, and what the source after that has
--     rest-none     or nothing
--     sound-after   a source that is in order is followed by one
use mathlib.Core.Path.{◌≡◌, refl, sym, ap, ◌∙◌}
use mathlib.Core.Bool.{Bool, true, false, cond, true≢false}
use mathlib.Core.List.{List, [], ◌∷◌, ◌++◌}
use mathlib.Core.Logic.{⊎_elim}
use Prim.Native.Nat.{ℕ, zero, suc, ◌+◌, ◌-◌, ◌*◌, ◌/◌, ◌≤◌, ◌<◌, min}
use native.Mathlib.Numerals.{add-one}
use native.Mathlib.Omega.{arith}
use borrow.Author.Tests.{ltb-true, ltb-false, eqb-true, eqb-false, eq-eqb, ne_eqb}
use lib.Dec.{eqb, ltb}
use lib.ListN.{length, get_or, drop, length-drop, drop_of_length-le}
use lib.Seq.{drop-cons}
use Rattle.laws.proofs.Bools.{which}
use Rattle.offers.specs.declared.Piece.{Piece}
use Rattle.offers.specs.declared.Source.{Source}
use Rattle.offers.specs.declared.Mode.{Mode}
use Rattle.offers.specs.declared.Mode.TheVariants.{Normal, Expand, Repeat}
use Rattle.offers.specs.Pieces.{total}
use Rattle.offers.specs.Waves.{no_piece, with_len, expand, fill, rounds, around}
use Rattle.offers.specs.Sources.{rest_by, rest_of, more_by, length_by, after_by, is_last, next_length, source_after, Sound}

-- ---- rounds
-- nothing is left to fill
pub fill_none : (ts : List Piece) → fill ts 0 ≡ []
unfolding fill
fill_none [] = refl
fill_none (t ∷ ts) = refl

pub rounds-none : (k : ℕ) (ts : List Piece) → rounds k ts 0 ≡ []
unfolding rounds
rounds-none zero ts = refl
rounds-none (suc k) ts = let none : 0 - total ts ≡ 0 = omega arith in rw (fill_none ts, none) (rounds-none k ts)

-- two numbers of rounds that are both enough
module _ (ts : List Piece) (some : 0 < total ts) where
  enough : (k l n : ℕ) → n ≤ k → n ≤ l → rounds k ts n ≡ rounds l ts n
  unfolding rounds
  enough zero l n p q = let none : n ≡ 0 = omega arith in rw none (sym (rounds-none l ts))
  enough (suc k) zero n p q = let none : n ≡ 0 = omega arith in rw none (rounds-none (suc k) ts)
  enough (suc k) (suc l) n p q = ap (λ (r : List Piece). fill ts n ++ r) (enough k l (n - total ts) (omega arith) (omega arith))

-- the rest of a round, us, and round again
abbrev onward : List Piece → List Piece → ℕ → List Piece
onward ts us m = fill us m ++ around ts (m - total us)

pub around-more : (ts : List Piece) (n : ℕ) → 0 < total ts → around ts n ≡ fill ts n ++ around ts (n - total ts)
unfolding rounds
around-more ts zero some = let none : 0 - total ts ≡ 0 = omega arith in rw (fill_none ts, none)
around-more ts (suc n) some =
    let left = suc n - total ts in
    ap (λ (r : List Piece). fill ts (suc n) ++ r) (enough ts some n left left (omega arith) (omega arith))

-- one triple of it
turn : (ts us : List Piece) (t : Piece) (m k : ℕ) → 0 < m → min t.len m ≡ k → onward ts (t ∷ us) m ≡ with_len t k ∷ onward ts us (m - k)
unfolding fill total
turn ts us t m k h q =
    let some : eqb m 0 ≡ false = ne_eqb m 0 (λ (z : m ≡ 0). absurd (omega arith)) in
    let one : m - t.len ≡ m - k = omega arith in
    let all : m - (t.len + total us) ≡ (m - k) - total us = omega arith in
    rw (some, q, one, all)

-- where it ends the next begins
wrap : (ts : List Piece) (m : ℕ) → 0 < total ts → onward ts [] m ≡ onward ts ts m
unfolding fill total
wrap ts m some = let all : m - 0 ≡ m = omega arith in rw all (around-more ts m some)

-- ---- the last one
-- an Expand's next triple: the last one has the rest
expand-one : (n tot rest : ℕ) (t : Piece) (us : List Piece) → let k = cond (eqb (length us) 0) rest (t.len * n / tot) in expand n tot rest (t ∷ us) ≡ with_len t k ∷ expand n tot (rest - k) us
unfolding expand
expand-one n tot rest t [] = refl
expand-one n tot rest t (u ∷ us) = rw (ne_eqb (suc (length us)) 0 (λ (z : suc (length us) ≡ 0). absurd (omega arith)))

-- none stands behind it
last-is : (at : ℕ) (ts : List Piece) → at < length ts → eqb (length (drop (suc at) ts)) 0 ≡ eqb (at + 1) (length ts)
last-is at ts h =
    let n = length-drop (suc at) ts in
    ⊎_elim
    (λ b. let e = eqb-true (at + 1) (length ts) b in eq-eqb (length (drop (suc at) ts)) 0 (omega arith) ∙ sym b)
    (λ b. ne_eqb (length (drop (suc at) ts)) 0 (λ (z : length (drop (suc at) ts) ≡ 0). eqb-false (at + 1) (length ts) b (omega arith)) ∙ sym b)
    (which (eqb (at + 1) (length ts)))

-- ---- modes
abbrev goes_round : Mode → Bool
goes_round Normal = false
goes_round Expand = false
goes_round Repeat = true

straight : (m : Mode) → goes_round m ≡ false → m ≡ Repeat → ⊥
straight m h e = true≢false (sym (ap goes_round e) ∙ h)

pub clash : Normal ≡ Repeat → ⊥
clash = straight Normal refl

module _ (ts : List Piece) (s : Source) (ok : Sound ts s) where
  abbrev n : ℕ
  n = length ts

  abbrev t : Piece
  t = get_or ts s.at no_piece

  abbrev behind : List Piece
  behind = drop (suc s.at) ts

  none-by : (m : Mode) → more_by m n s ≡ false → rest_by m ts s ≡ []
  unfolding rest_by expand
  none-by Normal e = drop_of_length-le ts (ltb-false s.at n e)
  none-by Expand e = rw (drop_of_length-le ts {i = s.at} (ltb-false s.at n e))
  none-by Repeat e =
      let full : s.rest ≡ 0 = (let h = ltb-false 0 s.rest e in omega arith) in
      let none : 0 - total (drop s.at ts) ≡ 0 = omega arith in
      rw (full, none, fill_none (drop s.at ts)) (rounds-none 0 ts)

  pub rest-none : more_by s.mode n s ≡ false → rest_of ts s ≡ []
  rest-none e = none-by s.mode e

  pub inside : (m : Mode) → s.mode ≡ m → more_by m n s ≡ true → s.at < n
  inside Normal q e = ltb-true s.at n e
  inside Expand q e = ltb-true s.at n e
  inside Repeat q e = ok.turns q

  -- from the place after it, which past the last one is the first again
  on-from : 0 < total ts → (b : Bool) → is_last n s ≡ b → (m : ℕ) → onward ts behind m ≡ onward ts (drop (cond b 0 (s.at + 1)) ts) m
  on-from some true f m =
      let g = eqb-true (s.at + 1) n f in
      ap (λ (r : List Piece). onward ts r m) (drop_of_length-le ts {i = suc s.at} (omega arith)) ∙ wrap ts m some
  on-from some false f m = rw add-one

  more_by_lem : (m : Mode) → s.mode ≡ m → more_by m n s ≡ true → (k : ℕ) → length_by m s t.len (is_last n s) ≡ k
      → rest_by m ts s ≡ with_len t k ∷ rest_by m ts (record { mode = s.mode; at = after_by m (is_last n s) (s.at + 1); rest = s.rest - k; whole = s.whole; total = s.total })
  unfolding rest_by
  more_by_lem Normal q e k l = rw (add-one, ← l) (drop-cons ts s.at no_piece (inside Normal q e))
  more_by_lem Expand q e k l =
      let h = inside Expand q e in
      rw (add-one, ← l, drop-cons ts s.at no_piece h, ← last-is s.at ts h) (expand-one s.whole s.total s.rest t behind)
  more_by_lem Repeat q e k l =
      ap (λ (r : List Piece). onward ts r s.rest) (drop-cons ts s.at no_piece (ok.turns q))
      ∙ turn ts behind t s.rest k (ltb-true 0 s.rest e) l
      ∙ ap (λ (r : List Piece). with_len t k ∷ r) (on-from (ok.some q) (is_last n s) refl (s.rest - k))

  pub rest_more : more_by s.mode n s ≡ true → rest_of ts s ≡ with_len t (next_length ts s) ∷ rest_of ts (source_after n s (next_length ts s))
  rest_more e = more_by_lem s.mode refl e (next_length ts s) refl

  -- the place after it
  place : s.at < n → (m : Mode) (b : Bool) → is_last n s ≡ b → (after_by m b (s.at + 1) ≤ n) × (m ≡ Repeat → after_by m b (s.at + 1) < n)
  place h Normal b f = (omega arith, λ r. absurd (clash r))
  place h Expand b f = (omega arith, λ r. absurd (straight Expand refl r))
  place h Repeat true f = (omega arith, λ r. omega arith)
  place h Repeat false f =
      let below : s.at + 1 < n =
      ⊎_elim (λ b. ltb-true (s.at + 1) n b) (λ b. let g = ltb-false (s.at + 1) n b in absurd (eqb-false (s.at + 1) n f (omega arith))) (which (ltb (s.at + 1) n)) in
      (omega arith, λ r. below)

  pub sound-after : more_by s.mode n s ≡ true → (k : ℕ) → Sound ts (source_after n s k)
  sound-after e k =
      let p = place (inside s.mode refl e) s.mode (is_last n s) refl in
      record { inside = p.0; turns = p.1; some = ok.some; parts = ok.parts; small = ok.small }
