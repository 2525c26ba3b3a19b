-- Paying for writes one after the other comes to the closed form. By induction on the writes: paying for one and then, in closed form, for the
-- others is the closed form of all (`more`), because where one fits there was room for one more than there is after it, and where it does not
-- fit there was room for none.
--     fits_more, fits-none   the room before a write, by whether it fits
--     closed                 the whole
use mathlib.Core.Path.{◌≡◌, refl, sym, ap, ap₂, ◌∙◌}
use mathlib.Core.Bool.{Bool, true, false, cond}
use mathlib.Core.List.{List, [], ◌∷◌, ◌++◌, append-nil, append_assoc}
use Prim.Native.Nat.{ℕ, suc, ◌+◌, ◌-◌, ◌*◌, ◌/◌, ◌<◌, min}
use native.Mathlib.Nat.{div-eq-sub-div, div-eq_of_lt, mul-suc, mul-zero}
use native.Mathlib.Numerals.{add-one}
use native.Mathlib.Omega.{arith}
use borrow.Author.Tests.{leb-true, leb-false, lt-ltb, le-ltb, ltb-true, ltb-false}
use lib.Dec.{ltb, leb}
use lib.ListN.{length, take}
use lib.Seq.{take-nil}
use Rattle.budget.specs.declared.Budget.{Budget}
use Rattle.budget.specs.Budgets.{room, fits}
use Rattle.payments.specs.Payments.{Terms, Purse, filled, charged, sum_of, pay, pay_all, become, alterations, seed_through, budget_through, affords, altered_in, paid_for}

abbrev mk : ℕ → ℕ → ℕ → ℕ → Budget
mk y m u o = record { seed = y; maximum = m; used = u; over = o }

pub ltb-suc : (a b : ℕ) → ltb (suc a) (suc b) ≡ ltb a b
ltb-suc a b = go (ltb a b) refl
  where
    go : (t : Bool) → ltb a b ≡ t → ltb (suc a) (suc b) ≡ t
    go true e = lt-ltb (suc a) (suc b) (let h = ltb-true a b e in omega arith)
    go false e = le-ltb (suc a) (suc b) (let h = ltb-false a b e in omega arith)

cond_same : (t : Bool) (n : ℕ) → cond t n n ≡ n
cond_same true n = refl
cond_same false n = refl

pub fits_more : (size m u : ℕ) → 0 < size → leb size (m - u) ≡ true → (m - u) / size ≡ suc ((m - (u + size)) / size)
fits_more size m u h e =
    let d : (m - u) - size ≡ m - (u + size) = omega arith in
    div-eq-sub-div h (leb-true size (m - u) e) ∙ rw (d, add-one)

pub fits-none : (size m u : ℕ) → leb size (m - u) ≡ false → (m - u) / size ≡ 0
fits-none size m u e = div-eq_of_lt (leb-false size (m - u) e)

module _ {A G : Type 0} (t : Terms A G) where
  abbrev size : ℕ
  size = t.size

  pub through-none : (b : Budget) → budget_through t b [] ≡ b
  unfolding budget_through seed_through
  through-none b =
      let m : min (room size b) 0 ≡ 0 = omega arith in
      let z : b.used + size * 0 ≡ b.used = rw mul-zero (omega arith) in
      ap₂ (mk b.seed b.maximum) (rw m z) (rw (le-ltb (room size b) 0 (omega arith)))

  pub affords-none : (b : Budget) → affords t b [] ≡ []
  unfolding affords become
  affords-none b = take-nil (room size b)

  pub altered-none : (b : Budget) → altered_in t b [] ≡ 0
  unfolding altered_in alterations sum_of
  altered-none b = ap (sum_of (λ n. n)) (take-nil (room size b))

  pub pay-none : (p : Purse G) → p ≡ paid_for t [] p
  pay-none p =
      let h : p.altered ≡ p.altered + altered_in t p.budget [] = omega (arith, altered-none p.budget) in
      ap₂ (λ (b : Budget) (m : List G). filled b m p.altered) (sym (through-none p.budget)) (sym (ap (λ (l : List G). p.bought ++ l) (affords-none p.budget) ∙ append-nil p.bought))
      ∙ ap (filled (budget_through t p.budget []) (p.bought ++ affords t p.budget [])) h

  module _ (some : 0 < t.size) where
    through-more : (b : Budget) (a : A) (xs : List A) → budget_through t (charged t a b) xs ≡ budget_through t b (a ∷ xs)
    unfolding budget_through seed_through
    through-more b a xs = go (fits size b) refl
      where
        y : ℕ
        y = seed_through t xs (t.next a b.seed)

        go : (f : Bool) → fits size b ≡ f
            → mk y b.maximum (cond f (b.used + size) b.used + size * min ((b.maximum - cond f (b.used + size) b.used) / size) (length xs)) (cond (ltb ((b.maximum - cond f (b.used + size) b.used) / size) (length xs)) 1 (cond f b.over 1))
            ≡ mk y b.maximum (b.used + size * min ((b.maximum - b.used) / size) (suc (length xs))) (cond (ltb ((b.maximum - b.used) / size) (suc (length xs))) 1 b.over)
        go true e =
            let n = (b.maximum - (b.used + size)) / size in
            let f = fits_more size b.maximum b.used some e in
            let q : min (suc n) (suc (length xs)) ≡ suc (min n (length xs)) = omega arith in
            let p : (b.used + size) + size * min n (length xs) ≡ b.used + size * suc (min n (length xs)) = rw mul-suc (omega arith) in
            ap₂ (mk y b.maximum) (rw (f, q) p) (rw (f, ltb-suc))
        go false e =
            let f = fits-none size b.maximum b.used e in
            let q : min 0 (length xs) ≡ 0 = omega arith in
            let p : min 0 (suc (length xs)) ≡ 0 = omega arith in
            ap₂ (mk y b.maximum) (rw (f, q, p)) (rw (f, lt-ltb 0 (suc (length xs)) (omega arith)) (cond_same (ltb 0 (length xs)) 1))

    bought-more : (b : Budget) (m : List G) (g : G) (rest : List G)
        → cond (fits size b) (m ++ (g ∷ [])) m ++ take ((b.maximum - cond (fits size b) (b.used + size) b.used) / size) rest ≡ m ++ take (room size b) (g ∷ rest)
    bought-more b m g rest = go (fits size b) refl
      where
        go : (f : Bool) → fits size b ≡ f
            → cond f (m ++ (g ∷ [])) m ++ take ((b.maximum - cond f (b.used + size) b.used) / size) rest ≡ m ++ take ((b.maximum - b.used) / size) (g ∷ rest)
        go true e = rw (fits_more size b.maximum b.used some e) (append_assoc m (g ∷ []) _)
        go false e = rw (fits-none size b.maximum b.used e)

    altered-more : (b : Budget) (h n : ℕ) (rest : List ℕ)
        → cond (fits size b) (h + n) h + sum_of (λ n. n) (take ((b.maximum - cond (fits size b) (b.used + size) b.used) / size) rest) ≡ h + sum_of (λ n. n) (take (room size b) (n ∷ rest))
    unfolding sum_of
    altered-more b h n rest = go (fits size b) refl
      where
        go : (f : Bool) → fits size b ≡ f
            → cond f (h + n) h + sum_of (λ n. n) (take ((b.maximum - cond f (b.used + size) b.used) / size) rest) ≡ h + sum_of (λ n. n) (take ((b.maximum - b.used) / size) (n ∷ rest))
        go true e = rw (fits_more size b.maximum b.used some e) (omega arith)
        go false e = rw (fits-none size b.maximum b.used e)

    pub more : (a : A) (xs : List A) (p : Purse G) → paid_for t xs (pay t a p) ≡ paid_for t (a ∷ xs) p
    unfolding pay affords become altered_in alterations
    more a xs p =
        let b = p.budget in
        ap₂ (λ (c : Budget) (m : List G). filled c m (paid_for t xs (pay t a p)).altered) (through-more b a xs) (bought-more b p.bought (t.becomes a b.seed) (become t xs (t.next a b.seed)))
        ∙ ap (filled (budget_through t b (a ∷ xs)) (p.bought ++ affords t b (a ∷ xs))) (altered-more b p.altered (t.alters a b.seed) (alterations t xs (t.next a b.seed)))

    pub closed : (xs : List A) (p : Purse G) → pay_all t xs p ≡ paid_for t xs p
    unfolding pay_all
    closed [] p = pay-none p
    closed (a ∷ xs) p = closed xs (pay t a p) ∙ more a xs p
