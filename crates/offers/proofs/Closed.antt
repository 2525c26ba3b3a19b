-- The run in one pass is the closed form: of the fresh offers, as many become events as there is room for, each is paid for, and the
-- first that does not fit sets the flag. Over any rule.
--     pay, gives   the first of the offers is paid for and gives its events, or nothing is and does
--     closed       the whole run
use mathlib.Core.Path.{◌≡◌, refl, sym, ap, ap₂, ◌∙◌}
use mathlib.Core.Bool.{Bool, true, false, cond}
use mathlib.Core.List.{List, [], ◌∷◌, ◌++◌}
use Prim.Native.Nat.{ℕ, zero, suc, ◌+◌, ◌-◌, ◌*◌, ◌/◌, ◌<◌, min}
use native.Mathlib.Nat.{div-eq-sub-div, div-eq_of_lt, mul-suc, mul-zero}
use native.Mathlib.Numerals.{add-one}
use native.Mathlib.Omega.{arith}
use borrow.Author.Tests.{leb-true, leb-false, lt-ltb, le-ltb, ltb-true, ltb-false}
use lib.Dec.{ltb, leb}
use lib.ListN.{length, take}
use lib.IntN.{pos}
use Rattle.std.specs.Prelude.{is_some, unwrap_or, Some}
use Rattle.budget.specs.declared.Budget.{Budget}
use Rattle.budget.specs.Budgets.{room, fits}
use Rattle.events.specs.declared.Event.{Event}
use Rattle.values.specs.declared.Offer.{Offer}
use Rattle.values.specs.Value.{paid}
use Rattle.offers.specs.declared.Walk.{Walk}
use Rattle.offers.specs.Rules.{Rule, fresh, joined, become, written, seeds_after, spent}
use Rattle.offers.specs.Walks.{dropped, advance, emit, walked, emitted}

-- ---- the budget, of numbers alone
abbrev mk : ℕ → ℕ → ℕ → ℕ → Budget
mk y m u t = record { seed = y; maximum = m; used = u; over = t }

ltb-suc : (a b : ℕ) → ltb (suc a) (suc b) ≡ ltb a b
ltb-suc a b = go (ltb a b) refl
  where
    go : (t : Bool) → ltb a b ≡ t → ltb (suc a) (suc b) ≡ t
    go true e = lt-ltb (suc a) (suc b) (let h = ltb-true a b e in omega arith)
    go false e = le-ltb (suc a) (suc b) (let h = ltb-false a b e in omega arith)

cond_same : (t : Bool) (n : ℕ) → cond t n n ≡ n
cond_same true n = refl
cond_same false n = refl

pub fits_more : (size m u : ℕ) → 0 < size → leb size (m - u) ≡ true → (m - u) / size ≡ suc ((m - (u + size)) / size)
fits_more size m u h e =
    let d : (m - u) - size ≡ m - (u + size) = omega arith in
    div-eq-sub-div h (leb-true size (m - u) e) ∙ rw (d, add-one)

pub fits-none : (size m u : ℕ) → leb size (m - u) ≡ false → (m - u) / size ≡ 0
fits-none size m u e = div-eq_of_lt (leb-false size (m - u) e)

pub spent-none : (r : Rule) (b : Budget) → spent r b [] ≡ b
unfolding spent seeds_after
spent-none r b =
    let m : min (room r.size b) 0 ≡ 0 = omega arith in
    let z : b.used + r.size * 0 ≡ b.used = rw mul-zero (omega arith) in
    ap₂ (mk b.seed b.maximum) (rw m z) (rw (le-ltb (room r.size b) 0 (omega arith)))

pub joined-none : (n : ℕ) → joined (take n []) ≡ []
joined-none zero = refl
joined-none (suc n) = refl

module _ (r : Rule) (some : 0 < r.size) where
  abbrev size : ℕ
  size = r.size

  pub pay : (b : Budget) (o : Offer) (fs : List Offer) → spent r (paid r.size r.next b) fs ≡ spent r b (o ∷ fs)
  unfolding spent seeds_after
  pay b o fs = go (fits size b) refl
    where
      y : ℕ
      y = seeds_after r fs (r.next b.seed)

      go : (t : Bool) → fits size b ≡ t
          → mk y b.maximum (cond t (b.used + size) b.used + size * min ((b.maximum - cond t (b.used + size) b.used) / size) (length fs)) (cond (ltb ((b.maximum - cond t (b.used + size) b.used) / size) (length fs)) 1 (cond t b.over 1))
          ≡ mk y b.maximum (b.used + size * min ((b.maximum - b.used) / size) (suc (length fs))) (cond (ltb ((b.maximum - b.used) / size) (suc (length fs))) 1 b.over)
      go true e =
          let n = (b.maximum - (b.used + size)) / size in
          let f = fits_more size b.maximum b.used some e in
          let q : min (suc n) (suc (length fs)) ≡ suc (min n (length fs)) = omega arith in
          let p : (b.used + size) + size * min n (length fs) ≡ b.used + size * suc (min n (length fs)) = rw mul-suc (omega arith) in
          ap₂ (mk y b.maximum) (rw (f, q) p) (rw (f, ltb-suc))
      go false e =
          let f = fits-none size b.maximum b.used e in
          let q : min 0 (length fs) ≡ 0 = omega arith in
          let p : min 0 (suc (length fs)) ≡ 0 = omega arith in
          ap₂ (mk y b.maximum) (rw (f, q, p)) (rw (f, lt-ltb 0 (suc (length fs)) (omega arith)) (cond_same (ltb 0 (length fs)) 1))

  pub gives : (b : Budget) (es : List Event) (rest : List (List Event)) → cond (fits size b) es [] ++ joined (take (room size (paid r.size r.next b)) rest) ≡ joined (take (room size b) (es ∷ rest))
  gives b es rest = go (fits size b) refl
    where
      go : (t : Bool) → fits size b ≡ t → cond t es [] ++ joined (take ((b.maximum - cond t (b.used + size) b.used) / size) rest) ≡ joined (take ((b.maximum - b.used) / size) (es ∷ rest))
      go true e = rw (fits_more size b.maximum b.used some e)
      go false e = let f = fits-none size b.maximum b.used e in rw f

  abbrev fresh_of : Walk → List Offer → List Offer
  fresh_of k os = fresh r.all (is_some k.last) (unwrap_or k.last (pos 0)) os

  pub record Closed (k : Walk) (os : List Offer) : Type 0 where
    pub events : emitted r k os ≡ written r (room size k.budget) (fresh_of k os) k.budget.seed
    pub budget : (walked r k os).budget ≡ spent r k.budget (fresh_of k os)

  none : (k : Walk) → Closed k []
  unfolding emitted walked fresh become
  none k = record { events = sym (joined-none (room size k.budget)); budget = sym (spent-none r k.budget) }

  one : (k : Walk) (o : Offer) (os : List Offer) → Closed (advance r k o) os → Closed k (o ∷ os)
  unfolding emitted walked fresh become emit advance
  one k o os v = go (dropped r k o) refl v
    where
      next : Walk
      next = record { last = Some o.value; budget = paid r.size r.next k.budget }

      go : (t : Bool) → dropped r k o ≡ t → Closed (cond t k next) os → Closed k (o ∷ os)
      go true e v =
          record {
            events = rw e v.events;
            budget =
                ap (λ (t : Bool). (walked r (cond t k next) os).budget) e ∙ v.budget
                ∙ sym (ap (λ (t : Bool). spent r k.budget (cond t (fresh r.all (is_some k.last) (unwrap_or k.last (pos 0)) os) (o ∷ fresh r.all true o.value os))) e);
          }
      go false e v =
          record {
            events = rw e (ap (λ (x : List Event). cond (fits size k.budget) (r.events o (r.next k.budget.seed)) [] ++ x) v.events ∙ gives k.budget (r.events o (r.next k.budget.seed)) _);
            budget =
                ap (λ (t : Bool). (walked r (cond t k next) os).budget) e ∙ v.budget ∙ pay k.budget o (fresh r.all true o.value os)
                ∙ sym (ap (λ (t : Bool). spent r k.budget (cond t (fresh r.all (is_some k.last) (unwrap_or k.last (pos 0)) os) (o ∷ fresh r.all true o.value os))) e);
          }

  pub closed : (k : Walk) (os : List Offer) → Closed k os
  closed k [] = none k
  closed k (o ∷ os) = one k o os (closed (advance r k o) os)
