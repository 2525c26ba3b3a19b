-- A call that stops at the first write that does not fit. It tries one write more than there is room for, and that one is lost
-- (`stopping`): so where no more than that are asked for, whether a call stops or goes on makes no difference (`as_many`).
--     stopping   over any writes
--     stopped    its closed form
--     as_many    where they are few enough
--     until-..   what a call that stops tells
use mathlib.Core.Path.{◌≡◌, refl, sym, ap, ◌∙◌}
use mathlib.Core.Bool.{Bool, true, false, cond}
use mathlib.Core.List.{List, [], ◌∷◌, ◌++◌}
use Prim.Native.Nat.{ℕ, zero, suc, ◌+◌, ◌≤◌, ◌<◌, min}
use native.Mathlib.Omega.{arith}
use borrow.Author.Tests.{ltb-true, ltb-false, lt-ltb, le-ltb}
use lib.Dec.{ltb}
use lib.ListN.{length, take, length-take}
use lib.Seq.{take_all, take-take}
use Rattle.budget.specs.declared.Budget.{Budget}
use Rattle.budget.specs.Budgets.{fits, seeded}
use Rattle.payments.specs.Payments.{Terms, Purse, purse, filled, pay, pay_all, pay_until, become, alterations, seed_through, room_for, lost, budget_through, affords, altered_in}
use Rattle.payments.proofs.Closed.{fits_more, fits-none, closed}

-- one more than there is room for tells whether one is lost
same_test : {A : Type 0} (n : ℕ) (l : List A) → ltb n (length (take (suc n) l)) ≡ ltb n (length l)
same_test n l = go (ltb n (length l)) refl
  where
    m : length (take (suc n) l) ≡ min (suc n) (length l)
    m = length-take (suc n) l

    go : (t : Bool) → ltb n (length l) ≡ t → ltb n (length (take (suc n) l)) ≡ t
    go true e = lt-ltb n (length (take (suc n) l)) (omega (arith, m, ltb-true n (length l) e))
    go false e = le-ltb n (length (take (suc n) l)) (omega (arith, m, ltb-false n (length l) e))

module _ {A G : Type 0} (t : Terms A G) (some : 0 < t.size) where
  room_after : (a : A) (p : Purse G) → fits t.size p.budget ≡ true → room_for t p.budget ≡ suc (room_for t (pay t a p).budget)
  unfolding pay
  room_after a p e = let b = p.budget in rw e (fits_more t.size b.maximum b.used some e)

  pub stopping : (xs : List A) (p : Purse G) → pay_until t xs p ≡ pay_all t (take (suc (room_for t p.budget)) xs) p
  unfolding pay_until pay_all
  stopping [] p = refl
  stopping (a ∷ xs) p = go (fits t.size p.budget) refl (stopping xs (pay t a p))
    where
      go : (f : Bool) → fits t.size p.budget ≡ f → pay_until t xs (pay t a p) ≡ pay_all t (take (suc (room_for t (pay t a p).budget)) xs) (pay t a p)
          → cond f (pay_until t xs (pay t a p)) (pay t a p) ≡ pay_all t (take (room_for t p.budget) xs) (pay t a p)
      go true e ih = ih ∙ ap (λ (n : ℕ). pay_all t (take n xs) (pay t a p)) (sym (room_after a p e))
      go false e ih = sym (ap (λ (n : ℕ). pay_all t (take n xs) (pay t a p)) (fits-none t.size p.budget.maximum p.budget.used e))

  -- the closed form of a call that stops: the seed has not gone through the writes that were not tried, all else is the same
  become-take : (n : ℕ) (xs : List A) (y : ℕ) → become t (take n xs) y ≡ take n (become t xs y)
  unfolding become
  become-take zero xs y = refl
  become-take (suc n) [] y = refl
  become-take (suc n) (a ∷ xs) y = ap (λ (l : List G). t.becomes a y ∷ l) (become-take n xs (t.next a y))

  alterations-take : (n : ℕ) (xs : List A) (y : ℕ) → alterations t (take n xs) y ≡ take n (alterations t xs y)
  unfolding alterations
  alterations-take zero xs y = refl
  alterations-take (suc n) [] y = refl
  alterations-take (suc n) (a ∷ xs) y = ap (λ (l : List ℕ). t.alters a y ∷ l) (alterations-take n xs (t.next a y))

  pub stopped : (xs : List A) (p : Purse G)
      → pay_until t xs p ≡ filled (seeded (budget_through t p.budget xs) (seed_through t (take (suc (room_for t p.budget)) xs) p.budget.seed)) (p.bought ++ affords t p.budget xs) (p.altered + altered_in t p.budget xs)
  unfolding budget_through affords altered_in
  stopped xs p =
      let n = room_for t p.budget in
      let l : length (take (suc n) xs) ≡ min (suc n) (length xs) = length-take (suc n) xs in
      let m : min n (length (take (suc n) xs)) ≡ min n (length xs) = omega arith in
      let e : take n (become t (take (suc n) xs) p.budget.seed) ≡ take n (become t xs p.budget.seed) =
      ap (take n) (become-take (suc n) xs p.budget.seed) ∙ take-take n (suc n) (become t xs p.budget.seed) (omega arith) in
      let h : take n (alterations t (take (suc n) xs) p.budget.seed) ≡ take n (alterations t xs p.budget.seed) =
      ap (take n) (alterations-take (suc n) xs p.budget.seed) ∙ take-take n (suc n) (alterations t xs p.budget.seed) (omega arith) in
      stopping xs p ∙ closed t some (take (suc n) xs) p ∙ rw (m, same_test n xs, e, h)

  pub as_many : (xs : List A) (p : Purse G) → length xs ≤ room_for t p.budget + 1 → pay_until t xs p ≡ pay_all t xs p
  as_many xs p h = stopping xs p ∙ ap (λ (l : List A). pay_all t l p) (take_all (suc (room_for t p.budget)) xs (omega arith))

  pub until-from-empty : (xs : List A) (b : Budget) (m : List G) → pay_until t xs (purse b m) ≡ filled (pay_until t xs (purse b [])).budget (m ++ (pay_until t xs (purse b [])).bought) (pay_until t xs (purse b [])).altered
  until-from-empty xs b m = stopped xs (purse b m) ∙ ap (λ (p : Purse G). filled p.budget (m ++ p.bought) p.altered) (sym (stopped xs (purse b [])))

  pub until-altered : (xs : List A) (p : Purse G) → (pay_until t xs p).altered ≡ p.altered + altered_in t p.budget xs
  until-altered xs p = ap (λ (x : Purse G). x.altered) (stopped xs p)

  pub until-flag : (xs : List A) (p : Purse G) → (pay_until t xs p).budget.over ≡ cond (lost t p.budget xs) 1 p.budget.over
  unfolding budget_through
  until-flag xs p = ap (λ (x : Purse G). x.budget.over) (stopped xs p)
