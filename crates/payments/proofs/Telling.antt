-- What payments tell of bytes, events, seed, flag and clamp. Nearly all is read off the closed form.
--     pay_all-append, become-append, seed-append   two lists of writes are the first, then the second
--     used, many, seed, maximum, flag, buys, counts   the fields that are left, each in a line
--     bytes       what is used is paid for something bought
--     from_empty, forget   what was bought before stays in front, and what was counted before does not enter
--     ample       where there is room for all
--     clear       a flag that is clear afterwards says that there was
--     altered-le  no more events are altered than are bought
--     all-bought  what holds of whatever a write becomes holds of all that is bought
--     weighed     what is bought weighs what is paid: bytes used that were such a sum before are one after
use mathlib.Core.Path.{◌≡◌, refl, sym, ap, ◌∙◌}
use mathlib.Core.Bool.{Bool, true, false, cond}
use mathlib.Core.List.{List, [], ◌∷◌, ◌++◌}
use Prim.Native.Nat.{ℕ, zero, suc, ◌+◌, ◌*◌, ◌≤◌, ◌<◌, min, zero-le}
use native.Mathlib.Nat.{mul-suc}
use native.Mathlib.Omega.{arith}
use borrow.Author.Tests.{ltb-false, le-ltb}
use lib.ListN.{length, take, length-append, length-take}
use lib.Seq.{take_all}
use Rattle.laws.specs.Lists.{all}
use Rattle.laws.proofs.Ranges.{left, right}
use Rattle.laws.proofs.Parts.{all_append}
use Rattle.budget.specs.declared.Budget.{Budget}
use Rattle.budget.specs.Budgets.{fits, ok_budget, seeded}
use Rattle.budget.proofs.Spending.{keeps-ok}
use Rattle.payments.specs.Payments.{Terms, Purse, purse, filled, uncounted, sum_of, pay, pay_all, pay_until, become, alterations, seed_through, room_for, lost, budget_through, affords, altered_in}
use Rattle.payments.proofs.Closed.{closed}
use Rattle.payments.proofs.Stopping.{stopping}

module _ {A G : Type 0} (t : Terms A G) where
  pub pay_all-append : (xs ys : List A) (p : Purse G) → pay_all t (xs ++ ys) p ≡ pay_all t ys (pay_all t xs p)
  unfolding pay_all
  pay_all-append [] ys p = refl
  pay_all-append (a ∷ xs) ys p = pay_all-append xs ys (pay t a p)

  pub become-append : (xs ys : List A) (y : ℕ) → become t (xs ++ ys) y ≡ become t xs y ++ become t ys (seed_through t xs y)
  unfolding become seed_through
  become-append [] ys y = refl
  become-append (a ∷ xs) ys y = ap (λ (l : List G). t.becomes a y ∷ l) (become-append xs ys (t.next a y))

  pub seed-append : (xs ys : List A) (y : ℕ) → seed_through t (xs ++ ys) y ≡ seed_through t ys (seed_through t xs y)
  unfolding seed_through
  seed-append [] ys y = refl
  seed-append (a ∷ xs) ys y = seed-append xs ys (t.next a y)

  pub length-become : (xs : List A) (y : ℕ) → length (become t xs y) ≡ length xs
  unfolding become
  length-become [] y = refl
  length-become (a ∷ xs) y = ap suc (length-become xs (t.next a y))

  length-alterations : (xs : List A) (y : ℕ) → length (alterations t xs y) ≡ length xs
  unfolding alterations
  length-alterations [] y = refl
  length-alterations (a ∷ xs) y = ap suc (length-alterations xs (t.next a y))

  pub length-affords : (b : Budget) (xs : List A) → length (affords t b xs) ≡ min (room_for t b) (length xs)
  unfolding affords
  length-affords b xs = length-take (room_for t b) (become t xs b.seed) ∙ rw (length-become xs b.seed)

  -- no more are altered than are bought, each being `per` events at most
  alterations-le : (per : ℕ) → ((a : A) (y : ℕ) → t.alters a y ≤ per) → (n : ℕ) (xs : List A) (y : ℕ) → sum_of (λ n. n) (take n (alterations t xs y)) ≤ per * min n (length xs)
  unfolding alterations sum_of
  alterations-le per h zero xs y = zero-le
  alterations-le per h (suc n) [] y = zero-le
  alterations-le per h (suc n) (a ∷ xs) y =
      let m : min (suc n) (suc (length xs)) ≡ suc (min n (length xs)) = omega arith in
      rw (m, mul-suc) (omega (arith, h a y, alterations-le per h n xs (t.next a y)))

  pub altered-le : (per : ℕ) → ((a : A) (y : ℕ) → t.alters a y ≤ per) → (b : Budget) (xs : List A) → altered_in t b xs ≤ per * length (affords t b xs)
  unfolding altered_in
  altered-le per h b xs = rw (length-affords b xs) (alterations-le per h (room_for t b) xs b.seed)

  -- ---- what is left
  pay-ok : (a : A) (p : Purse G) → ok_budget p.budget ≡ true → ok_budget (pay t a p).budget ≡ true
  unfolding pay ok_budget
  pay-ok a p h = keeps-ok t.size (seeded p.budget (t.next a p.budget.seed)) h

  pub ok : (xs : List A) (p : Purse G) → ok_budget p.budget ≡ true → ok_budget (pay_all t xs p).budget ≡ true
  unfolding pay_all
  ok [] p h = h
  ok (a ∷ xs) p h = ok xs (pay t a p) (pay-ok a p h)

  pub through-ok : 0 < t.size → (xs : List A) (b : Budget) → ok_budget b ≡ true → ok_budget (budget_through t b xs) ≡ true
  through-ok some xs b h = sym (ap (λ (x : Purse G). ok_budget x.budget) (closed t some xs (purse b []))) ∙ ok xs (purse b []) h

  module _ (some : 0 < t.size) (xs : List A) (p : Purse G) where
    abbrev q : Purse G
    q = pay_all t xs p

    pub used : q.budget.used ≡ p.budget.used + t.size * min (room_for t p.budget) (length xs)
    unfolding budget_through
    used = ap (λ (x : Purse G). x.budget.used) (closed t some xs p)

    pub many : length q.bought ≡ length p.bought + min (room_for t p.budget) (length xs)
    many =
        ap (λ (x : Purse G). length x.bought) (closed t some xs p) ∙ length-append p.bought (affords t p.budget xs)
        ∙ ap (λ (n : ℕ). length p.bought + n) (length-affords p.budget xs)

    pub seed : q.budget.seed ≡ seed_through t xs p.budget.seed
    unfolding budget_through
    seed = ap (λ (x : Purse G). x.budget.seed) (closed t some xs p)

    pub maximum : q.budget.maximum ≡ p.budget.maximum
    unfolding budget_through
    maximum = ap (λ (x : Purse G). x.budget.maximum) (closed t some xs p)

    pub flag : q.budget.over ≡ cond (lost t p.budget xs) 1 p.budget.over
    unfolding budget_through
    flag = ap (λ (x : Purse G). x.budget.over) (closed t some xs p)

    -- 02, g: "that number equals the count over the values the rules define"
    pub counts : q.altered ≡ p.altered + altered_in t p.budget xs
    counts = ap (λ (x : Purse G). x.altered) (closed t some xs p)

    pub buys : q.bought ≡ p.bought ++ affords t p.budget xs
    buys = ap (λ (x : Purse G). x.bought) (closed t some xs p)

    -- where there is room for all
    module _ (h : length xs ≤ room_for t p.budget) where
      pub ample : q ≡ filled (record { seed = seed_through t xs p.budget.seed; maximum = p.budget.maximum; used = p.budget.used + t.size * length xs; over = p.budget.over }) (p.bought ++ become t xs p.budget.seed) (p.altered + sum_of (λ n. n) (alterations t xs p.budget.seed))
      unfolding budget_through affords altered_in
      ample =
          let n : min (room_for t p.budget) (length xs) ≡ length xs = omega arith in
          let l : length (become t xs p.budget.seed) ≤ room_for t p.budget = rw (length-become xs p.budget.seed) h in
          let k : length (alterations t xs p.budget.seed) ≤ room_for t p.budget = rw (length-alterations xs p.budget.seed) h in
          closed t some xs p ∙ rw (n, take_all (room_for t p.budget) (alterations t xs p.budget.seed) k, le-ltb (room_for t p.budget) (length xs) h, take_all (room_for t p.budget) (become t xs p.budget.seed) l)

    pub clear : q.budget.over ≡ 0 → length xs ≤ room_for t p.budget
    clear e = go (lost t p.budget xs) refl (sym flag ∙ e)
      where
        go : (f : Bool) → lost t p.budget xs ≡ f → cond f 1 p.budget.over ≡ 0 → length xs ≤ room_for t p.budget
        go true g z = absurd (omega arith)
        go false g z = ltb-false (room_for t p.budget) (length xs) g

  pub bytes : 0 < t.size → (xs : List A) (b : Budget) → (pay_all t xs (purse b [])).budget.used ≡ b.used + t.size * length (pay_all t xs (purse b [])).bought
  bytes some xs b =
      let n = min (room_for t b) (length xs) in
      let e : 0 + n ≡ n = omega arith in
      used some xs (purse b []) ∙ ap (λ (k : ℕ). b.used + t.size * k) (sym (many some xs (purse b []) ∙ e))

  -- of a call that stops
  pub until-ok : 0 < t.size → (xs : List A) (p : Purse G) → ok_budget p.budget ≡ true → ok_budget (pay_until t xs p).budget ≡ true
  until-ok some xs p h = ap (λ (x : Purse G). ok_budget x.budget) (stopping t some xs p) ∙ ok (take (suc (room_for t p.budget)) xs) p h

  pub until-bytes : 0 < t.size → (xs : List A) (b : Budget) → (pay_until t xs (purse b [])).budget.used ≡ b.used + t.size * length (pay_until t xs (purse b [])).bought
  until-bytes some xs b = rw (stopping t some xs (purse b [])) (bytes some (take (suc (room_for t b)) xs) b)

  pub from_empty : 0 < t.size → (xs : List A) (p : Purse G)
      → (let q = pay_all t xs (purse p.budget []) in
      pay_all t xs p ≡ filled q.budget (p.bought ++ q.bought) (p.altered + q.altered))
  from_empty some xs p =
      let h : 0 + altered_in t p.budget xs ≡ altered_in t p.budget xs = omega arith in
      let c = closed t some xs (purse p.budget []) in
      closed t some xs p ∙ ap (λ (n : ℕ). filled (budget_through t p.budget xs) (p.bought ++ affords t p.budget xs) (p.altered + n)) (sym h)
      ∙ ap (λ (q : Purse G). filled q.budget (p.bought ++ q.bought) (p.altered + q.altered)) (sym c)

  pub forget : 0 < t.size → (xs : List A) (p : Purse G) → uncounted (pay_all t xs p) ≡ uncounted (pay_all t xs (uncounted p))
  forget some xs p = ap uncounted (closed t some xs p) ∙ sym (ap uncounted (closed t some xs (uncounted p)))

  -- ---- of all that is bought
  module _ (q : G → Bool) (r : A → Bool) (h : (a : A) (y : ℕ) → r a ≡ true → q (t.becomes a y) ≡ true) where
    one-bought : (a : A) (p : Purse G) → r a ≡ true → all q p.bought ≡ true → all q (pay t a p).bought ≡ true
    unfolding pay all
    one-bought a p e l = go (fits t.size p.budget)
      where
        g : G
        g = t.becomes a p.budget.seed

        go : (f : Bool) → all q (cond f (p.bought ++ (g ∷ [])) p.bought) ≡ true
        go true = all_append q p.bought (g ∷ []) l (rw (h a p.budget.seed e))
        go false = l

    pub all-bought : (xs : List A) (p : Purse G) → all r xs ≡ true → all q p.bought ≡ true → all q (pay_all t xs p).bought ≡ true
    unfolding pay_all all
    all-bought [] p e l = l
    all-bought (a ∷ xs) p e l = all-bought xs (pay t a p) (right (r a) (all r xs) e) (one-bought a p (left (r a) (all r xs) e) l)

  -- ---- sums
  sum_more : (w : G → ℕ) (l : List G) (g : G) → sum_of w (l ++ (g ∷ [])) ≡ sum_of w l + w g
  unfolding sum_of
  sum_more w [] g = omega arith
  sum_more w (x ∷ l) g = omega (arith, sum_more w l g)

  module _ (w : G → ℕ) (each : (a : A) (y : ℕ) → w (t.becomes a y) ≡ t.size) where
    weighed-one : (a : A) (p : Purse G) (k : ℕ) → p.budget.used ≡ k + sum_of w p.bought → (pay t a p).budget.used ≡ k + sum_of w (pay t a p).bought
    unfolding pay
    weighed-one a p k h = go (fits t.size p.budget)
      where
        g : G
        g = t.becomes a p.budget.seed

        go : (f : Bool) → cond f (p.budget.used + t.size) p.budget.used ≡ k + sum_of w (cond f (p.bought ++ (g ∷ [])) p.bought)
        go true = omega (arith, sum_more w p.bought g, each a p.budget.seed)
        go false = h

    pub weighed : (xs : List A) (p : Purse G) (k : ℕ) → p.budget.used ≡ k + sum_of w p.bought → (pay_all t xs p).budget.used ≡ k + sum_of w (pay_all t xs p).bought
    unfolding pay_all
    weighed [] p k h = h
    weighed (a ∷ xs) p k h = weighed xs (pay t a p) k (weighed-one a p k h)

    pub until-weighed : 0 < t.size → (xs : List A) (p : Purse G) (k : ℕ) → p.budget.used ≡ k + sum_of w p.bought → (pay_until t xs p).budget.used ≡ k + sum_of w (pay_until t xs p).bought
    until-weighed some xs p k h = rw (stopping t some xs p) (weighed (take (suc (room_for t p.budget)) xs) p k h)
