-- 01, "One value" and "On-time curves": each write steps the seed and then asks the budget for its bytes; what fits is paid for and added,
-- what does not is lost and sets the flag. Told over any kind of write, whatever it becomes and however many bytes it takes: a curve's point,
-- a cycle's due write, a list's value at a note. Payments are told twice: one after the other (`pay`, `pay_all`, `pay_until`), as the document
-- says it, and as a closed form (`paid_for`), from which proofs/ reads the numbers.
use Rattle.std.specs.Prelude.{Bool, cond, List, [], ◌∷◌, ◌++◌, ℕ, ◌+◌, ◌*◌, min, ltb, length, take}
use Rattle.budget.specs.declared.Budget.{Budget}
use Rattle.budget.specs.Budgets.{room, fits, seeded, reserved}

-- on what terms writes are paid for: A is a write, G what it becomes
pub record Terms (A G : Type 0) : Type 0 where
  -- the bytes that each asks for
  pub size : ℕ
  -- the seed's step
  pub next : A → ℕ → ℕ
  -- what a write becomes, of the seed before that step
  pub becomes : A → ℕ → G
  -- 02, g: how many of its events the last clamp alters; none, until the calls tell it
  pub alters : A → ℕ → ℕ

-- the budget that a call is lent, all that was paid for, in order, and how many events of that the clamp altered
pub record Purse (G : Type 0) : Type 0 where
  pub budget : Budget
  pub bought : List G
  pub altered : ℕ

abbrev pub filled : {G : Type 0} → Budget → List G → ℕ → Purse G
filled b l n = record { budget = b; bought = l; altered = n }

-- a purse in which nothing is counted yet, and what a purse holds beside its count
abbrev pub purse : {G : Type 0} → Budget → List G → Purse G
purse b l = filled b l 0

abbrev pub uncounted : {G : Type 0} → Purse G → Purse G
uncounted p = purse p.budget p.bought

unfoldable pub sum_of : {G : Type 0} → (G → ℕ) → List G → ℕ
sum_of w [] = 0
sum_of w (g ∷ gs) = w g + sum_of w gs

module _ {A G : Type 0} (t : Terms A G) where
  -- "it steps before the budget is asked"
  abbrev pub charged : A → Budget → Budget
  charged a b = reserved t.size (seeded b (t.next a b.seed))

  -- one write: where it does not fit it adds nothing and counts for nothing
  unfoldable pub pay : A → Purse G → Purse G
  pay a p =
      let b = p.budget in
      let f = fits t.size b in
      filled (charged a b) (cond f (p.bought ++ (t.becomes a b.seed ∷ [])) p.bought) (cond f (p.altered + t.alters a b.seed) p.altered)

  -- writes one after the other
  unfoldable pub pay_all : List A → Purse G → Purse G
  pay_all [] p = p
  pay_all (a ∷ xs) p = pay_all xs (pay a p)

  -- "the first write that doesn't fit stops the call"
  unfoldable pub pay_until : List A → Purse G → Purse G
  pay_until [] p = p
  pay_until (a ∷ xs) p = cond (fits t.size p.budget) (pay_until xs (pay a p)) (pay a p)

  -- ---- the closed form: as many are paid for as there are and as there is room for
  -- what writes become, how many events of each the clamp alters, and the seed that has gone through them
  unfoldable pub become : List A → ℕ → List G
  become [] y = []
  become (a ∷ xs) y = t.becomes a y ∷ become xs (t.next a y)

  unfoldable pub alterations : List A → ℕ → List ℕ
  alterations [] y = []
  alterations (a ∷ xs) y = t.alters a y ∷ alterations xs (t.next a y)

  unfoldable pub seed_through : List A → ℕ → ℕ
  seed_through [] y = y
  seed_through (a ∷ xs) y = seed_through xs (t.next a y)

  -- how many still fit, and whether one of them does not
  abbrev pub room_for : Budget → ℕ
  room_for b = room t.size b

  abbrev pub lost : Budget → List A → Bool
  lost b xs = ltb (room_for b) (length xs)

  -- the budget that has gone through them, what it affords of what they become, and how much of that is altered
  unfoldable pub budget_through : Budget → List A → Budget
  budget_through b xs =
      record {
        seed = seed_through xs b.seed;
        maximum = b.maximum;
        used = b.used + t.size * min (room_for b) (length xs);
        over = cond (lost b xs) 1 b.over;
      }

  unfoldable pub affords : Budget → List A → List G
  affords b xs = take (room_for b) (become xs b.seed)

  unfoldable pub altered_in : Budget → List A → ℕ
  altered_in b xs = sum_of (λ n. n) (take (room_for b) (alterations xs b.seed))

  abbrev pub paid_for : List A → Purse G → Purse G
  paid_for xs p = filled (budget_through p.budget xs) (p.bought ++ affords p.budget xs) (p.altered + altered_in p.budget xs)
