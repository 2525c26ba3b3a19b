-- Demand 3: a series of accepted cycle calls makes every write that is due, once.
-- Where the free budget holds all that is due, no write of a call is lost (`push-fits`), so a call only moves writes from
-- "due" to "made" (`called`, `rest-of`); each call exactly at T takes 10,000 of them or all (`bite`).
use mathlib.Core.Path.{◌≡◌, refl, sym, ap, ap₂, ◌∙◌}
use mathlib.Core.Bool.{Bool, true, false, cond}
use mathlib.Core.List.{List, [], ◌∷◌, ◌++◌, append-nil, append_assoc}
use Prim.Native.Nat.{ℕ, suc, ◌+◌, ◌-◌, ◌*◌, ◌/◌, ◌≤◌, min}
use native.Mathlib.Omega.{arith}
use borrow.Author.Tests.{le-leb}
use lib.IntN.{ℤ}
use lib.Signed.{◌≤ℤ◌}
use lib.ListN.{length, length-append}
use Rattle.laws.specs.Integers.{eq_z}
use Rattle.laws.proofs.Bits.{eq_z-true}
use Rattle.numbers.specs.Limits.{cycle_writes, value_bytes}
use Rattle.budget.specs.declared.Budget.{Budget}
use Rattle.budget.specs.Budgets.{free}
use Rattle.cycles.specs.declared.Cycle.{Cycle}
use Rattle.cycles.specs.Due.{DueWrite, dues, owed, leaves, only}
use Rattle.cycles.specs.Rules.{ok_table}
use Rattle.cycles.specs.Calls.{State, Turn, limit, wrote, push, events_of, seed_of, share, moved, call, series, made, answered, calls, Accepted, Until, hits}
use Rattle.cycles.specs.Promise.{InOrder, Done}
use Rattle.cycles.proofs.Table.{Fine, length-takes, owed-leaves, owed-mono, only-append, split, none-due}
use Rattle.cycles.proofs.Rules.{fine}
use Rattle.cycles.proofs.Order.{dues-order}

module _ {E : Type 0} (f : Turn E) where
  -- ---- writes that all fit

  abbrev became : List Cycle → Budget → ℕ → ℕ → List E → State E
  became tab b y n es = record { table = tab; budget = record { seed = y; maximum = b.maximum; used = n; over = b.over }; events = es }

  wrote-fits : (w : DueWrite) (s : State E) → value_bytes ≤ free s.budget
      → wrote f w s ≡ became s.table s.budget (f w s.budget.seed).1 (s.budget.used + value_bytes) (s.events ++ ((f w s.budget.seed).0 ∷ []))
  unfolding wrote
  wrote-fits w s h = rw (le-leb value_bytes (free s.budget) h)

  pub push-fits : (ws : List DueWrite) (s : State E) → value_bytes * length ws ≤ free s.budget
      → push f ws s ≡ became s.table s.budget (seed_of f ws s.budget.seed) (s.budget.used + value_bytes * length ws) (s.events ++ events_of f ws s.budget.seed)
  unfolding push seed_of events_of
  push-fits [] s h =
      let e : s.budget.used ≡ s.budget.used + 8 * 0 = omega arith in
      ap₂ (became s.table s.budget s.budget.seed) e (sym (append-nil s.events))
  push-fits (w ∷ ws) s h =
      let b = s.budget in
      let y = f w b.seed in
      let s' : State E = became s.table b y.1 (b.used + value_bytes) (s.events ++ (y.0 ∷ [])) in
      let e : b.used + 8 + 8 * length ws ≡ b.used + 8 * suc (length ws) = omega arith in
      rw (le-leb value_bytes (free b) (omega arith), wrote-fits w s (omega arith))
      (push-fits ws s' (omega arith)
      ∙ ap₂ (became s.table b (seed_of f ws y.1)) e (append_assoc s.events (y.0 ∷ []) (events_of f ws y.1)))

  events_of-append : (xs ys : List DueWrite) (y : ℕ) → events_of f (xs ++ ys) y ≡ events_of f xs y ++ events_of f ys (seed_of f xs y)
  unfolding events_of seed_of
  events_of-append [] ys y = refl
  events_of-append (w ∷ xs) ys y = ap (λ (es : List E). (f w y).0 ∷ es) (events_of-append xs ys (f w y).1)

  pub length-events_of : (ws : List DueWrite) (y : ℕ) → length (events_of f ws y) ≡ length ws
  unfolding events_of
  length-events_of [] y = refl
  length-events_of (w ∷ ws) y = ap suc (length-events_of ws (f w y).1)

  seed_of-append : (xs ys : List DueWrite) (y : ℕ) → seed_of f (xs ++ ys) y ≡ seed_of f ys (seed_of f xs y)
  unfolding seed_of
  seed_of-append [] ys y = refl
  seed_of-append (w ∷ xs) ys y = seed_of-append xs ys (f w y).1

  -- ---- one call, up to u, where all that is due up to t fits

  module _ (t u : ℤ) (s : State E) (p : u ≤ℤ t) (h : Fine s.table) (b : value_bytes * owed t s.table ≤ free s.budget) where
    -- the budget's part of the limit never cuts
    taken : length (share u s) ≡ min cycle_writes (owed u s.table)
    unfolding share limit
    taken = length-takes (limit s.budget) u s.table ∙ omega (arith, owed-mono u t s.table p h)

    rest-of : owed t (leaves (limit s.budget) u s.table) + length (share u s) ≡ owed t s.table
    unfolding share
    rest-of = rw length-takes (owed-leaves (limit s.budget) u t s.table p h)

    called : call f u s
        ≡ became (leaves (limit s.budget) u s.table) s.budget (seed_of f (share u s) s.budget.seed) (s.budget.used + value_bytes * length (share u s)) (s.events ++ events_of f (share u s) s.budget.seed)
    unfolding call moved
    called = push-fits (share u s) (moved u s) (omega (arith, rest-of))

    -- what is left of the budget is enough for what is left
    kept : value_bytes * owed t (call f u s).table ≤ free (call f u s).budget
    kept = rw called (omega (arith, rest-of))

    fewer : owed t (call f u s).table ≤ owed t s.table
    fewer = rw called (omega (arith, rest-of))

    bite : u ≡ t → owed t (call f u s).table ≤ owed t s.table - cycle_writes
    bite e =
        let n : owed u s.table ≡ owed t s.table = ap (λ (v : ℤ). owed v s.table) e in
        rw called (omega (arith, rest-of, taken))

    -- a list with room for all that is due has room for what the call adds, and then for the rest: no call is refused for room
    pub roomy : (most : ℕ) → length s.events + owed t s.table ≤ most → length (call f u s).events + owed t (call f u s).table ≤ most
    roomy most r = rw (called, length-append, length-events_of) (omega (arith, rest-of))

  -- ---- the series

  enough : (t u : ℤ) (us : List ℤ) (s : State E) → u ≤ℤ t → Fine s.table → value_bytes * owed t s.table ≤ free s.budget
      → owed t s.table ≤ cycle_writes * hits t (u ∷ us) → owed t (call f u s).table ≤ cycle_writes * hits t us
  unfolding hits
  enough t u us s p h b = go (eq_z u t) refl
    where
      go : (d : Bool) → eq_z u t ≡ d → owed t s.table ≤ cycle_writes * (cond d 1 0 + hits t us) → owed t (call f u s).table ≤ cycle_writes * hits t us
      go true e n = omega (arith, bite t u s p h b (eq_z-true u t e))
      go false e n = omega (arith, fewer t u s p h b)

  -- a call before a series
  before : (t u : ℤ) (us : List ℤ) (s : State E) → u ≤ℤ t → Fine s.table → value_bytes * owed t s.table ≤ free s.budget
      → Done f t us (call f u s) → Done f t (u ∷ us) s
  unfolding made series
  before t u us s p h b d =
      let w : List DueWrite = share u s in
      let m : List DueWrite = made f us (call f u s) in
      let c = called t u s p h b in
      let o = ap (λ (x : State E). owed t x.table) c in
      let each : (a : ℕ) → only a (w ++ m) ≡ only a (dues t s.table) =
      λ a. only-append a w m
      ∙ ap (λ (z : List DueWrite). only a w ++ z) (d.each a)
      ∙ ap (λ (x : State E). only a w ++ only a (dues t x.table)) c
      ∙ unfold share in split a (limit s.budget) u t s.table p h in
      record {
        each = each;
        count = length-append w m ∙ omega (arith, d.count, o, rest-of t u s p h b);
        order = λ a. rw (each a) (dues-order a t s.table h);
        events =
            d.events
            ∙ ap (λ (x : State E). x.events ++ events_of f m x.budget.seed) c
            ∙ append_assoc s.events (events_of f w s.budget.seed) (events_of f m (seed_of f w s.budget.seed))
            ∙ ap (λ (z : List E). s.events ++ z) (sym (events_of-append w m s.budget.seed));
        seed = d.seed ∙ ap (λ (x : State E). seed_of f m x.budget.seed) c ∙ sym (seed_of-append w m s.budget.seed);
        rest = d.rest;
        bytes = d.bytes ∙ omega (arith, ap (λ (x : State E). x.budget.used) c, o, rest-of t u s p h b);
        maximum = d.maximum ∙ ap (λ (x : State E). x.budget.maximum) c;
        flag = d.flag ∙ ap (λ (x : State E). x.budget.over) c;
      }

  nothing : (t : ℤ) (s : State E) → owed t s.table ≡ 0 → Done f t [] s
  unfolding made series events_of seed_of only InOrder
  nothing t s z =
      record {
        each = λ a. sym (none-due a t s.table z);
        count = omega arith;
        order = λ a. tt;
        events = sym (append-nil s.events);
        seed = refl;
        rest = z;
        bytes = omega arith;
        maximum = refl;
        flag = refl;
      }

  -- `code` is the number that a call answers, and a table against the rules is refused
  module _ (code : ℤ → State E → ℕ) (strict : (u : ℤ) (s : State E) → code u s ≡ 0 → ok_table s.table ≡ true) where
    all_done : (t : ℤ) (us : List ℤ) (s : State E) → Accepted f code us s → Until t us → value_bytes * owed t s.table ≤ free s.budget
        → owed t s.table ≤ cycle_writes * hits t us → (calls f code us s ≡ series f us s) × Done f t us s
    unfolding hits calls series Accepted answered Until
    all_done t [] s ok ps b n = (refl, nothing t s (omega arith))
    all_done t (u ∷ us) s ok ps b n =
        let h : Fine s.table = fine s.table (strict u s ok.0) in
        let e : answered f (code u s) u s ≡ call f u s = ap (λ (n : ℕ). answered f n u s) ok.0 in
        let r = all_done t us (call f u s) (rw e at ok.1) ps.1 (kept t u s ps.0 h b) (enough t u us s ps.0 h b n) in
        (ap (calls f code us) e ∙ r.0, before t u us s ps.0 h b r.1)

    -- demand 3: accepted calls, none past t, at least D / 10,000 (rounded up) exactly at t, and a free budget that holds
    -- 8 bytes for each of the D writes due
    pub demand-3 : (t : ℤ) (us : List ℤ) (s : State E)
        → Accepted f code us s
        → Until t us
        → value_bytes * owed t s.table ≤ free s.budget
        → (owed t s.table + (cycle_writes - 1)) / cycle_writes ≤ hits t us
        → (calls f code us s ≡ series f us s) × Done f t us s
    demand-3 t us s ok ps b n = all_done t us s ok ps b (omega arith)
