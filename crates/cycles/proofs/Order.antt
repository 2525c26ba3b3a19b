-- A target's due writes are those of its one record (`own`), and each is later than the one before it.
use mathlib.Core.Path.{◌≡◌, refl, sym, ap, ◌∙◌}
use mathlib.Core.Bool.{Bool, true, false, cond, true≢false}
use mathlib.Core.List.Memᴰ
use mathlib.Core.List.{List, [], ◌∷◌, ◌++◌, Memᴰ}
use mathlib.Core.Logic.{◌⊎◌, inl, inr}
use Prim.Native.Nat.{ℕ, zero, suc, ◌+◌, ◌-◌, ◌<◌}
use native.Mathlib.Omega.{arith}
use borrow.Author.Tests.{eq-eqb, eqb-true, ltb-true}
use lib.Dec.{T, eqb, ltb, lt→ltb}
use lib.IntN.{ℤ, pos, negsuc, ◌+ℤ◌}
use lib.Signed.{lt_z, ◌<ℤ◌, lt_z_yes}
use Rattle.laws.specs.Integers.{cut}
use Rattle.cycles.specs.declared.Cycle.{Cycle}
use Rattle.cycles.specs.Due.{write_of, advanced, run, due_count, due, dues, key, only}
use Rattle.cycles.specs.Promise.{InOrder}
use Rattle.cycles.proofs.Table.{Free, Fine, free-dues, mine, other}

-- ---- a target's own

free-mem : (a : ℕ) (c : Cycle) (tab : List Cycle) → Memᴰ c tab → Free a tab → eqb a (key c.target) ≡ false
free-mem a c [] m h = absurd (Memᴰ.not-nil m)
free-mem a c (x ∷ cs) m h = go (Memᴰ.cases_cons m) (λ n. free-mem a c cs n h.1)
  where
    go : (c ≡ x) ⊎ Memᴰ c cs → (Memᴰ c cs → eqb a (key c.target) ≡ false) → eqb a (key c.target) ≡ false
    go (inl e) ih = ap (λ (r : Cycle). eqb a (key r.target)) e ∙ h.0
    go (inr n) ih = ih n

pub own : (t : ℤ) (c : Cycle) (tab : List Cycle) → Memᴰ c tab → Fine tab → only (key c.target) (dues t tab) ≡ due t c
unfolding dues due
own t c [] m h = absurd (Memᴰ.not-nil m)
own t c (x ∷ cs) m h = go (Memᴰ.cases_cons m) (λ n. own t c cs n h.2)
  where
    a : ℕ
    a = key c.target

    self : eqb a a ≡ true
    self = eq-eqb a a refl

    -- an earlier record of this target would leave none for the rest
    apart : (b : Bool) → eqb a (key x.target) ≡ b → Memᴰ c cs → eqb a (key x.target) ≡ false
    apart false e n = e
    apart true e n =
        let fr : Free a cs = rw (eqb-true a (key x.target) e) h.1 in
        absurd (true≢false (sym self ∙ free-mem a c cs n fr))

    go : (c ≡ x) ⊎ Memᴰ c cs → (Memᴰ c cs → only a (dues t cs) ≡ due t c) → only a (due t x ++ dues t cs) ≡ due t c
    go (inl e) ih =
        let fr : Free a cs = rw e h.1 in
        rw (← e) (mine a (due_count t c) c (dues t cs) self (free-dues a t cs fr))
    go (inr n) ih = other a (due_count t x) x (dues t cs) (apart (eqb a (key x.target)) refl n) ∙ ih n

-- ---- in time order

later : (z : ℤ) (k : ℕ) → T (lt_z z (z +ℤ pos (suc k)))
later (pos a) k = lt→ltb a (a + suc k) (omega arith)
later (negsuc a) k = go (ltb (suc k) (suc a)) refl
  where
    go : (b : Bool) → ltb (suc k) (suc a) ≡ b → T (lt_z (negsuc a) (cond b (negsuc (suc a - suc (suc k))) (pos (suc k - suc a))))
    go true e = lt→ltb (suc a - suc (suc k)) a (omega (arith, ltb-true (suc k) (suc a) e))
    go false e = tt

later-by : (z l : ℤ) → 0 < cut l → z <ℤ (z +ℤ l)
later-by z (pos zero) h = absurd (omega arith)
later-by z (pos (suc k)) h = lt_z_yes (later z k)
later-by z (negsuc k) h = absurd (omega arith)

pub run-order : (k : ℕ) (c : Cycle) → 0 < cut c.length → InOrder (run k c)
unfolding InOrder run write_of advanced
run-order zero c h = tt
run-order (suc zero) c h = tt
run-order (suc (suc k)) c h = (later-by c.next c.length h, run-order (suc k) (advanced c) h)

pub dues-order : (a : ℕ) (t : ℤ) (tab : List Cycle) → Fine tab → InOrder (only a (dues t tab))
unfolding InOrder dues due only
dues-order a t [] h = tt
dues-order a t (c ∷ cs) h = go (eqb a (key c.target)) refl (dues-order a t cs h.2)
  where
    go : (b : Bool) → eqb a (key c.target) ≡ b → InOrder (only a (dues t cs)) → InOrder (only a (run (due_count t c) c ++ dues t cs))
    go true e ih =
        let fr : Free a cs = rw (eqb-true a (key c.target) e) h.1 in
        rw (mine a (due_count t c) c (dues t cs) e (free-dues a t cs fr)) (run-order (due_count t c) c h.0)
    go false e ih = rw (other a (due_count t c) c (dues t cs) e) ih
