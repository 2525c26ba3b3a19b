-- One call's share of what a table owes: how many writes it takes and leaves (`length-takes`, `owed-leaves`), and that of
-- each target those taken, then those still due, are those that were due (`split`).
use mathlib.Core.Path.{◌≡◌, refl, sym, ap, ap₂, ◌∙◌}
use mathlib.Core.Bool.{Bool, true, false, cond}
use mathlib.Core.List.{List, [], ◌∷◌, ◌++◌, append-nil}
use Prim.Native.Nat.{ℕ, zero, suc, ◌+◌, ◌-◌, ◌≤◌, ◌<◌, min}
use native.Mathlib.Omega.{arith}
use borrow.Author.Tests.{eqb-true}
use lib.Dec.{eqb}
use lib.IntN.{ℤ}
use lib.Signed.{◌≤ℤ◌}
use lib.ListN.{length, length-append}
use Rattle.laws.specs.Integers.{cut}
use Rattle.cycles.specs.declared.Cycle.{Cycle}
use Rattle.cycles.specs.Due.{DueWrite, write_of, advanced, run, after, due_count, due, dues, owed, takes, leaves, key, only}
use Rattle.cycles.proofs.Count.{count-after, count-mono, target-after, length_run, run-add}

-- none of the records has this key
abbrev pub Free : ℕ → List Cycle → Type 0
Free a [] = Unit {0}
Free a (c ∷ cs) = (eqb a (key c.target) ≡ false) × Free a cs

-- what the laws need of a table: lengths of at least 1, and a target at most once
abbrev pub Fine : List Cycle → Type 0
Fine [] = Unit {0}
Fine (c ∷ cs) = (0 < cut c.length) × Free (key c.target) cs × Fine cs

-- ---- how many

pub length-takes : (m : ℕ) (u : ℤ) (tab : List Cycle) → length (takes m u tab) ≡ min m (owed u tab)
unfolding takes owed
length-takes m u [] = omega arith
length-takes m u (c ∷ cs) = simp (length-append, length_run) (omega (arith, length-takes (m - due_count u c) u cs))

pub owed-leaves : (m : ℕ) (u t : ℤ) (tab : List Cycle) → u ≤ℤ t → Fine tab → owed t (leaves m u tab) + min m (owed u tab) ≡ owed t tab
unfolding leaves owed
owed-leaves m u t [] p h = omega arith
owed-leaves m u t (c ∷ cs) p h =
    omega (arith, count-after t (min m (due_count u c)) c h.0, count-mono u t c h.0 p, owed-leaves (m - due_count u c) u t cs p h.2)

pub owed-mono : (u t : ℤ) (tab : List Cycle) → u ≤ℤ t → Fine tab → owed u tab ≤ owed t tab
unfolding owed
owed-mono u t [] p h = omega arith
owed-mono u t (c ∷ cs) p h = omega (arith, count-mono u t c h.0 p, owed-mono u t cs p h.2)

-- ---- the table stays fine

free-leaves : (a m : ℕ) (u : ℤ) (tab : List Cycle) → Free a tab → Free a (leaves m u tab)
unfolding leaves
free-leaves a m u [] h = tt
free-leaves a m u (c ∷ cs) h = (rw target-after h.0, free-leaves a (m - due_count u c) u cs h.1)

-- ---- the writes of one target

pub only-append : (a : ℕ) (xs ys : List DueWrite) → only a (xs ++ ys) ≡ only a xs ++ only a ys
unfolding only
only-append a [] ys = refl
only-append a (w ∷ xs) ys = go (eqb a (key w.target)) (only-append a xs ys)
  where
    go : (b : Bool) → only a (xs ++ ys) ≡ only a xs ++ only a ys
        → cond b (w ∷ only a (xs ++ ys)) (only a (xs ++ ys)) ≡ cond b (w ∷ only a xs) (only a xs) ++ only a ys
    go true e = ap (λ (zs : List DueWrite). w ∷ zs) e
    go false e = e

only_same : (a k : ℕ) (c : Cycle) → eqb a (key c.target) ≡ true → only a (run k c) ≡ run k c
unfolding only run write_of advanced
only_same a zero c e = refl
only_same a (suc k) c e = rw e (ap (λ (zs : List DueWrite). write_of c ∷ zs) (only_same a k (advanced c) e))

only-other : (a k : ℕ) (c : Cycle) → eqb a (key c.target) ≡ false → only a (run k c) ≡ []
unfolding only run write_of advanced
only-other a zero c e = refl
only-other a (suc k) c e = rw e (only-other a k (advanced c) e)

-- a record's own writes before others', none of which are its target's; and those of another record
pub mine : (a k : ℕ) (c : Cycle) (zs : List DueWrite) → eqb a (key c.target) ≡ true → only a zs ≡ [] → only a (run k c ++ zs) ≡ run k c
mine a k c zs e n = only-append a (run k c) zs ∙ rw (only_same a k c e, n) (append-nil (run k c))

pub other : (a k : ℕ) (c : Cycle) (zs : List DueWrite) → eqb a (key c.target) ≡ false → only a (run k c ++ zs) ≡ only a zs
other a k c zs e = only-append a (run k c) zs ∙ rw (only-other a k c e)

free-takes : (a m : ℕ) (u : ℤ) (tab : List Cycle) → Free a tab → only a (takes m u tab) ≡ []
unfolding takes only
free-takes a m u [] h = refl
free-takes a m u (c ∷ cs) h = other a (min m (due_count u c)) c (takes (m - due_count u c) u cs) h.0 ∙ free-takes a (m - due_count u c) u cs h.1

pub free-dues : (a : ℕ) (t : ℤ) (tab : List Cycle) → Free a tab → only a (dues t tab) ≡ []
unfolding dues due only
free-dues a t [] h = refl
free-dues a t (c ∷ cs) h = other a (due_count t c) c (dues t cs) h.0 ∙ free-dues a t cs h.1

run-split : (m : ℕ) (u t : ℤ) (c : Cycle) → u ≤ℤ t → 0 < cut c.length
    → run (min m (due_count u c)) c ++ due t (after (min m (due_count u c)) c) ≡ due t c
unfolding due
run-split m u t c p h =
    let k : ℕ = min m (due_count u c) in
    let e : k + due_count t (after k c) ≡ due_count t c = omega (arith, count-after t k c h, count-mono u t c h p) in
    sym (run-add k (due_count t (after k c)) c) ∙ ap (λ (n : ℕ). run n c) e

pub split : (a m : ℕ) (u t : ℤ) (tab : List Cycle) → u ≤ℤ t → Fine tab
    → only a (takes m u tab) ++ only a (dues t (leaves m u tab)) ≡ only a (dues t tab)
unfolding takes leaves dues due only
split a m u t [] p h = refl
split a m u t (c ∷ cs) p h = go (eqb a (key c.target)) refl (split a (m - due_count u c) u t cs p h.2)
  where
    k : ℕ
    k = min m (due_count u c)

    rest : ℕ
    rest = m - due_count u c

    go : (b : Bool) → eqb a (key c.target) ≡ b → only a (takes rest u cs) ++ only a (dues t (leaves rest u cs)) ≡ only a (dues t cs)
        → only a (takes m u (c ∷ cs)) ++ only a (dues t (leaves m u (c ∷ cs))) ≡ only a (dues t (c ∷ cs))
    go true e ih =
        let fr : Free a cs = rw (eqb-true a (key c.target) e) h.1 in
        ap₂ ◌++◌ (mine a k c (takes rest u cs) e (free-takes a rest u cs fr))
        (mine a (due_count t (after k c)) (after k c) (dues t (leaves rest u cs)) (rw target-after e)
        (free-dues a t (leaves rest u cs) (free-leaves a rest u cs fr)))
        ∙ run-split m u t c p h.0
        ∙ sym (mine a (due_count t c) c (dues t cs) e (free-dues a t cs fr))
    go false e ih =
        ap₂ ◌++◌ (other a k c (takes rest u cs) e) (other a (due_count t (after k c)) (after k c) (dues t (leaves rest u cs)) (rw target-after e))
        ∙ ih
        ∙ sym (other a (due_count t c) c (dues t cs) e)

-- a table that owes nothing has no due writes
pub none-due : (a : ℕ) (t : ℤ) (tab : List Cycle) → owed t tab ≡ 0 → only a (dues t tab) ≡ []
unfolding owed dues due only run
none-due a t [] h = refl
none-due a t (c ∷ cs) h = let z : due_count t c ≡ 0 = omega arith in rw z (none-due a t cs (omega arith))
