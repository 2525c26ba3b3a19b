-- Demand 3, of the public call. D is the number of writes due up to T; the free budget holds at least 8·D bytes and the list
-- has room for D more. After any series of accepted calls of `write_cc_on_cycle`, each handed what the one before left, none past
-- T, at least D / 10,000 (rounded up) of them exactly at T, nothing else between: every due write has been made exactly once, each
-- target's own in time order, nothing is still due, and the bytes used have risen by exactly 8·D (`demand-3`).
-- No call of such a series is refused with 7 (`none-full`), and where the first is handed what passes the tests of 1 and 4,
-- and every time is within its range, all are accepted (`all-accepted`).
use mathlib.Core.Path.{◌≡◌, refl, sym, ap, subst, ◌∙◌}
use mathlib.Core.Bool.{Bool, true, false, cond, ◌&&◌, true≢false}
use mathlib.Core.List.{List, [], ◌∷◌, ◌++◌}
use Prim.Native.Nat.{ℕ, ◌+◌, ◌-◌, ◌*◌, ◌/◌, ◌≤◌}
use native.Mathlib.Omega.{arith}
use borrow.Author.Tests.{ltb-true, eqb-true, eq-eqb}
use lib.Dec.{eqb, ltb}
use lib.IntN.{ℤ}
use lib.Signed.{◌≤ℤ◌}
use lib.ListN.{length}
use lib.Seq.{length-take-le}
use Rattle.laws.specs.Lists.{all}
use Rattle.laws.proofs.Ranges.{left, right}
use Rattle.numbers.specs.Limits.{places, cycle_writes, value_bytes}
use Rattle.numbers.specs.Ranges.{is_time}
use Rattle.budget.specs.Budgets.{ok_budget, free}
use Rattle.events.specs.declared.Event.{Event}
use Rattle.eventlist.specs.Rows.{rows_of, events_of}
use Rattle.eventlist.specs.Sound.{is_list}
use Rattle.eventlist.proofs.EventRows.{same_rows}
use Rattle.eventlist.proofs.Sound.{list-within}
use Rattle.cycles.specs.Due.{owed}
use Rattle.cycles.specs.Rules.{ok_table}
use Rattle.cycles.specs.Calls.{State, limit, share, moved, call, series, made, answered, Until, hits}
use Rattle.cycles.specs.Calls as rules
use Rattle.cycles.specs.Promise.{Done}
use Rattle.cycles.proofs.Rules.{fine}
use Rattle.cycles.proofs.Table.{Fine, length-takes, owed-leaves, owed-mono}
use Rattle.cycles.proofs.Series as one
use Rattle.tables.proofs.Keeping.{cycle-rules}
use Rattle.state.specs.declared.Track.{Track}
use Rattle.state.specs.Track.{cycles_of}
use Rattle.state.specs.Tests.{ok_lent}
use Rattle.state.proofs.Lent.{lent-lone, lent-cycles}
use Rattle.cycling.specs.Calls.{used_of, left_by, in_order, cycle_refusal}
use Rattle.cycling.specs.Series.{Lent, answer_to, left_to, after, Each, Accepted, seen, turn_on}
use Rattle.cycling.proofs.Refusing.{left-length, is-lent}
use Rattle.cycling.proofs.Calling.{code_is, unmoved, seen_next}
use Rattle.cycling.proofs.Keeping.{Well, was-well, rules as well-kept, well-next, list-long}

module _ (a : Track) (t : ℤ) where
  -- D
  abbrev pub due : Lent → ℕ
  due s = owed t (used_of a s.cycles)

  -- "the free budget holds at least 8·D bytes", "and the list has room for D more"
  abbrev pub Funded : Lent → Type 0
  Funded s = value_bytes * due s ≤ free s.budget

  abbrev pub Roomy : Lent → Type 0
  Roomy s = s.count + due s ≤ length (rows_of s.list)

  -- ---- the theorem of the cycle rules asks for the number of a call: here that of its table
  code : ℤ → State Event → ℕ
  code u s = cond (ok_table s.table) 0 4

  strict : (u : ℤ) (s : State Event) → code u s ≡ 0 → ok_table s.table ≡ true
  unfolding code
  strict u s e = go (ok_table s.table) e
    where
      go : (b : Bool) → ◌≡◌ {A = ℕ} (cond b 0 4) 0 → b ≡ true
      go true e = refl
      go false e = absurd (omega arith)

  -- an accepted series is one by the rules, and leaves what they say
  by-rules : (us : List ℤ) (s : Lent) → Accepted a us s
      → rules.Accepted (turn_on a) code us (seen a s) × (seen a (after a us s) ≡ series (turn_on a) us (seen a s))
  unfolding Each after rules.Accepted series answered code
  by-rules [] s ok = (tt, refl)
  by-rules (u ∷ us) s ok =
      let z : code u (seen a s) ≡ 0 = rw (well-kept a u s ok.0) in
      let n = seen_next a u s ok.0 in
      let r = by-rules us (left_to a u s) ok.1 in
      let e : answered (turn_on a) (code u (seen a s)) u (seen a s) ≡ seen a (left_to a u s) = ap (λ (k : ℕ). answered (turn_on a) k u (seen a s)) z ∙ sym n in
      ((z, rw e r.0), r.1 ∙ ap (series (turn_on a) us) n)

  pub demand-3 : (us : List ℤ) (s : Lent)
      → Accepted a us s
      → Until t us
      → Funded s
      → (due s + (cycle_writes - 1)) / cycle_writes ≤ hits t us
      → (seen a (after a us s) ≡ series (turn_on a) us (seen a s)) × Done (turn_on a) t us (seen a s)
  demand-3 us s ok none-past funded enough =
      let r = by-rules us s ok in
      (r.1, (one.demand-3 (turn_on a) code strict t us (seen a s) r.0 none-past funded enough).1)

  -- read off what the last call left
  module _ (us : List ℤ) (s : Lent) (ok : Accepted a us s) (none-past : Until t us) (funded : Funded s) (enough : (due s + (cycle_writes - 1)) / cycle_writes ≤ hits t us) where
    abbrev last : Lent
    last = after a us s

    same : seen a last ≡ series (turn_on a) us (seen a s)
    same = (demand-3 us s ok none-past funded enough).0

    done : Done (turn_on a) t us (seen a s)
    done = (demand-3 us s ok none-past funded enough).1

    pub nothing-due : due last ≡ 0
    nothing-due = ap (λ (x : State Event). owed t x.table) same ∙ done.rest

    pub bytes-risen : last.budget.used ≡ s.budget.used + value_bytes * due s
    bytes-risen = ap (λ (x : State Event). x.budget.used) same ∙ done.bytes

    pub events-made : events_of last.list last.count ≡ events_of s.list s.count ++ rules.events_of (turn_on a) (made (turn_on a) us (seen a s)) s.budget.seed
    events-made = ap (λ (x : State Event). x.events) same ∙ done.events

  -- ---- room

  full : (p q r : Bool) → in_order p q r ≡ 7 → (p ≡ true) × (q ≡ true) × (r ≡ true)
  full true true true e = (refl, refl, refl)
  full true true false e = absurd (omega arith)
  full true false r e = absurd (omega arith)
  full false q r e = absurd (omega arith)

  fine-lent : (s : Lent) → ok_lent a s.cycles ≡ true → Fine (used_of a s.cycles)
  fine-lent s e =
      fine (used_of a s.cycles)
      (cycle-rules a.notes a.waves a.sines (cycles_of a s.cycles) (lent-lone a s.cycles e) (lent-cycles a s.cycles e))

  module _ (u : ℤ) (s : Lent) (p : u ≤ℤ t) (funded : Funded s) (roomy : Roomy s) where
    abbrev listing : Bool
    listing = is_list s.list s.count

    abbrev allowing : Bool
    allowing = is_time u && ok_lent a s.cycles && ok_budget s.budget

    abbrev filled : List Event
    filled = (left_by a s.cycles u s.budget (events_of s.list s.count)).events

    not_full : (answer_to a u s).code ≡ 7 → ⊥
    unfolding cycle_refusal
    not_full e =
        let f = full (listing && eqb places places) allowing (ltb (length (rows_of s.list)) (length filled)) (sym (code_is a u s) ∙ e) in
        let n = left-length a places s.cycles u s.budget s.list s.count (left listing (eqb places places) f.0) in
        let m = owed-mono u t (used_of a s.cycles) p (fine-lent s (is-lent a s.cycles u s.budget f.1)) in
        omega (arith, ltb-true (length (rows_of s.list)) (length filled) f.2)

    module _ (e : (answer_to a u s).code ≡ 0) where
      fit : Fine (used_of a s.cycles)
      fit = fine-lent s (was-well a u s e).lent

      funded-next : Funded (left_to a u s)
      unfolding call share moved
      funded-next =
          let tab = used_of a s.cycles in
          let n = length-takes (limit s.budget) u tab in
          let m = owed-leaves (limit s.budget) u t tab p fit in
          let c = seen_next a u s e ∙ one.push-fits (turn_on a) (share u (seen a s)) (moved u (seen a s)) (omega arith) in
          omega (arith, ap (λ (x : State Event). owed t x.table) c, ap (λ (x : State Event). free x.budget) c)

      roomy-next : Roomy (left_to a u s)
      roomy-next =
          let w = was-well a u s e in
          let l = length-take-le s.count (rows_of s.list) (list-within s.list s.count w.list) in
          let l' = length-take-le (left_to a u s).count (rows_of (left_to a u s).list) (list-within (left_to a u s).list (left_to a u s).count (well-next a u s e).list) in
          let r = one.roomy (turn_on a) t u (seen a s) p fit funded (length (rows_of s.list)) (omega arith) in
          let n = seen_next a u s e in
          omega (arith, r, l', ap (λ (x : State Event). length x.events) n, ap (λ (x : State Event). owed t x.table) n, same_rows (left_to a u s).list s.list (list-long a u s e))

    still : Funded (left_to a u s) × Roomy (left_to a u s)
    still = go (eqb (answer_to a u s).code 0) refl
      where
        go : (b : Bool) → eqb (answer_to a u s).code 0 ≡ b → Funded (left_to a u s) × Roomy (left_to a u s)
        go true q = let e = eqb-true (answer_to a u s).code 0 q in (funded-next e, roomy-next e)
        go false q = subst (λ (x : Lent). Funded x × Roomy x) (sym (unmoved a u s (λ z. true≢false (sym (eq-eqb (answer_to a u s).code 0 z) ∙ q)))) (funded, roomy)

    begun : Well a s → is_time u ≡ true → (answer_to a u s).code ≡ 0
    unfolding cycle_refusal
    begun w m = code_is a u s ∙ rw (w.list, m, w.lent, w.budget) (go (ltb (length (rows_of s.list)) (length filled)) refl)
      where
        go : (b : Bool) → ltb (length (rows_of s.list)) (length filled) ≡ b → ◌≡◌ {A = ℕ} (cond b 7 0) 0
        go false q = refl
        go true q = absurd (not_full (code_is a u s ∙ rw (w.list, m, w.lent, w.budget, q)))

  -- no call is refused for room, whatever the others answered
  pub none-full : (us : List ℤ) (s : Lent) → Until t us → Funded s → Roomy s → Each a (λ (n : ℕ). n ≡ 7 → ⊥) us s
  unfolding Each Until
  none-full [] s ps f r = tt
  none-full (u ∷ us) s ps f r = let n = still u s ps.0 f r in (not_full u s ps.0 f r, none-full us (left_to a u s) ps.1 n.0 n.1)

  pub all-accepted : (us : List ℤ) (s : Lent) → Well a s → all is_time us ≡ true → Until t us → Funded s → Roomy s → Accepted a us s
  unfolding Each Until all
  all-accepted [] s w m ps f r = tt
  all-accepted (u ∷ us) s w m ps f r =
      let e = begun u s ps.0 f r w (left (is_time u) (all is_time us) m) in
      let n = still u s ps.0 f r in
      (e, all-accepted us (left_to a u s) (well-next a u s e) (right (is_time u) (all is_time us) m) ps.1 n.0 n.1)
