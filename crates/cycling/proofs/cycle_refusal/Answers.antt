-- `cycle_refusal` goes through the tests in their order; what the used records owe is computed once they passed theirs.
use mathlib.Core.Path.{◌≡◌, refl, sym, ap, ◌∙◌}
use mathlib.Core.Bool.{Bool, true, false, not, cond, ◌&&◌, true≢false}
use mathlib.Core.List.{List}
use Prim.Native.Nat.{ℕ, ◌+◌, ◌≤◌, ◌/◌, ◌%◌, min}
use lib.IntN.{ℤ}
use native.Mathlib.Omega.{arith}
use borrow.Author.Tests.{leb-true, leb-false, lt-ltb, le-ltb}
use lib.Dec.{eqb, leb, ltb}
use mir.Syntax.{w64}
use mir.Val.{SFits, to_z, of_z}
use mir.Facts.{to_z-of_z}
use Rattle.laws.proofs.Ranges.{left, right}
use Rattle.laws.proofs.Tests.{is_at, both}
use Rattle.numbers.specs.Limits.{places, value_bytes, cycle_writes}
use Rattle.numbers.specs.Ranges.{is_time}
use Rattle.budget.specs.declared.Budget.{Budget}
use Rattle.budget.specs.Budgets.{ok_budget, room}
use Rattle.eventlist.specs.Rows.{record_width}
use Rattle.cycles.specs.declared.Cycle.{Cycle}
use Rattle.cycles.specs.Due.{owed}
use Rattle.tables.specs.declared.CycleTable.{CycleTable}
use Rattle.tables.specs.Tables.{ok_cycles, lone}
use Rattle.state.specs.declared.Track.{Track}
use Rattle.state.specs.Tests.{ok_track, ok_lent}
use Rattle.state.proofs.Lent.{lent-counted, untracked, tracked, behind}
use Rattle.state.proofs.Stored.{notes-few, waves-few, sines-few}
use Rattle.cycling.specs.Calls.{used_of, gains_of, quick_refusal}
use Rattle.cycling.proofs.Refusing.{is-time, is-lent}
use Rattle.std.proofs.Common.{Result, Ok, Err}
use Rattle.std.proofs.lemmas.Result.{err_from_is_err_and}
use Rattle.std.specs.Prelude.{is_err}
use Rattle.numbers.specs.declared.refusals.Refusal.{Refusal}
use Rattle.numbers.specs.Refusals.{asked, told, number_of}
use Rattle.cycling.proofs.cycle_refusal.Goals as goal
use Rattle.cycling.proofs.cycle_refusal.Goals.{After-ask, After-ask-2, After-ask-3}

-- the test of 1 says that the count is at most as many as there are records
few : (long count size : ℕ) → (eqb (long % record_width) 0 && leb count (long / record_width) && eqb size places) ≡ true → count ≤ long / record_width
few long count size e =
    let n = long / record_width in
    leb-true count n (right (eqb (long % record_width) 0) (leb count n) (left (eqb (long % record_width) 0 && leb count n) (eqb size places) e))

-- what was asked, by what `ask` answered
abbrev which_err : (e r : Refusal) → Result Unit Refusal → Refusal
which_err e r (Ok _) = r
which_err e r (Err x) = x

refused : (t : Bool) (r e : Refusal) → Err e ≡ asked t r → (t ≡ false) × (e ≡ r)
refused true r e q = absurd (true≢false (ap (λ (x : Result Unit Refusal). is_err x) q))
refused false r e q = (refl, ap (which_err e r) q)

passed : (t : Bool) (r : Refusal) {u : Unit} → asked t r ≡ Ok u → t ≡ true
passed true r q = refl
passed false r q = absurd (true≢false (ap (λ (x : Result Unit Refusal). is_err x) q))

module _ (a : Track) (cs : List Cycle) (until : ℤ) (b : Budget) (fit : SFits w64 until) where
  -- the tests of 4 but for the tables and the cycles
  asks : {x y z v : Bool} → x ≡ is_time (to_z w64 (of_z w64 until)) → y ≡ ok_track a → z ≡ ok_budget b → (x && y && z) ≡ v
      → (is_time until && ok_track a && ok_budget b) ≡ v
  asks p q r e = sym (both (both (is_at w64 is_time fit.sfits p) q) r) ∙ e

  -- all of them, once those passed
  numbers : {t v : Bool} {own : CycleTable} → (is_time until && ok_track a && ok_budget b) ≡ true → own ≡ record { count = a.cycles; items = cs }
      → t ≡ (ok_cycles own && lone a.notes a.waves a.sines own) → t ≡ v → (is_time until && ok_lent a cs && ok_budget b) ≡ v
  numbers three o p e =
      behind a cs (is_time until) (ok_budget b) three
      ∙ sym (p ∙ ap (λ (x : CycleTable). ok_cycles x && lone a.notes a.waves a.sines x) o)
      ∙ e

  -- how many events are added
  added : {n owes : ℕ} → owes ≡ owed (to_z w64 (of_z w64 until)) (used_of a cs) → n ≡ min (room value_bytes b) (min cycle_writes owes) → n ≡ gains_of a cs until b
  added p e = e ∙ ap (λ (k : ℕ). min (room value_bytes b) (min cycle_writes k)) (p ∙ rw (to_z-of_z fit))

-- no more than, and not less than
leb-not : (m n : ℕ) → leb m n ≡ not (ltb n m)
leb-not m n = go (leb m n) refl
  where
    go : (t : Bool) → leb m n ≡ t → t ≡ not (ltb n m)
    go true e = rw (le-ltb n m (leb-true m n e))
    go false e = rw (lt-ltb n m (leb-false m n e))

pub returns-in_err-ask : goal.returns-in_err-ask
unfolding quick_refusal
returns-in_err-ask c =
    let p = err_from_is_err_and c.from_residual.result c.from_residual.ensures.1 in
    let h = refused _ _ _ (sym c.in_err-ask.was ∙ c.ask.ensures) in
    rw (p.1, p.2, h.1, h.0)

-- past the first test, and past the tests of 4 but for the tables and the cycles
listed : (c : After-ask) → c.ask.result ≡ Ok tt → (eqb (c.args.long % record_width) 0 && leb c.args.count (c.args.long / record_width) && eqb c.args.size places) ≡ true
listed c e = passed _ _ (sym c.ask.ensures ∙ e)

three : (c : After-ask-2) {v : Bool} → (c.is_time.result && c.track_ok.result && c.budget_ok.result) ≡ v → (is_time c.args.until && ok_track c.args.track && ok_budget c.args.budget) ≡ v
three c e = asks c.args.track c.args.cycles c.args.until c.args.budget c.ranges.until c.is_time.ensures c.track_ok.ensures c.budget_ok.ensures e

four : (c : After-ask-3) {v : Bool} → (is_time c.args.until && ok_track c.args.track && ok_budget c.args.budget) ≡ true → c.lent_alone-lent.result ≡ v
    → (is_time c.args.until && ok_lent c.args.track c.args.cycles && ok_budget c.args.budget) ≡ v
four c q e = numbers c.args.track c.args.cycles c.args.until c.args.budget c.ranges.until q c.cycles_of-own.ensures c.lent_alone-lent.ensures e

pub returns-in_err-ask-2 : goal.returns-in_err-ask-2
unfolding quick_refusal
returns-in_err-ask-2 c =
    let a = c.args in
    let g = goal.at.returns-in_err-ask-2 c in
    let p = err_from_is_err_and c.from_residual-in_err-ask-2.result c.from_residual-in_err-ask-2.ensures.1 in
    let h = refused _ _ _ (sym c.in_err-ask-2.was ∙ c.ask-2.ensures) in
    rw (p.1, p.2, h.1, listed g.After-ask c.in_ok-ask.was, untracked a.track a.cycles (is_time a.until) (ok_budget a.budget) (three g.After-ask-2 h.0))

pub lent_alone-lent-requires : goal.lent_alone-lent-requires
lent_alone-lent-requires c =
    let a = c.args in
    let q = three (goal.at.lent_alone-lent-requires c).After-ask-2 (passed _ _ (sym c.ask-2.ensures ∙ c.in_ok-ask-2.was)) in
    let t = tracked a.track a.cycles (is_time a.until) (ok_budget a.budget) q in
    (notes-few a.track t, waves-few a.track t, sines-few a.track t)

pub returns-in_err-ask-3 : goal.returns-in_err-ask-3
unfolding quick_refusal
returns-in_err-ask-3 c =
    let g = goal.at.returns-in_err-ask-3 c in
    let p = err_from_is_err_and c.from_residual-in_err-ask-3.result c.from_residual-in_err-ask-3.ensures.1 in
    let h = refused _ _ _ (sym c.in_err-ask-3.was ∙ c.ask-3.ensures) in
    let q = three g.After-ask-2 (passed _ _ (sym c.ask-2.ensures ∙ c.in_ok-ask-2.was)) in
    rw (p.1, p.2, h.1, listed g.After-ask c.in_ok-ask.was, four g.After-ask-3 q h.0)

pub owed_by-requires : goal.owed_by-requires
owed_by-requires c =
    let a = c.args in
    let g = goal.at.owed_by-requires c in
    let q = three g.After-ask-2 (passed _ _ (sym c.ask-2.ensures ∙ c.in_ok-ask-2.was)) in
    let held = four g.After-ask-3 q (passed _ _ (sym c.ask-3.ensures ∙ c.in_ok-ask-3.was)) in
    let lent = is-lent a.track a.cycles a.until a.budget held in
    (lent-counted a.track a.cycles lent, rw (to_z-of_z c.ranges.until) (is-time a.track a.cycles a.until a.budget held))

pub overflow_add-count : goal.overflow_add-count
overflow_add-count c =
    let h = few c.args.long c.args.count c.args.size (listed (goal.at.overflow_add-count c).After-ask c.in_ok-ask.was) in
    omega (arith, c.gains-more.ensures)

-- the last test, of what is added
roomy : (t s : Bool) (r : Refusal) → t ≡ not s → told (asked t r) ≡ cond s (number_of r) 0
roomy t true r e = rw e
roomy t false r e = rw e

pub returns : goal.returns
unfolding quick_refusal
returns c =
    let a = c.args in
    let g = goal.at.returns c in
    let q = three g.After-ask-2 (passed _ _ (sym c.ask-2.ensures ∙ c.in_ok-ask-2.was)) in
    let held = four g.After-ask-3 q (passed _ _ (sym c.ask-3.ensures ∙ c.in_ok-ask-3.was)) in
    let more = added a.track a.cycles a.until a.budget c.ranges.until c.owed_by.ensures c.gains-more.ensures in
    rw (c.ask-4.ensures, listed g.After-ask c.in_ok-ask.was, held, ← more)
    (roomy _ (ltb (a.long / record_width) (a.count + c.gains-more.result)) _ (leb-not (a.count + c.gains-more.result) (a.long / record_width)))
