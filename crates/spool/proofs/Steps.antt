-- What one record leaves, on its definition, in the order of its tests; and how far it gets.
--     parts, joined                     a pass by its two parts
--     unread, refused-call, done-call   a step's three ways out
--     blank-by                          a state, put together
--     moves                             a step gets on, and counts at most one record
use mathlib.Core.Path.{◌≡◌, refl, ap, ◌∙◌}
use mathlib.Core.List.{List}
use Prim.Native.Nat.{ℕ, ◌+◌, ◌≤◌, ◌<◌}
use native.Mathlib.Omega.{arith}
use lib.IntN.{ℤ, pos}
use lib.ListN.{length}
use Rattle.std.specs.Prelude.{Result, Ok, Err}
use Rattle.laws.specs.Integers.{inside}
use Rattle.numbers.specs.Limits.{list_limit}
use Rattle.numbers.specs.Refusals.{number_of}
use Rattle.numbers.specs.declared.refusals.Refusal.{Refusal}
use Rattle.numbers.specs.Ranges.{is_timebase, is_bytes}
use Rattle.budget.specs.declared.BudgetAnswer.{BudgetAnswer}
use Rattle.budget.specs.Budgets.{unspent, new_budget}
use Rattle.tables.specs.declared.CycleTable.{CycleTable}
use Rattle.state.specs.declared.TrackAnswer.{TrackAnswer}
use Rattle.state.specs.Track.{new_track, no_cycles}
use Rattle.state.specs.Calls.{new_of, answered}
use Rattle.reel.specs.declared.records.Record.{Record}
use Rattle.reel.specs.Records.{record_at}
use Rattle.reel.proofs.Reaching.{reached}
use Rattle.carrying.specs.declared.State.{State}
use Rattle.carrying.specs.Carry.{Left, left, carried, state_of}
use Rattle.spool.specs.declared.Run.{Run}
use Rattle.spool.specs.Play.{blank_state, refused, past, Pass, pass, after_done, after_call, after_record, step_by, step_of}

pub parts : {a : Run} {l : List ℤ} {p : Pass} → pass a l ≡ p → (a ≡ p.run) × (l ≡ p.events)
parts h = (ap (λ (q : Pass). q.run) h, ap (λ (q : Pass). q.events) h)

-- the same where the run is known by an equation
pub parts-by : {r a : Run} {l : List ℤ} {p : Pass} → r ≡ a → pass a l ≡ p → (r ≡ p.run) × (l ≡ p.events)
parts-by q h = let k = parts h in (q ∙ k.0, k.1)

pub joined : {a : Run} {l : List ℤ} {p : Pass} → a ≡ p.run → l ≡ p.events → pass a l ≡ p
joined h k = rw (h, k)

pub left_by_lem : {k : Result State ℕ} {x : List ℤ} {t : Left} → k ≡ t.done → x ≡ t.events → left k x ≡ t
left_by_lem h k = rw (h, k)

module _ (s : List ℕ) (a : Run) (l : List ℤ) where
  opened : (r : Result Record Refusal) → r ≡ record_at s a.at a.due → after_record s a l r ≡ step_of s a l
  unfolding step_by
  opened r e = ap (after_record s a l) e

  pub unread : (e : Refusal) → Err e ≡ record_at s a.at a.due → pass (refused a (number_of e) (length s)) l ≡ step_of s a l
  unread e h = opened (Err e) h

  module _ (r : Record) (z : Ok r ≡ record_at s a.at a.due) (x : List ℤ) where
    called : (k : Result State ℕ) → left k x ≡ carried a.state r l → after_done s a r x k ≡ step_of s a l
    called k t = ap (after_call s a r) t ∙ opened (Ok r) z

    pub refused-call : (n : ℕ) → left (Err n) x ≡ carried a.state r l → pass (refused a n (length s)) x ≡ step_of s a l
    refused-call n t = called (Err n) t

    pub done-call : (y : State) → left (Ok y) x ≡ carried a.state r l → pass (past a r.next y) x ≡ step_of s a l
    done-call y t = called (Ok y) t

-- ---- the parts of a run, put together
no-track : (new_of (pos 0) (pos 0)).track ≡ new_track (pos 0) (pos 0)
unfolding new_of answered is_timebase inside
no-track = refl

no_bytes : (new_budget 0 0).budget ≡ unspent 0 0
unfolding new_budget is_bytes
no_bytes = refl

pub blank-by : {t : TrackAnswer} {c : CycleTable} {b : BudgetAnswer} → t ≡ new_of (pos 0) (pos 0) → c ≡ no_cycles → b ≡ new_budget 0 0 → state_of t.track c.items b.budget 0 ≡ blank_state
unfolding blank_state
blank-by p q r = rw (p, q, r, no-track, no_bytes)

module _ (s : List ℕ) (a : Run) (l : List ℤ) (h : a.at < length s) where
  abbrev On : Pass → Type 0
  On p = (a.at < p.run.at) × (p.run.index ≤ a.index + 1)

  pub moves : On (step_of s a l)
  unfolding step_by
  moves = go (record_at s a.at a.due) refl
    where
      each : (r : Record) → record_at s a.at a.due ≡ Ok r → (e : List ℤ) (d : Result State ℕ) → On (after_done s a r e d)
      each r z e (Ok y) = let n = reached list_limit s a.at a.due r z in (omega (arith, n.past), omega arith)
      each r z e (Err m) = (h, omega arith)

      go : (x : Result Record Refusal) → record_at s a.at a.due ≡ x → On (after_record s a l x)
      go (Ok r) e = each r e (carried a.state r l).events (carried a.state r l).done
      go (Err e) _ = (h, omega arith)
