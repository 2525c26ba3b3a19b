-- A write that lasts no step (no triple, none longer than 0, a sine of length 0 or less) leaves list, count and budget as they are.
use mathlib.Core.Path.{◌≡◌, refl, ap, ap₂, ◌∙◌}
use mathlib.Core.Bool.{Bool, true, false, cond, ◌&&◌}
use mathlib.Core.List.{List, [], ◌∷◌, ◌++◌, append-nil}
use Prim.Native.Nat.{ℕ, ◌+◌, ◌-◌, ◌≤◌, min, max}
use native.Mathlib.Omega.{arith}
use borrow.Author.Tests.{le-ltb}
use lib.IntN.{ℤ}
use lib.Signed.{le_z, lt_z}
use lib.ListN.{length, take, drop, replicate, take-append-drop}
use lib.Seq.{length-take-le}
use Rattle.laws.specs.Lists.{put_first}
use Rattle.budget.specs.declared.Budget.{Budget}
use Rattle.budget.specs.Budgets.{room, step_budget}
use Rattle.events.specs.declared.Event.{Event}
use Rattle.events.specs.Events.{zero_event}
use Rattle.eventlist.specs.Windows.{taken_by}
use Rattle.values.specs.declared.Write.{Write}
use Rattle.values.specs.declared.Offer.{Offer}
use Rattle.values.specs.Value.{start_of}
use Rattle.offers.specs.declared.Piece.{Piece}
use Rattle.offers.specs.Rules.{Rule, rule_of, fresh, become, flagged}
use Rattle.offers.specs.Runs.{steps_of, offered, new_events, budget_after}
use Rattle.offers.specs.Pieces.{steps, points, points_of, offers, total}
use Rattle.offers.proofs.Closed.{joined-none, spent-none}
use Rattle.writing.specs.declared.Outcome.{Outcome}
use Rattle.writing.specs.Calls.{window_of, kept_events, left_by, lacks_room, outcome_of, rows_after, outcome_for, rows_for}
use Rattle.writing.specs.Targets.{belongs}
use Rattle.writing.proofs.Shifting.{up_none, not-both}
use Rattle.writing.proofs.Every.{without-none}

no-offers : (f : ℕ) (ts : List Piece) (s at : ℕ) → total ts ≡ 0 → offers f ts s at ≡ []
unfolding offers total points steps
no-offers f [] s at e = refl
no-offers f (t ∷ ts) s at e =
    let m : min t.len s ≡ 0 = omega arith in
    ap (λ (k : ℕ). points_of f at t k ++ offers f ts (s - t.len) (at + t.len)) m ∙ no-offers f ts (s - t.len) (at + t.len) (omega arith)

no-events : (r : Rule) (b : Budget) → new_events r b [] ≡ []
unfolding new_events offered fresh become
no-events r b = joined-none (room r.size b)

same-budget : (r : Rule) (b : Budget) → budget_after r b [] 0 ≡ b
unfolding budget_after offered fresh
same-budget r b = ap₂ flagged (spent-none r b) (le-ltb (steps_of r b) 0 (omega arith))

-- the window from a time to itself
shut : (x y z : Bool) → (y && z) ≡ false → (x && y && z) ≡ false
shut true y z e = e
shut false y z e = refl

takes_none : (w : Write) (e : Event) → taken_by (window_of w 0) e ≡ false
unfolding taken_by window_of belongs
takes_none w e =
    ap (λ (z : ℤ). belongs w.target e && le_z (start_of w) e.time && lt_z e.time z) (up_none (start_of w))
    ∙ shut (belongs w.target e) (le_z (start_of w) e.time) (lt_z e.time (start_of w)) (not-both (start_of w) e.time)

keeps-all : (w : Write) (es : List Event) → kept_events w 0 es ≡ es
unfolding kept_events
keeps-all w es = without-none (taken_by (window_of w 0)) (takes_none w) es

put_same : (z : Event) (n : ℕ) (R : List Event) → n ≤ length R → put_first z n (take n R) R ≡ R
put_same z n R h =
    let l = length-take-le n R h in
    let a : n - length (take n R) ≡ 0 = omega arith in
    let m : max n (length (take n R)) ≡ n = omega arith in
    ap₂ (λ (i j : ℕ). take n R ++ (replicate i z ++ drop j R)) a m ∙ take-append-drop n R

abbrev done : ℕ → Budget → Outcome
done n b = record { code = 0; count = n; budget = b }

module _ (w : Write) (b : Budget) (R : List Event) (count : ℕ) (h : count ≤ length R) where
  left_is : left_by w b [] 0 (take count R) ≡ take count R
  left_is = ap₂ (λ (x y : List Event). x ++ y) (keeps-all w (take count R)) (no-events (rule_of w) b) ∙ append-nil (take count R)

  fits : lacks_room w b [] 0 R count ≡ false
  fits = le-ltb (length R) (length (left_by w b [] 0 (take count R))) (let e = ap length left_is in let l = length-take-le count R h in omega arith)

  outcome : outcome_of w b [] 0 R count ≡ done count b
  unfolding outcome_of
  outcome =
      ap (λ (t : Bool). cond t (record { code = 7; count = count; budget = b }) (done (length (left_by w b [] 0 (take count R))) (budget_after (rule_of w) b [] 0))) fits
      ∙ ap₂ done (ap length left_is ∙ length-take-le count R h) (same-budget (rule_of w) b)

  rows : rows_after w b [] 0 R count ≡ R
  unfolding rows_after
  rows =
      ap (λ (t : Bool). cond t R (put_first zero_event count (left_by w b [] 0 (take count R)) R)) fits
      ∙ ap (λ (l : List Event). put_first zero_event count l R) left_is ∙ put_same zero_event count R h

  pub nothing : (ts : List Piece) → total ts ≡ 0 → (outcome_for w b ts R count ≡ done count b) × (rows_for w b ts R count ≡ R)
  nothing ts e =
      let o = no-offers w.freq ts (step_budget b) 0 e in
      (ap₂ (λ (os : List Offer) (n : ℕ). outcome_of w b os n R count) o e ∙ outcome, ap₂ (λ (os : List Offer) (n : ℕ). rows_after w b os n R count) o e ∙ rows)
