-- What the window keeps and what is added decide the refusal. Where there is room, what the writing run appends to what the window left
-- is the definition's list, and its walk has the definition's budget.
use mathlib.Core.Path.{◌≡◌, refl, sym, ap, ap₂, ◌∙◌}
use mathlib.Core.Bool.{Bool, false}
use mathlib.Core.List.{List, [], ◌∷◌, ◌++◌}
use native.Mathlib.Omega.{arith}
use Prim.Native.Nat.{ℕ, ◌+◌, ◌-◌, ◌/◌, ◌≤◌}
use borrow.Author.Tests.{ltb-false}
use lib.Dec.{ltb}
use lib.IntN.{ℤ}
use lib.ListN.{length, length-append}
use Rattle.laws.specs.Lists.{put_first}
use Rattle.budget.specs.declared.Budget.{Budget}
use Rattle.budget.specs.Budgets.{step_budget}
use Rattle.events.specs.declared.Event.{Event}
use Rattle.events.specs.Events.{zero_event}
use Rattle.eventlist.specs.declared.Cleared.{Cleared}
use Rattle.eventlist.specs.Rows.{record_width, rows_of, events_of}
use Rattle.eventlist.specs.Clearing.{kept_by_all}
use Rattle.eventlist.proofs.EventRows.{length-rows_of, same_rows}
use Rattle.values.specs.declared.Offer.{Offer}
use Rattle.offers.specs.declared.Piece.{Piece}
use Rattle.offers.specs.Rules.{rule_of}
use Rattle.offers.specs.Runs.{new_events, budget_after}
use Rattle.offers.specs.Walks.{walked, emitted}
use Rattle.offers.specs.Pieces.{offers, total}
use Rattle.offers.specs.Waves.{triples}
use Rattle.writing.specs.declared.Outcome.{Outcome}
use Rattle.writing.specs.Origins.{pieces_of}
use Rattle.writing.specs.Calls.{window_of, kept_events, lacks_room_for, outcome_of, rows_after}
use Rattle.writing.proofs.Calling.{from, new_is, lone-keeps, keeps-few, lacks-is, rows_end, count-end, budget-end}
use Rattle.writing.proofs.write_core.Goals.{Start}
use Rattle.writing.proofs.write_core.Goals as goal

abbrev done : ℕ → Budget → Outcome
done n b = record { code = 0; count = n; budget = b }

module _ (c : Start) where
  abbrev ts : List Piece
  ts = pieces_of (triples c.args.numbers.now) c.args.origin

  -- the offers in so many steps, and within the step budget
  abbrev within : ℕ → List Offer
  within n = offers c.args.w.freq ts n 0

  abbrev all : List Offer
  all = within (step_budget c.args.b)

  abbrev R : List Event
  R = rows_of c.args.events.now

  abbrev keeps : List Event
  keeps = kept_events c.args.w (total ts) (events_of c.args.events.now c.args.count)

  abbrev news : List Event
  news = new_events (rule_of c.args.w) c.args.b all

  long-is : c.args.long ≡ total ts
  long-is = c.requires.ready.3

  -- what the survey saw is what the window keeps
  keeps-are : kept_by_all c.args.windows.now c.args.events.now c.args.count ≡ keeps
  keeps-are =
      lone-keeps c.args.w (total ts) c.args.events.now c.args.count
      (c.requires.windows_value.0 ∙ ap (λ (n : ℕ). window_of c.args.w n ∷ []) long-is)

  kept-is : c.args.count - c.args.seen.taken ≡ length keeps
  kept-is =
      let t = c.requires.windows_value.1.taken in
      let e = ap length keeps-are in
      omega (arith, keeps-few c.args.w (total ts) c.args.events.now c.args.count c.requires.ready.4)

  kept-fits : c.args.count - c.args.seen.taken ≤ length R
  kept-fits = let p = c.requires.ready.4 in omega arith

  -- what the writing run appends, at the step budget
  appends : (n : ℕ) → n ≡ step_budget c.args.b → emitted (rule_of c.args.w) (from c.args.w c.args.b all) (within n) ≡ news
  appends n e = ap (λ (m : ℕ). emitted (rule_of c.args.w) (from c.args.w c.args.b all) (within m)) e ∙ new_is c.args.w c.args.b all

  full_by : {t : Bool} → t ≡ ltb (length c.args.events.now / record_width - (c.args.count - c.args.seen.taken)) (length news) → t ≡ lacks_room_for c.args.w c.args.b ts R c.args.count
  full_by e =
      e
      ∙ ap (λ (n : ℕ). ltb (n - (c.args.count - c.args.seen.taken)) (length news)) (sym (length-rows_of c.args.events.now))
      ∙ lacks-is c.args.w c.args.b all (total ts) R c.args.count (c.args.count - c.args.seen.taken) kept-is kept-fits

  -- after the window is taken out of a list that has room
  enough : {left : ℕ} (l : List ℤ) → left ≡ length (kept_by_all c.args.windows.now c.args.events.now c.args.count) → lacks_room_for c.args.w c.args.b ts R c.args.count ≡ false
      → length l ≡ length c.args.events.now → left + length news ≤ length (rows_of l)
  enough l kept room e =
      let t = ltb-false (length R) (length (keeps ++ news)) room in
      let n = kept ∙ ap length keeps-are in
      let m = same_rows l c.args.events.now e in
      omega (arith, length-append keeps news)

pub overflow_sub-free-2 : goal.overflow_sub-free-2
overflow_sub-free-2 c =
    omega (arith, kept-fits (goal.at.overflow_sub-free-2 c).Start, length-rows_of c.args.events.now)

pub returns-then-lacks_room : goal.returns-then-lacks_room
unfolding outcome_of rows_after
returns-then-lacks_room c =
    let q = sym (full_by (goal.at.returns-then-lacks_room c).Start c.lacks_room.ensures) ∙ c.if-lacks_room.true in
    rw (c.number.ensures, q) (refl, refl)

pub run_origin-done-requires-clause-counted : goal.run_origin-done-requires-clause-counted
run_origin-done-requires-clause-counted c =
    let s = (goal.at.run_origin-done-requires-clause-counted c).Start in
    let room = sym (full_by s c.lacks_room.ensures) ∙ c.if-lacks_room.false in
    let kept = ap (λ (r : Cleared). r.left) c.clear_windows-kept.ensures.0 in
    let e = c.from-limit.ensures ∙ c.safe_iteration_limit.ensures in
    let long = c.clear_windows-kept.auto.events in
    let fits = c.well_formed in
    rw (appends s _ e) (omega (arith, enough s c.clear_windows-kept.new.events kept room long, length-rows_of c.clear_windows-kept.new.events))

pub returns : goal.returns
unfolding outcome_of rows_after
returns c =
    let s = (goal.at.returns c).Start in
    let A = s.args in
    let g = c.from-limit.ensures ∙ c.safe_iteration_limit.ensures in
    let p = appends s _ g in
    let room = sym (full_by s c.lacks_room.ensures) ∙ c.if-lacks_room.false in
    let left = ap (λ (r : Cleared). r.left) c.clear_windows-kept.ensures.0 ∙ ap length (keeps-are s) in
    let kept : rows_of c.clear_windows-kept.new.events ≡ put_first zero_event A.count (keeps s) (R s) =
    c.clear_windows-kept.ensures.1 ∙ ap (λ (es : List Event). put_first zero_event A.count es (R s)) (keeps-are s) in
    let rows : rows_of c.run_origin-done.new.events ≡ put_first zero_event A.count (keeps s ++ news s) (R s) =
    rows_end zero_event A.count (keeps s) (news s) (R s) (c.run_origin-done.ensures.2 (rw p (enough s c.clear_windows-kept.new.events (ap (λ (r : Cleared). r.left) c.clear_windows-kept.ensures.0) room c.clear_windows-kept.auto.events))) left kept p in
    let count : c.run_origin-done.result.count ≡ length (keeps s ++ news s) = count-end (keeps s) (news s) c.run_origin-done.ensures.1 left p in
    let walk = c.run_origin-done.ensures.0 ∙ ap (λ (n : ℕ). walked (rule_of A.w) (from A.w A.b (all s)) (within s n)) g in
    let budget : c.flag_if.result ≡ budget_after (rule_of A.w) A.b (all s) (total (ts s)) =
    budget-end {k = c.run_origin-done.result.walk} A.w A.b (all s) (total (ts s)) c.flag_if.ensures walk g (long-is s) in
    rw room (ap₂ done count budget, rows)
