-- `write_lists`: the tests in their order (Refusing), then the contract of the run over the table and that of the list, which
-- for a whole number of records says every number (`determined`).
use mathlib.Core.Path.{◌≡◌, sym, ap, ◌∙◌}
use mathlib.Core.Bool.{Bool, true, ◌&&◌}
use Prim.Native.Nat.{ℕ, ◌+◌}
use native.Mathlib.Omega.{arith}
use borrow.Author.Rules.{rules}
use borrow.Author.Tests.{leb-true, leb-false}
use Rattle.std.specs.Prelude.{Err}
use lib.IntN.{ℤ}
use lib.ListN.{length, take}
use lib.Seq.{take-append_seam}
use mir.Syntax.{w32, w64}
use mir.Val.{SFits, to_z, of_z}
use mir.Facts.{to_z-of_z}
use Rattle.laws.specs.Lists.{put_first}
use Rattle.laws.proofs.Ranges.{left, right, inside-mag}
use Rattle.laws.proofs.Tests.{is_at, both}
use Rattle.numbers.specs.Ranges.{is_time, is_channel}
use Rattle.budget.specs.declared.Budget.{Budget}
use Rattle.budget.specs.Budgets.{ok_budget}
use Rattle.events.specs.Events.{zero_event}
use Rattle.eventlist.specs.Rows.{rows_of, events_of}
use Rattle.eventlist.proofs.EventRows.{length-rows_of, determined}
use Rattle.eventlist.proofs.Sound.{list-whole, list-within}
use Rattle.tables.specs.declared.NoteTable.{NoteTable}
use Rattle.state.specs.declared.Track.{Track}
use Rattle.state.specs.Tests.{ok_track}
use Rattle.state.proofs.Parts.{track-play}
use Rattle.state.proofs.Play.{play-channel}
use Rattle.state.proofs.Stored.{stored-notes}
use Rattle.noting.specs.declared.Played.{Played}
use Rattle.noting.specs.Runs.{Run, run, kept, notes_put, played_of}
use Rattle.noting.specs.Calls.{run_of, with_notes, list_after, answer, noted, list_left}
use Rattle.numbers.proofs.Asking.{ask-ok, ask-err}
use Rattle.noting.proofs.Refusing as R
use Rattle.noting.proofs.write_lists.Goals as goal

fits-channel : (a : Track) → ok_track a ≡ true → SFits w32 a.channel
unfolding is_channel
fits-channel a e = let m = inside-mag 15 a.channel (play-channel a (track-play a e)) in record { sfits = omega arith }

-- what the run's answer holds
module _ (a : Track) (r : Run) (p : Played) (e : p ≡ played_of a.notes r) where
  made-is : p.made ≡ length r.events
  unfolding played_of
  made-is = ap (λ (x : Played). x.made) e

  budget-is : p.budget ≡ r.budget
  unfolding played_of
  budget-is = ap (λ (x : Played). x.budget) e

  notes-is : p.notes ≡ notes_put a.notes (kept r)
  unfolding played_of
  notes-is = ap (λ (x : Played). x.notes) e

  events-are : take p.made p.events ≡ r.events
  unfolding played_of
  events-are = ap (λ (x : Played). take x.made x.events) e ∙ take-append_seam r.events _

same_answer : (a : Track) {n n' : ℕ} {b b' : Budget} {t t' : NoteTable} → n ≡ n' → b ≡ b' → t ≡ t' → answer 0 n b (with_notes a t) ≡ answer 0 n' b' (with_notes a t')
same_answer a p q r = rw (p, q, r)

-- what the tests and the run say, their numbers read back
module _ (a : Track) (start : ℤ) (b : Budget) (fit : SFits w64 start) where
  asked : {x ok z v : Bool} → x ≡ is_time (to_z w64 (of_z w64 start)) → ok ≡ ok_track a → z ≡ ok_budget b → (x && ok && z) ≡ v
      → (is_time start && ok_track a && ok_budget b) ≡ v
  asked p q r e = sym (both (both (is_at w64 is_time fit.sfits p) q) r) ∙ e

  module _ (held : (is_time start && ok_track a && ok_budget b) ≡ true) where
    timed : is_time start ≡ true
    timed = left (is_time start) (ok_track a) (left (is_time start && ok_track a) (ok_budget b) held)

    tracked : ok_track a ≡ true
    tracked = right (is_time start) (ok_track a) (left (is_time start && ok_track a) (ok_budget b) held)

    told : {p : Played}
        → p ≡ played_of a.notes (run a.options (record { start = to_z w64 (of_z w64 start); channel = to_z w32 (of_z w32 a.channel) }) b (take a.notes.count a.notes.items))
        → p ≡ played_of a.notes (run_of a start b)
    unfolding run_of
    told e = rw (to_z-of_z fit, to_z-of_z (fits-channel a tracked)) at e

pub returns-in_err-ask : goal.returns-in_err-ask
unfolding noted list_left
returns-in_err-ask c =
    let x = c.args in
    let r : c.from_residual.result ≡ Err c.in_err-ask.field-0.0 = search rules in
    let k = ask-err _ _ c.ask.ensures c.in_err-ask.was in
    let q = R.no-list x.track x.start x.budget x.events.now x.count (sym c.list_ok.ensures ∙ k.0) in
    (rw (r, k.1, q), rw q)

pub returns-in_err-ask-2 : goal.returns-in_err-ask-2
unfolding noted list_left
returns-in_err-ask-2 c =
    let x = c.args in
    let r : c.from_residual-in_err-ask-2.result ≡ Err c.in_err-ask-2.field-0.0 = search rules in
    let k = ask-err _ _ c.ask-2.ensures c.in_err-ask-2.was in
    let l = sym c.list_ok.ensures ∙ ask-ok _ _ c.ask.ensures c.in_ok-ask.was in
    let q =
    R.no-numbers x.track x.start x.budget x.events.now x.count l
    (asked x.track x.start x.budget c.ranges.start c.is_time.ensures c.requires c.budget_ok.ensures k.0) in
    (rw (r, k.1, q), rw q)

pub play_notes-played-requires : goal.play_notes-played-requires
play_notes-played-requires c =
    let x = c.args in
    let held = asked x.track x.start x.budget c.ranges.start c.is_time.ensures c.requires c.budget_ok.ensures (ask-ok _ _ c.ask-2.ensures c.in_ok-ask-2.was) in
    (stored-notes x.track (tracked x.track x.start x.budget c.ranges.start held), rw (to_z-of_z c.ranges.start) (timed x.track x.start x.budget c.ranges.start held))

pub overflow_sub-events : goal.overflow_sub-events
overflow_sub-events c =
    let x = c.args in
    let l = sym c.list_ok.ensures ∙ ask-ok _ _ c.ask.ensures c.in_ok-ask.was in
    omega (arith, list-within x.events.now x.count l, length-rows_of x.events.now)

pub returns-in_err-ask-3 : goal.returns-in_err-ask-3
unfolding noted list_left
returns-in_err-ask-3 c =
    let x = c.args in
    let r : c.from_residual-in_err-ask-3.result ≡ Err c.in_err-ask-3.field-0.0 = search rules in
    let k = ask-err _ _ c.ask-3.ensures c.in_err-ask-3.was in
    let l = sym c.list_ok.ensures ∙ ask-ok _ _ c.ask.ensures c.in_ok-ask.was in
    let held = asked x.track x.start x.budget c.ranges.start c.is_time.ensures c.requires c.budget_ok.ensures (ask-ok _ _ c.ask-2.ensures c.in_ok-ask-2.was) in
    let ran = told x.track x.start x.budget c.ranges.start held c.play_notes-played.ensures in
    let made = made-is x.track (run_of x.track x.start x.budget) c.play_notes-played.result ran in
    let full = leb-false _ _ k.0 in
    let over = R.lacks-room x.track x.start x.budget x.events.now x.count l (omega (arith, length-rows_of x.events.now, made, full)) in
    let q = R.no_room x.track x.start x.budget x.events.now x.count l held over in
    (rw (r, k.1, q), rw q)

pub append_all-requires : goal.append_all-requires
append_all-requires c =
    let x = c.args in
    let l = sym c.list_ok.ensures ∙ ask-ok _ _ c.ask.ensures c.in_ok-ask.was in
    let held = asked x.track x.start x.budget c.ranges.start c.is_time.ensures c.requires c.budget_ok.ensures (ask-ok _ _ c.ask-2.ensures c.in_ok-ask-2.was) in
    let ran = told x.track x.start x.budget c.ranges.start held c.play_notes-played.ensures in
    let made = made-is x.track (run_of x.track x.start x.budget) c.play_notes-played.result ran in
    let free = leb-true _ _ (ask-ok _ _ c.ask-3.ensures c.in_ok-ask-3.was) in
    let few = R.few-events x.track x.start x.budget x.events.now x.count (tracked x.track x.start x.budget c.ranges.start held) in
    (omega (arith, made, few), omega (arith, made, free, length-rows_of x.events.now, list-within x.events.now x.count l))

pub returns : goal.returns
unfolding noted list_left
returns c =
    let p = c.append_all in
    let x = c.args in
    let r = run_of x.track x.start x.budget in
    let l = sym c.list_ok.ensures ∙ ask-ok _ _ c.ask.ensures c.in_ok-ask.was in
    let held = asked x.track x.start x.budget c.ranges.start c.is_time.ensures c.requires c.budget_ok.ensures (ask-ok _ _ c.ask-2.ensures c.in_ok-ask-2.was) in
    let ran = told x.track x.start x.budget c.ranges.start held c.play_notes-played.ensures in
    let made = made-is x.track (run_of x.track x.start x.budget) c.play_notes-played.result ran in
    let free = leb-true _ _ (ask-ok _ _ c.ask-3.ensures c.in_ok-ask-3.was) in
    let room = R.has_room x.track x.start x.budget x.events.now x.count l (omega (arith, length-rows_of x.events.now, made, free)) in
    let q = R.well x.track x.start x.budget x.events.now x.count l held room in
    let long : p.result ≡ length (list_after (events_of x.events.now x.count) r) =
    p.ensures.0 ∙ ap (λ (k : ℕ). x.count + k) made ∙ sym (R.left-long x.track x.start x.budget x.events.now x.count l) in
    let rows = rw (events-are x.track r c.play_notes-played.result ran) at p.ensures.1 in (
      rw q (same_answer x.track long (budget-is x.track r c.play_notes-played.result ran) (notes-is x.track r c.play_notes-played.result ran)),
      rw q
          (determined x.events.now p.new.events (put_first zero_event x.count (list_after (events_of x.events.now x.count) r) (rows_of x.events.now))
          (list-whole x.events.now x.count l) p.auto.events rows),
    )
