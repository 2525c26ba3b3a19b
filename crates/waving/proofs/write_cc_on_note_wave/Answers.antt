-- `write_cc_on_note_wave` meets its contract: the tests in their order (Refusing), then what the passes leave, which for a whole
-- number of records says every number (`determined`).
use Rattle.std.specs.Prelude.{Ok}
use borrow.Author.Tests.{ne_eqb}
use Rattle.numbers.specs.Refusals.{number_of, told}
use Rattle.numbers.proofs.Asking.{some-number}
use Rattle.drawing.specs.Calls.{in_order}
use Rattle.drawing.proofs.Drawn.{Passed, passed as passed_all}
use mathlib.Core.Path.{◌≡◌, sym, ap, subst, ◌∙◌}
use mathlib.Core.Bool.{Bool, true, cond, ◌&&◌}
use mathlib.Core.List.{List}
use Prim.Native.Nat.{ℕ, ◌≤◌, ◌^◌}
use native.Mathlib.Omega.{arith}
use lib.IntN.{ℤ, ◌-ℤ◌}
use lib.ListN.{length}
use lib.Signed.{mag}
use mir.Syntax.{w64}
use mir.Val.{SFits}
use mir.Facts.{to_z-of_z}
use Rattle.laws.specs.Integers.{cut}
use Rattle.laws.proofs.Ranges.{left, right, sized-mag}
use Rattle.laws.proofs.Reading.{length-told}
use Rattle.laws.proofs.Signed.{mag-sub, sub_back}
use Rattle.laws.proofs.Tests.{is_at, both}
use Rattle.numbers.specs.Limits.{places}
use Rattle.numbers.specs.Ranges.{is_time}
use Rattle.budget.specs.declared.Budget.{Budget}
use Rattle.budget.specs.Budgets.{ok_budget}
use Rattle.events.specs.declared.Event.{Event}
use Rattle.eventlist.specs.Rows.{rows_of, events_of}
use Rattle.eventlist.specs.Sound.{is_list, ok_events}
use Rattle.eventlist.proofs.EventRows.{determined}
use Rattle.eventlist.proofs.Sound.{list-whole, list-within}
use Rattle.writing.specs.declared.Outcome.{Outcome}
use Rattle.state.specs.declared.Track.{Track}
use Rattle.state.specs.Track.{with_timepos}
use Rattle.state.specs.Tests.{ok_track}
use Rattle.state.proofs.Parts.{track-play}
use Rattle.state.proofs.Play.{play-time}
use Rattle.state.proofs.Keeping.{timepos-kept}
use Rattle.waving.specs.Drawings.{drawings_of}
use Rattle.waving.specs.Calls.{Stand, note_steps, room_refusal, after_note, wrote_all, rows_all}
use Rattle.waving.specs.Passes.{Held, unstored}
use Rattle.waving.proofs.Refusing.{budget-small, refused-first, numbers-well, answer-tested, rows-tested, numbers-left}
use borrow.Author.Rules.{rules}
use Rattle.waving.proofs.write_cc_on_note_wave.Goals.{After-asked}
use Rattle.waving.proofs.write_cc_on_note_wave.Goals as goal

-- what the passes leave, of a note's start and its steps
module _ (a : Track) (b : Budget) (ok : Bool) (R : List Event) (count : ℕ) (r : Outcome) (R' : List Event) where
  abbrev Wrote : ℤ → ℕ → Type 0
  Wrote z n = (r ≡ cond ok (wrote_all (drawings_of (with_timepos a z) n) b R count) (unstored count b)) × (R' ≡ cond ok (rows_all (drawings_of (with_timepos a z) n) b R count) R)

  told-at : {x y : ℤ} {m n : ℕ} → x ≡ y → m ≡ n → Wrote x m → Wrote y n
  told-at {x} {n} p q h = subst (λ (z : ℤ). Wrote z n) p (subst (λ (k : ℕ). Wrote x k) q h)

-- at the second test
module _ (c : After-asked) where
  -- the slice, the store's bytes and the numbers' test
  abbrev l : List ℤ
  l = c.args.events.now

  abbrev bytes : ℕ
  bytes = length c.args.store.now

  abbrev three : Bool
  three = is_time c.args.start && ok_track c.args.track && ok_budget c.args.budget

  asked : told c.asked.result ≡ in_order (is_list l c.args.count) true true three 0
  asked = rw (to_z-of_z c.ranges.start) at c.asked.ensures

  past : {u : Unit} → c.asked.result ≡ Ok u → Passed (is_list l c.args.count) true true three
  past e = passed_all (is_list l c.args.count) true true three (sym asked ∙ ap told e)

  -- past it
  module _ (held : three ≡ true) where
    spent : ok_budget c.args.budget ≡ true
    spent = right (is_time c.args.start && ok_track c.args.track) (ok_budget c.args.budget) held

    two : (is_time c.args.start && ok_track c.args.track) ≡ true
    two = left (is_time c.args.start && ok_track c.args.track) (ok_budget c.args.budget) held

    in-time : is_time c.args.start ≡ true
    in-time = left (is_time c.args.start) (ok_track c.args.track) two

    passed : ok_track c.args.track ≡ true
    passed = right (is_time c.args.start) (ok_track c.args.track) two

    time-near : mag c.args.track.timepos ≤ 2 ^ 40
    unfolding is_time
    time-near = sized-mag (2 ^ 40) c.args.track.timepos (play-time c.args.track (track-play c.args.track passed))

    start-near : mag c.args.start ≤ 2 ^ 40
    unfolding is_time
    start-near = sized-mag (2 ^ 40) c.args.start in-time

    time-fits : SFits w64 c.args.track.timepos
    time-fits = let h = time-near in omega arith

    span_fits : SFits w64 (c.args.track.timepos -ℤ c.args.start)
    span_fits = let h = time-near in let k = start-near in let m = mag-sub c.args.track.timepos c.args.start in omega arith

    waves-long : length c.args.track.waves.items ≡ places
    waves-long = search (rules, length-told)

    sines-long : length c.args.track.sines.items ≡ places
    sines-long = search (rules, length-told)

    held-at : Held (with_timepos c.args.track c.args.start)
    held-at = record { passed = timepos-kept c.args.track passed c.args.start in-time; waves = waves-long; sines = sines-long }

pub returns-in-Err : goal.returns-in-Err
returns-in-Err c =
    let d = (goal.at.returns-in-Err c).After-asked in
    let e = sym (ap told c.in-Err.is) ∙ asked d in
    let q = refused-first (bytes d) c.args.track c.args.start c.args.budget (l d) c.args.count e (some-number c.in-Err.refusal) in
    rw c.number.ensures (rw (q, ne_eqb (number_of c.in-Err.refusal) 0 (some-number c.in-Err.refusal)), rw (q, ne_eqb (number_of c.in-Err.refusal) 0 (some-number c.in-Err.refusal)))

pub overflow_sub-track : goal.overflow_sub-track
overflow_sub-track c =
    let d = (goal.at.overflow_sub-track c).After-asked in
    let h = (past d c.in_default.is).numbers-well in
    rw (to_z-of_z (time-fits d h), to_z-of_z c.ranges.start) (span_fits d h)

pub write_all-requires : goal.write_all-requires
write_all-requires c =
    let d = (goal.at.write_all-requires c).After-asked in
    let h = (past d c.in_default.is).numbers-well in
    (subst (λ (z : ℤ). Held (with_timepos c.args.track z)) (sym (to_z-of_z c.ranges.start)) (held-at d h), budget-small c.args.budget (spent d h), list-within (l d) c.args.count (past d c.in_default.is).list-well)

pub returns : goal.returns
returns c =
    let A = c.args in
    let d = (goal.at.returns c).After-asked in
    let n = (past d c.in_default.is).numbers-well in
    let list : is_list (l d) A.count ≡ true = (past d c.in_default.is).list-well in
    let whole = list-whole (l d) A.count list in
    let S : Stand = after_note A.track A.start A.budget (events_of (l d) A.count) in
    let ok : Bool = ok_events (bytes d) (l d) A.count in
    let full : ℕ = room_refusal S (rows_of (l d)) in
    let steps : c.length_of-n.result ≡ note_steps A.track A.start = c.length_of-n.ensures ∙ ap cut (sub_back (time-fits d n) c.ranges.start (span_fits d n)) in
    let h = told-at A.track A.budget ok (rows_of (l d)) A.count c.write_all.result (rows_of c.write_all.new.events) (to_z-of_z c.ranges.start) steps c.write_all.ensures in
    let q = numbers-well (bytes d) A.track A.start A.budget (l d) A.count list n in
    rw q (
      h.0 ∙ answer-tested ok full A.count A.budget S,
      determined (l d) c.write_all.new.events _ whole c.write_all.auto.events (h.1 ∙ rows-tested ok full A.count S (rows_of (l d)))
          ∙ numbers-left (l d) whole (cond ok full 4) A.count S,
    )
