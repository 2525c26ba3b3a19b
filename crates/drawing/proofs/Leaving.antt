-- What an accepted write leaves passes the tests of the next call.
--     list-passes                 the list, with the count that was answered
--     curve-passes, sine-passes   its events
--     budget-passes               the budget
use mathlib.Core.Path.{◌≡◌, ap, ap₂, ◌∙◌}
use mathlib.Core.Bool.{true}
use mathlib.Core.List.{List}
use Prim.Native.Nat.{ℕ, ◌≤◌}
use borrow.Author.Tests.{ltb-false}
use lib.IntN.{ℤ}
use lib.ListN.{length}
use Rattle.laws.specs.Lists.{all}
use Rattle.laws.proofs.Parts.{all_append, all_without}
use Rattle.numbers.specs.Ranges.{is_channel}
use Rattle.budget.specs.declared.Budget.{Budget}
use Rattle.budget.specs.Budgets.{ok_budget}
use Rattle.events.specs.declared.Event.{Event}
use Rattle.events.specs.Events.{ok_event}
use Rattle.eventlist.specs.Rows.{rows_of, events_of}
use Rattle.eventlist.specs.Sound.{is_list, ok_events}
use Rattle.eventlist.specs.Windows.{taken_by}
use Rattle.eventlist.proofs.Sound.{left-list}
use Rattle.tables.specs.declared.OnNoteSine.{OnNoteSine}
use Rattle.offers.specs.Pieces.{total}
use Rattle.writing.specs.declared.Outcome.{Outcome}
use Rattle.writing.specs.Calls.{window_of, kept_events}
use Rattle.writing.proofs.Sound.{timed, new-stored, spent-ok}
use Rattle.state.specs.declared.Track.{Track}
use Rattle.state.proofs.Parts.{track-play}
use Rattle.state.proofs.Play.{play-channel}
use Rattle.drawing.specs.Write.{write_of}
use Rattle.drawing.specs.Calls.{Draw, draw_write, draw_offers, draw_added, draw_events, draw_refusal, draw_answer, draw_left, on_time, on_sine}
use Rattle.drawing.proofs.Drawn.{well, track-well, budget-well, events-well}
use Rattle.drawing.proofs.Promises.{accepted-as, accepted-left, passed-all, passed_first, has_room, events-left, curve-in-time, sine-in-time}

-- ---- what a call leaves
module _ (d : Draw) (e : draw_refusal d ≡ 0) where
  abbrev R : List Event
  R = rows_of d.events

  fits : length (draw_events d) ≤ length R
  fits = ltb-false (length R) (length (draw_events d)) (has_room d e)

  pub list-passes : is_list (draw_left d) (draw_answer d).count ≡ true
  list-passes =
      ap₂ is_list (accepted-left d e) (ap (λ (r : Outcome). r.count) (accepted-as d e))
      ∙ left-list d.events d.count (draw_events d) (well d (passed_first d e)).list-well fits

  pub budget-passes : ok_budget (draw_answer d).budget ≡ true
  budget-passes = ap (λ (r : Outcome). ok_budget r.budget) (accepted-as d e) ∙ spent-ok (draw_write d) d.budget (draw_offers d) (total d.pieces) (budget-well d (passed_first d e))

  on-channel : is_channel (draw_write d).channel ≡ true
  unfolding write_of
  on-channel = play-channel d.track (track-play d.track (track-well d (passed_first d e)))

  events-pass : all timed (draw_added d) ≡ true → ok_events d.store (draw_left d) (draw_answer d).count ≡ true
  unfolding ok_events kept_events
  events-pass t =
      let p = passed-all d e in
      ap (all (ok_event d.store)) (events-left d e)
      ∙ all_append (ok_event d.store) (kept_events (draw_write d) (total d.pieces) (events_of d.events d.count)) (draw_added d)
      (all_without (ok_event d.store) (taken_by (window_of (draw_write d) (total d.pieces))) (events_of d.events d.count) (events-well d p))
      (new-stored d.store (draw_write d) d.budget (draw_offers d) on-channel t)

module _ (a : Track) (b : Budget) (l : List ℤ) (count store : ℕ) where
  pub curve-passes : (target : ℤ) (v : List ℤ) → (let d = on_time a target v b l count store in draw_refusal d ≡ 0 → ok_events store (draw_left d) (draw_answer d).count ≡ true)
  curve-passes target v e = events-pass (on_time a target v b l count store) e (curve-in-time a b l count store target v e)

  pub sine-passes : (s : OnNoteSine) → (let d = on_sine a s b l count store in draw_refusal d ≡ 0 → ok_events store (draw_left d) (draw_answer d).count ≡ true)
  sine-passes s e = events-pass (on_sine a s b l count store) e (sine-in-time a b l count store s e)
