-- What a customer leans on, of every write at a track's time. No accepted call adds an event outside ±2^42 (`curve-in-time`, `sine-in-time`), so that
-- 4 for "a resulting event time" never comes.
--     code_is                  the answer's number is the refusal
--     refused_as, refused-left refused: the answer and the list are what was given
--     accepted-as, accepted-left, passed-all, passed_first, has_room   accepted: what the definitions come to
--     events-left              accepted: the list then has the events that the window kept, and behind them those that were added
--     in_window, in-clamp      each that was added lies in the window and its value in the clamp
--     others                   other targets' events stay, in order
--     bytes, still             8 bytes for each event that was added; with random off the seed stays
--     nothing                  a curve or a sine of no steps changes nothing
--     cc-refused, pb-taken     which numbers of the old calls are targets
use mathlib.Core.Path.{◌≡◌, refl, sym, ap, ◌∙◌}
use mathlib.Core.Bool.{Bool, true, false, cond}
use mathlib.Core.List.{List}
use Prim.Native.Nat.{ℕ, zero, suc, ◌+◌, ◌*◌, ◌≤◌, ◌<◌, ◌^◌}
use native.Mathlib.Omega.{arith}
use borrow.Author.Tests.{ne_eqb, leb-true, le-leb}
use lib.Dec.{leb}
use lib.IntN.{ℤ, pos, negsuc}
use lib.ListN.{length}
use lib.Seq.{take-append_seam}
use lib.Signed.{le_z}
use Rattle.laws.specs.Integers.{eq_z, inside}
use Rattle.laws.specs.Lists.{all, without, put_first}
use Rattle.laws.specs.Rows.{flat}
use Rattle.laws.proofs.Ranges.{right}
use Rattle.numbers.specs.Limits.{list_limit}
use Rattle.numbers.specs.Ranges.{is_controller, is_target, is_event_time}
use Rattle.budget.specs.declared.Budget.{Budget}
use Rattle.budget.specs.Budgets.{step_budget}
use Rattle.events.specs.declared.Event.{Event}
use Rattle.events.specs.Events.{zero_event}
use Rattle.eventlist.specs.Rows.{numbers_of, rows_of, events_of}
use Rattle.eventlist.specs.Sound.{is_list}
use Rattle.eventlist.specs.Windows.{taken_by}
use Rattle.eventlist.proofs.EventRows.{rows_of-flat}
use Rattle.eventlist.proofs.Sound.{no_seven}
use Rattle.values.proofs.Options.{option-delay}
use Rattle.tables.specs.declared.OnNoteSine.{OnNoteSine}
use Rattle.tables.proofs.Sines.{sine-length, sine-times}
use Rattle.offers.specs.Pieces.{total}
use Rattle.writing.specs.declared.Outcome.{Outcome}
use Rattle.writing.specs.Calls.{window_of}
use Rattle.writing.specs.Targets.{belongs, in_clamp}
use Rattle.writing.proofs.Allowed.{fine, curve-far, sine-far}
use Rattle.writing.proofs.Promises as writes
use Rattle.writing.proofs.Nothing.{nothing as none_written}
use Rattle.state.specs.declared.Track.{Track}
use Rattle.state.proofs.Parts.{track-play}
use Rattle.state.proofs.Play.{play-time}
use Rattle.drawing.specs.Options.{option_of}
use Rattle.drawing.specs.Write.{write_of}
use Rattle.drawing.specs.Calls.{in_order, Draw, draw_write, draw_offers, draw_added, draw_events, draw_budget, draw_numbers, draw_lacks, draw_refusal, draw_answer, draw_left, Drawn, on_time, cc_target, pb_target, on_sine}
use Rattle.drawing.proofs.Asking.{some}
use Rattle.drawing.proofs.Options.{option-well}
use Rattle.drawing.proofs.Drawn.{asked-first, asked-draw, well, first-well, seven, track-well, allowed-well, count-well, tried}

-- what is asked first was passed where all is
first : (l t s n : Bool) (k : ℕ) → in_order l t s n k ≡ 0 → in_order l t s n 0 ≡ 0
unfolding in_order
first true true true true k e = refl
first true true true false k e = e
first true true false n k e = e
first true false s n k e = e
first false t s n k e = e

module _ (d : Draw) where
  abbrev given : Outcome
  given = record { code = draw_refusal d; count = d.count; budget = d.budget }

  abbrev done : Outcome
  done = record { code = 0; count = length (draw_events d); budget = draw_budget d }

  pub refused_as : (draw_refusal d ≡ 0 → ⊥) → draw_answer d ≡ given
  unfolding draw_answer
  refused_as h = rw (ne_eqb (draw_refusal d) 0 h)

  pub refused-left : (draw_refusal d ≡ 0 → ⊥) → draw_left d ≡ d.events
  unfolding draw_left
  refused-left h = rw (ne_eqb (draw_refusal d) 0 h)

  pub accepted-as : draw_refusal d ≡ 0 → draw_answer d ≡ done
  unfolding draw_answer
  accepted-as e = rw e

  pub accepted-left : draw_refusal d ≡ 0 → draw_left d ≡ flat numbers_of (put_first zero_event d.count (draw_events d) (rows_of d.events))
  unfolding draw_left
  accepted-left e = rw e

  pub code_is : (draw_answer d).code ≡ draw_refusal d
  code_is = go (draw_refusal d) refl
    where
      go : (n : ℕ) → draw_refusal d ≡ n → (draw_answer d).code ≡ draw_refusal d
      go zero e = ap (λ (r : Outcome). r.code) (accepted-as e) ∙ sym e
      go (suc n) e = ap (λ (r : Outcome). r.code) (refused_as (λ z. omega arith))

  -- "a length of 0 or less", and no triple: nothing is taken out, nothing is added
  pub nothing : asked-draw d ≡ 0 → total d.pieces ≡ 0 → Drawn d (record { code = 0; count = d.count; budget = d.budget }) d.events
  nothing e z =
      let n = none_written (draw_write d) d.budget (rows_of d.events) d.count (count-well d (first-well d e)) d.pieces z in
      tried d (record { code = 0; count = d.count; budget = d.budget }) d.events refl e refl (sym n.0, sym n.1)

  module _ (e : draw_refusal d ≡ 0) where
    pub passed-all : asked-draw d ≡ 0
    unfolding draw_refusal
    passed-all = first (is_list d.events d.count) (is_target d.target) d.short (draw_numbers d) (cond (draw_lacks d) 7 0) e

    pub passed_first : asked-first d ≡ 0
    passed_first = first-well d passed-all

    pub events-left : events_of (draw_left d) (draw_answer d).count ≡ draw_events d
    events-left = rw (accepted-as e, accepted-left e, rows_of-flat) (take-append_seam (draw_events d) _)

    pub has_room : draw_lacks d ≡ false
    has_room = no_seven (draw_lacks d) (sym (seven d passed-all) ∙ e)

    frequent : 0 < (draw_write d).freq
    unfolding write_of
    frequent = some d.target d.track.ccfreq d.track.pbfreq d.track.timebase

    pub in_window : all (taken_by (window_of (draw_write d) (total d.pieces))) (draw_added d) ≡ true
    in_window = writes.in_window (draw_write d) d.budget d.pieces (step_budget d.budget) frequent

    pub in-clamp : all (in_clamp d.target) (draw_added d) ≡ true
    unfolding write_of
    in-clamp = writes.in-clamp (draw_write d) d.budget d.pieces (step_budget d.budget)

    pub others : without (belongs d.target) (draw_events d) ≡ without (belongs d.target) (events_of d.events d.count)
    unfolding write_of
    others = writes.others (draw_write d) d.budget d.pieces (step_budget d.budget) (total d.pieces) (events_of d.events d.count)

    pub bytes : (draw_answer d).budget.used ≡ d.budget.used + 8 * length (draw_added d)
    bytes = ap (λ (r : Outcome). r.budget.used) (accepted-as e) ∙ writes.bytes (draw_write d) d.budget (draw_offers d) (total d.pieces)

    pub still : le_z (option_of d.track d.target).random (pos 0) ≡ true → (draw_answer d).budget.seed ≡ d.budget.seed
    unfolding write_of
    still off = ap (λ (r : Outcome). r.budget.seed) (accepted-as e) ∙ writes.still (draw_write d) d.budget (draw_offers d) (total d.pieces) off

    in-time : total d.pieces ≤ 2 ^ 40 → all (λ (v : Event). is_event_time v.time) (draw_added d) ≡ true
    unfolding write_of
    in-time h =
        let t = track-well d passed_first in
        writes.in-time (draw_write d) d.budget d.pieces (step_budget d.budget) frequent (play-time d.track (track-play d.track t))
        (option-delay (option_of d.track d.target) (option-well d.track d.target t)) h

-- ---- times within ±2^42
module _ (a : Track) (b : Budget) (l : List ℤ) (count store : ℕ) where
  pub curve-in-time : (target : ℤ) (v : List ℤ) → (let d = on_time a target v b l count store in draw_refusal d ≡ 0 → all (λ (e : Event). is_event_time e.time) (draw_added d) ≡ true)
  curve-in-time target v e =
      let d = on_time a target v b l count store in
      let q = passed_first d e in
      in-time d e (curve-far v (fine v (allowed-well d q) (omega (arith, leb-true (length v) list_limit (well d q).short-well))))

  pub sine-in-time : (s : OnNoteSine) → (let d = on_sine a s b l count store in draw_refusal d ≡ 0 → all (λ (e : Event). is_event_time e.time) (draw_added d) ≡ true)
  sine-in-time s e =
      let d = on_sine a s b l count store in
      let q = allowed-well d (passed_first d e) in
      in-time d e (sine-far _ s.low s.high s.length s.times (sine-length s q) (sine-times s q))

-- ---- the old calls' targets: a number outside 0..127 is refused as no target is, a bend's argument never
controller-target : (z : ℤ) → is_controller z ≡ true → is_target z ≡ true
unfolding is_controller is_target inside
controller-target (pos n) e = let h = leb-true n 127 (right (leb 0 n) (leb n 127) e) in rw (le-leb 0 n (omega arith), le-leb n 129 (omega arith))
controller-target (negsuc n) e = e

pub cc-refused : (n : ℤ) → is_target (cc_target n) ≡ is_controller n
unfolding is_target inside
cc-refused n = go (is_controller n) refl
  where
    go : (t : Bool) → is_controller n ≡ t → is_target (cond t n (negsuc 0)) ≡ t
    go true e = controller-target n e
    go false e = refl

pub pb-taken : (n : ℤ) → is_target (pb_target n) ≡ true
unfolding is_target inside
pb-taken n = go (eq_z n (pos 0))
  where
    go : (t : Bool) → is_target (cond t (pos 128) (pos 129)) ≡ true
    go true = refl
    go false = refl
