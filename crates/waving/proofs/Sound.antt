-- Sound in, sound out: what an accepted `write_cc_on_note_wave` leaves passes the tests of the next call. What no window took was
-- there before; what was added stands in time (Promises), on the track's channel.
--     left-stored, news-stored   what no window took, and what is added
--     passes-ok                  the budget
--     WaveSound, wave-sound      the call
use mathlib.Core.Path.{◌≡◌, refl, ap, ◌∙◌}
use mathlib.Core.Bool.{Bool, true, false, cond, ◌&&◌}
use mathlib.Core.List.{List, [], ◌∷◌, map}
use Prim.Native.Nat.{ℕ, ◌≤◌}
use borrow.Author.Tests.{ltb-false}
use lib.Dec.{eqb, ltb}
use lib.IntN.{ℤ}
use lib.ListN.{length, take}
use Rattle.laws.specs.Lists.{all, without}
use Rattle.laws.proofs.Ranges.{left, right}
use Rattle.laws.proofs.Parts.{all_append, all_first, all-last, all_without}
use Rattle.numbers.specs.Ranges.{is_time, is_channel}
use Rattle.budget.specs.declared.Budget.{Budget}
use Rattle.budget.specs.Budgets.{step_budget, ok_budget}
use Rattle.events.specs.declared.Event.{Event}
use Rattle.events.specs.Events.{ok_event}
use Rattle.eventlist.specs.declared.Window.{Window}
use Rattle.eventlist.specs.Rows.{rows_of, events_of}
use Rattle.eventlist.specs.Sound.{is_list, ok_events}
use Rattle.eventlist.specs.Windows.{taken_by}
use Rattle.eventlist.proofs.Sound.{Passed, passed, no_seven, SoundList, left-sound}
use Rattle.offers.specs.Pieces.{offers, total}
use Rattle.writing.specs.Figures.{budget_for}
use Rattle.writing.proofs.Every.{Each, each_append}
use Rattle.writing.proofs.Sound.{timed, new-stored, flagged-ok, spent-ok}
use Rattle.tables.specs.declared.OnNoteWave.{OnNoteWave}
use Rattle.tables.specs.declared.OnNoteSine.{OnNoteSine}
use Rattle.tables.specs.Reservations.{ok_wave, ok_sine}
use Rattle.state.specs.declared.Track.{Track}
use Rattle.state.specs.Track.{with_timepos}
use Rattle.state.specs.Tests.{ok_track}
use Rattle.state.proofs.Parts.{track-play}
use Rattle.state.proofs.Play.{play-channel}
use Rattle.state.proofs.Keeping.{timepos-kept}
use Rattle.drawing.specs.Write.{write_of}
use Rattle.waving.specs.Drawings.{Drawing, wave_drawing, sine_drawing, drawings_of}
use Rattle.waving.specs.Calls.{Stand, leaves, note_steps, after_note, room_refusal, note_refusal, note_written, note_left}
use Rattle.waving.specs.Passes.{Passes, no_pass, pass_first, passes, news_of, without_all}
use Rattle.waving.proofs.Alone.{each_map, all-waves, all-sines}
use Rattle.waving.proofs.Refusing.{budget-small}
use Rattle.waving.proofs.Promises.{note_passes, note-leaves, note-times}

-- ---- the events
abbrev OnChannel : Drawing → Type 0
OnChannel d = is_channel d.write.channel ≡ true

module _ (store : ℕ) where
  left-stored : (ws : List Window) (es : List Event) → all (ok_event store) es ≡ true → all (ok_event store) (without_all ws es) ≡ true
  unfolding without_all
  left-stored [] es h = h
  left-stored (w ∷ ws) es h = left-stored ws (without (taken_by w) es) (all_without (ok_event store) (taken_by w) es h)

  news-stored : (ds : List Drawing) (b : Budget) → Each OnChannel ds → all timed (passes ds b).news ≡ true → all (ok_event store) (passes ds b).news ≡ true
  unfolding passes all
  news-stored [] b h = λ t. refl
  news-stored (d ∷ ds) b h = go (eqb b.over 0) (news-stored ds (leaves d b) h.1)
    where
      rest : List Event
      rest = (passes ds (leaves d b)).news

      go : (f : Bool) → (all timed (passes ds (leaves d b)).news ≡ true → all (ok_event store) (passes ds (leaves d b)).news ≡ true)
          → all timed (cond f (pass_first d b (passes ds (leaves d b))) (no_pass b)).news ≡ true
          → all (ok_event store) (cond f (pass_first d b (passes ds (leaves d b))) (no_pass b)).news ≡ true
      go true ih t =
          all_append (ok_event store) (news_of d b) rest
          (new-stored store d.write b (offers d.write.freq (d.pieces b) (step_budget b) 0) h.0 (all_first timed (news_of d b) rest t))
          (ih (all-last timed (news_of d b) rest t))
      go false ih t = refl

-- ---- the budget
leaves-ok : (d : Drawing) (b : Budget) → ok_budget b ≡ true → ok_budget (leaves d b) ≡ true
unfolding leaves
leaves-ok d b h =
    flagged-ok (budget_for d.write b (d.pieces b)) (d.cut b)
    (spent-ok d.write b (offers d.write.freq (d.pieces b) (step_budget b) 0) (total (d.pieces b)) h)

passes-ok : (ds : List Drawing) (b : Budget) → ok_budget b ≡ true → ok_budget (passes ds b).budget ≡ true
unfolding passes
passes-ok [] b h = h
passes-ok (d ∷ ds) b h = go (eqb b.over 0) (passes-ok ds (leaves d b) (leaves-ok d b h))
  where
    go : (f : Bool) → ok_budget (passes ds (leaves d b)).budget ≡ true → ok_budget (cond f (pass_first d b (passes ds (leaves d b))) (no_pass b)).budget ≡ true
    go true ih = ih
    go false ih = h

-- ---- the channel
module _ (a : Track) (n : ℕ) (h : ok_track a ≡ true) where
  wave-channel : (e : OnNoteWave) → ok_wave e ≡ true → OnChannel (wave_drawing a n e)
  unfolding wave_drawing write_of
  wave-channel e k = play-channel a (track-play a h)

  sine-channel : (e : OnNoteSine) → ok_sine e ≡ true → OnChannel (sine_drawing a e)
  unfolding sine_drawing write_of
  sine-channel e k = play-channel a (track-play a h)

  all-channel : Each OnChannel (drawings_of a n)
  unfolding drawings_of
  all-channel =
      each_append OnChannel (map (wave_drawing a n) (take a.waves.count a.waves.items)) (map (sine_drawing a) (take a.sines.count a.sines.items))
      (each_map (wave_drawing a n) ok_wave OnChannel wave-channel (take a.waves.count a.waves.items) (all-waves a n h))
      (each_map (sine_drawing a) ok_sine OnChannel sine-channel (take a.sines.count a.sines.items) (all-sines a n h))

-- ---- the call
pub record WaveSound (store : ℕ) (a : Track) (start : ℤ) (b : Budget) (l : List ℤ) (count : ℕ) : Type 0 where
  pub list : is_list (note_left store a start b l count) (note_written store a start b l count).count ≡ true
  pub events : ok_events store (note_left store a start b l count) (note_written store a start b l count).count ≡ true
  pub budget : ok_budget (note_written store a start b l count).budget ≡ true

module _ (store : ℕ) (a : Track) (start : ℤ) (b : Budget) (l : List ℤ) (count : ℕ) (e : note_refusal store a start b l count ≡ 0) where
  abbrev es : List Event
  es = events_of l count

  abbrev stand : Stand
  stand = after_note a start b es

  abbrev two : Bool
  two = is_time start && ok_track a

  abbrev three : Bool
  three = two && ok_budget b

  tests : Passed (is_list l count) (three && ok_events store l count) (room_refusal stand (rows_of l))
  unfolding note_refusal
  tests = passed (is_list l count) (three && ok_events store l count) (room_refusal stand (rows_of l)) e

  events-well : all (ok_event store) es ≡ true
  unfolding ok_events
  events-well = right three (ok_events store l count) tests.numbers

  to-three : three ≡ true
  to-three = left three (ok_events store l count) tests.numbers

  budget-well : ok_budget b ≡ true
  budget-well = right two (ok_budget b) to-three

  track-well : ok_track a ≡ true
  track-well = right (is_time start) (ok_track a) (left two (ok_budget b) to-three)

  time-well : is_time start ≡ true
  time-well = left (is_time start) (ok_track a) (left two (ok_budget b) to-three)

  fit : length stand.events ≤ length (rows_of l)
  fit = ltb-false (length (rows_of l)) (length stand.events) (no_seven (ltb (length (rows_of l)) (length stand.events)) tests.rest)

  abbrev done : Passes
  done = note_passes a start b track-well time-well

  stand-stored : all (ok_event store) stand.events ≡ true
  stand-stored =
      let ds = drawings_of (with_timepos a start) (note_steps a start) in
      let on = all-channel (with_timepos a start) (note_steps a start) (timepos-kept a track-well start time-well) in
      ap (λ (s : Stand). all (ok_event store) s.events) (note-leaves a start b track-well time-well es)
      ∙ all_append (ok_event store) (without_all done.windows es) done.news
      (left-stored store done.windows es events-well)
      (news-stored store ds b on (note-times a start b track-well time-well (budget-small b budget-well)))

  stand-budget : ok_budget stand.budget ≡ true
  stand-budget =
      ap (λ (s : Stand). ok_budget s.budget) (note-leaves a start b track-well time-well es)
      ∙ passes-ok (drawings_of (with_timepos a start) (note_steps a start)) b budget-well

  pub wave-sound : WaveSound store a start b l count
  wave-sound =
      let s : SoundList store (note_left store a start b l count) (note_written store a start b l count).count =
      rw e (left-sound l count stand.events tests.list fit store stand-stored) in
      record { list = s.list; events = s.events; budget = rw e stand-budget }
