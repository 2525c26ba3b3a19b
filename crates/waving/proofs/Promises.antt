-- What a customer leans on, of the call that writes a note's waves and sines.
--     note-refused    a call that is refused leaves list, count and budget as they were
--     flag-stops      with the flag set at entry nothing changes
--     note-leaves     else the list is what no window took, with what was added behind it
--     note-once, note-front, note-arrives
--                     02, d): over the whole call a record of the list moves at most once, and none before the first that is taken
--     note-bytes      the bytes used rise by 8 for each event that is added
--     note-times      whose times are those of events
--     wave-fills      an Expand or a Repeat lasts the note's steps, cut to the step budget (offers: Starting.long)
use mathlib.Core.Path.{◌≡◌, refl, sym, ap, ◌∙◌}
use mathlib.Core.Bool.{Bool, true, false, cond}
use mathlib.Core.List.{List, [], ◌∷◌, map}
use Prim.Native.Nat.{ℕ, ◌+◌, ◌*◌, ◌≤◌, ◌<◌, ◌^◌, min}
use native.Mathlib.Omega.{arith}
use borrow.Author.Tests.{ne_eqb}
use lib.Dec.{eqb}
use lib.IntN.{ℤ, pos}
use lib.ListN.{length, get_or, take}
use Rattle.laws.specs.Lists.{all}
use Rattle.laws.specs.Moves.{Move, times_moved, carried, in_front, moves}
use Rattle.laws.proofs.Parts.{all_append}
use Rattle.numbers.specs.Ranges.{is_time, is_length}
use Rattle.budget.specs.declared.Budget.{Budget}
use Rattle.budget.specs.Budgets.{step_budget}
use Rattle.counted.specs.Numbers.{shown}
use Rattle.events.specs.declared.Event.{Event}
use Rattle.events.specs.Events.{zero_event}
use Rattle.eventlist.specs.Rows.{rows_of, events_of}
use Rattle.eventlist.specs.Windows.{taken_by_any}
use Rattle.eventlist.proofs.Clearing.{moved-once, none-in-front, moves-arrive}
use Rattle.sines.specs.Kinds.{sine_type}
use Rattle.values.specs.Options.{new_option}
use Rattle.values.proofs.Options.{option-at, option-delay}
use Rattle.cycles.specs.Due.{key}
use Rattle.offers.specs.declared.Mode.{Mode}
use Rattle.offers.specs.declared.Mode.TheVariants.{Normal, Expand, Repeat}
use Rattle.offers.specs.Pieces.{total}
use Rattle.offers.specs.Waves.{triples, triples_of}
use Rattle.writing.proofs.Allowed.{wave-far, sine-far}
use Rattle.writing.proofs.Every.{Each, each_append}
use Rattle.writing.proofs.Lasting.{lasts-expand, lasts-repeat}
use Rattle.writing.proofs.Promises.{in-time}
use Rattle.writing.proofs.Sound.{timed}
use Rattle.tables.specs.declared.OnNoteWave.{OnNoteWave}
use Rattle.tables.specs.declared.OnNoteSine.{OnNoteSine}
use Rattle.tables.specs.Reservations.{ok_wave, ok_sine}
use Rattle.tables.proofs.Sines.{sine-length, sine-times}
use Rattle.state.specs.declared.Track.{Track}
use Rattle.state.specs.Track.{with_timepos}
use Rattle.state.specs.Tests.{ok_options, ok_track}
use Rattle.state.proofs.Parts.{track-play, track-options}
use Rattle.state.proofs.Play.{play-time}
use Rattle.state.proofs.Keeping.{timepos-kept}
use Rattle.drawing.specs.Options.{option_of}
use Rattle.drawing.specs.Write.{write_of}
use Rattle.drawing.proofs.Asking.{some}
use Rattle.waving.specs.Drawings.{Drawing, mode_of, wave_drawing, sine_drawing, drawings_of}
use Rattle.waving.specs.Calls.{Stand, leaves, drawn, drawn_all, note_steps, after_note, note_refusal, note_written, note_left}
use Rattle.waving.specs.Passes.{Passes, no_pass, pass_first, passes, news_of, without_all}
use Rattle.waving.proofs.Reserved.{wave-fine}
use Rattle.waving.proofs.Passing.{pass-used, leaves-maximum}
use Rattle.waving.proofs.Clearing.{at_once}
use Rattle.waving.proofs.Parting.{in_passes, parted}
use Rattle.waving.proofs.Alone.{each_map, all-waves, all-sines, drawings-lone}

-- ---- refusals
module _ (store : ℕ) (a : Track) (start : ℤ) (b : Budget) (l : List ℤ) (count : ℕ) where
  pub note-refused : (note_refusal store a start b l count ≡ 0 → ⊥)
      → (note_written store a start b l count ≡ record { code = note_refusal store a start b l count; count = count; budget = b }) × (note_left store a start b l count ≡ l)
  note-refused h = let e = ne_eqb (note_refusal store a start b l count) 0 h in (rw e, rw e)

-- ---- the flag
stopped : (ds : List Drawing) (s : Stand) → (s.budget.over ≡ 0 → ⊥) → drawn_all ds s ≡ s
unfolding drawn_all
stopped [] s h = refl
stopped (d ∷ ds) s h = ap (λ (t : Bool). cond t (drawn_all ds (drawn d s)) s) (ne_eqb s.budget.over 0 h)

pub flag-stops : (a : Track) (start : ℤ) (b : Budget) (es : List Event) → (b.over ≡ 0 → ⊥) → after_note a start b es ≡ record { budget = b; events = es }
flag-stops a start b es h = stopped (drawings_of (with_timepos a start) (note_steps a start)) (record { budget = b; events = es }) h

-- ---- a drawing whose events stand in time
record Timely (d : Drawing) : Type 0 where
  often : 0 < d.write.freq
  time : is_time d.write.time ≡ true
  delay : is_length d.write.option.delay ≡ true
  far : (b : Budget) → b.maximum ≤ 2 ^ 26 → total (d.pieces b) ≤ 2 ^ 40

news-timed : (ds : List Drawing) (b : Budget) → Each Timely ds → b.maximum ≤ 2 ^ 26 → all timed (passes ds b).news ≡ true
unfolding passes all
news-timed [] b h m = refl
news-timed (d ∷ ds) b h m = go (eqb b.over 0) (news-timed ds (leaves d b) h.1 (rw (leaves-maximum d b) m))
  where
    go : (t : Bool) → all timed (passes ds (leaves d b)).news ≡ true → all timed (cond t (pass_first d b (passes ds (leaves d b))) (no_pass b)).news ≡ true
    go true ih = all_append timed (news_of d b) (passes ds (leaves d b)).news (in-time d.write b (d.pieces b) (step_budget b) h.0.often h.0.time h.0.delay (h.0.far b m)) ih
    go false ih = refl

few-steps : (n : ℕ) (b : Budget) → b.maximum ≤ 2 ^ 26 → min n (step_budget b) ≤ 2 ^ 24
few-steps n b h = omega arith

-- ---- a track that passes its test, at a note's start
module _ (a : Track) (h : ok_track a ≡ true) where
  own-delay : (target : ℤ) → is_length (option_of a target).delay ≡ true
  unfolding option_of ok_options
  own-delay target = option-delay (get_or a.options (key target) new_option) (option-at a.options (key target) (track-options a h))

  module _ (n : ℕ) where
    wave-timely : (e : OnNoteWave) → ok_wave e ≡ true → Timely (wave_drawing a n e)
    unfolding wave_drawing write_of
    wave-timely e k =
        record {
          often = some e.target a.ccfreq a.pbfreq a.timebase;
          time = play-time a (track-play a h);
          delay = own-delay e.target;
          far = λ (b : Budget) (m : b.maximum ≤ 2 ^ 26). wave-far (shown e.values) (mode_of e.mode) (min n (step_budget b)) (wave-fine e k) (few-steps n b m);
        }

    sine-timely : (e : OnNoteSine) → ok_sine e ≡ true → Timely (sine_drawing a e)
    unfolding sine_drawing write_of
    sine-timely e k =
        record {
          often = some e.target a.ccfreq a.pbfreq a.timebase;
          time = play-time a (track-play a h);
          delay = own-delay e.target;
          far = λ (b : Budget) (m : b.maximum ≤ 2 ^ 26). sine-far (sine_type (pos e.shape)) e.low e.high e.length e.times (sine-length e k) (sine-times e k);
        }

    all-timely : Each Timely (drawings_of a n)
    unfolding drawings_of
    all-timely =
        each_append Timely (map (wave_drawing a n) (take a.waves.count a.waves.items)) (map (sine_drawing a) (take a.sines.count a.sines.items))
        (each_map (wave_drawing a n) ok_wave Timely wave-timely (take a.waves.count a.waves.items) (all-waves a n h))
        (each_map (sine_drawing a) ok_sine Timely sine-timely (take a.sines.count a.sines.items) (all-sines a n h))

-- ---- what a note's waves and sines leave
module _ (a : Track) (start : ℤ) (b : Budget) (h : ok_track a ≡ true) (t : is_time start ≡ true) where
  abbrev pub note_passes : Passes
  note_passes = passes (drawings_of (with_timepos a start) (note_steps a start)) b

  at-start : ok_track (with_timepos a start) ≡ true
  at-start = timepos-kept a h start t

  pub note-leaves : (es : List Event) → after_note a start b es ≡ in_passes note_passes es
  note-leaves es = parted (drawings_of (with_timepos a start) (note_steps a start)) (drawings-lone (with_timepos a start) (note_steps a start) at-start) b es

  -- ---- the windows of all are taken out at once, of a list that holds `count` events
  module _ (l : List ℤ) (count : ℕ) (fit : count ≤ length (rows_of l)) where
    abbrev note_moves : List Move
    note_moves = moves (taken_by_any note_passes.windows) (events_of l count)

    -- the record at place k moves once, or not at all
    pub note-once : (k : ℕ) → times_moved k note_moves ≤ 1
    note-once k = moved-once note_passes.windows l count fit k

    -- not at all, where it stands before the first that is taken
    pub note-front : (k : ℕ) → k ≤ in_front (taken_by_any note_passes.windows) (events_of l count) → times_moved k note_moves ≡ 0
    note-front k h = none-in-front note_passes.windows l count fit k h

    -- and these moves leave what no window took
    pub note-arrives : take (length (without_all note_passes.windows (events_of l count))) (carried zero_event note_moves (events_of l count)) ≡ without_all note_passes.windows (events_of l count)
    note-arrives = rw (at_once note_passes.windows (events_of l count)) (moves-arrive note_passes.windows l count fit)

  pub note-bytes : (es : List Event) → (after_note a start b es).budget.used ≡ b.used + 8 * length note_passes.news
  note-bytes es = ap (λ (s : Stand). s.budget.used) (note-leaves es) ∙ pass-used (drawings_of (with_timepos a start) (note_steps a start)) b

  -- within ±2^42
  pub note-times : b.maximum ≤ 2 ^ 26 → all timed note_passes.news ≡ true
  note-times m = news-timed (drawings_of (with_timepos a start) (note_steps a start)) b (all-timely (with_timepos a start) at-start (note_steps a start)) m

-- ---- how long a wave lasts
module _ (a : Track) (n : ℕ) (e : OnNoteWave) (b : Budget) (some-steps : n ≡ 0 → ⊥) (some-length : total (triples (shown e.values)) ≡ 0 → ⊥) where
  cut-some : min n (step_budget b) ≡ 0 → ⊥
  cut-some q = some-steps (omega arith)

  pub wave-fills : (mode_of e.mode ≡ Normal → ⊥) → total ((wave_drawing a n e).pieces b) ≡ min n (step_budget b)
  unfolding wave_drawing
  wave-fills h = go (mode_of e.mode) h
    where
      go : (m : Mode) → (m ≡ Normal → ⊥) → total (triples_of m (triples (shown e.values)) (min n (step_budget b))) ≡ min n (step_budget b)
      go Normal k = absurd (k refl)
      go Expand k = sym (lasts-expand (triples (shown e.values)) (min n (step_budget b)) cut-some some-length)
      go Repeat k = sym (lasts-repeat (triples (shown e.values)) (min n (step_budget b)) cut-some some-length)
