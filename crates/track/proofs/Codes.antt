-- Where what is held passes the tests of 1 and 4, the number that a call answers asks its arguments, a time that would result, room, and of a chunk whether the list
-- can be written: `asks-alone`. So
-- from the makers on, after any series of calls, no call is refused with 1 or 4 for something that the library made: `made-asks-alone`.
use mathlib.Core.Path.{◌≡◌, refl, sym, ap, ap₂, ◌∙◌}
use mathlib.Core.Bool.{Bool, true, false, cond, ◌&&◌, ◌||◌}
use mathlib.Core.List.{List, [], ◌∷◌}
use Prim.Native.Nat.{ℕ, ◌%◌, ◌/◌}
use native.Mathlib.Omega.{arith}
use borrow.Author.Tests.{eqb-true, eq-eqb, le-leb}
use lib.Dec.{eqb, leb, ltb}
use lib.IntN.{ℤ, pos}
use lib.ListN.{length}
use Rattle.laws.specs.Lists.{all}
use Rattle.laws.proofs.Ranges.{left, right}
use Rattle.numbers.specs.Limits.{places, list_limit}
use Rattle.numbers.specs.Ranges.{is_time, is_number, is_length, is_random, is_channel, is_controller, is_target}
use Rattle.counted.specs.Numbers.{numbers, ok_numbers}
use Rattle.counted.specs.Curves.{is_curve}
use Rattle.budget.specs.declared.Budget.{Budget}
use Rattle.budget.specs.Budgets.{new_budget, ok_budget}
use Rattle.events.specs.declared.Event.{Event}
use Rattle.events.specs.Events.{ok_event}
use Rattle.eventlist.specs.Rows.{record_width, rows_of, events_of}
use Rattle.eventlist.specs.Sound.{is_list, ok_events}
use Rattle.eventlist.specs.Bends.{bends_refusal}
use Rattle.sorting.specs.Sorting.{sort_refusal}
use Rattle.chunks.specs.Writing.{unwritten, chunk_refusal}
use Rattle.reader.specs.Reading.{unread, read_refusal}
use Rattle.profile.specs.Calls.{unfitted, check_refusal, fit_refusal}
use Rattle.notes.specs.Notes.{split_refusal}
use Rattle.cutting.specs.declared.Cut.{Cut}
use Rattle.cutting.specs.Cuts.{plain, whole, fits_cut, cut_refusal}
use Rattle.reserved.specs.Setting.{demand, list_demand, length_of, rest_of}
use Rattle.params.specs.declared.NoteParam.{NoteParam}
use Rattle.params.specs.Param.{ok_param, is_flag}
use Rattle.params.specs.Calls as params
use Rattle.params.proofs.Calls.{param-delay, param-limits, limits-repeat}
use Rattle.layers.specs.declared.Layer.{Layer}
use Rattle.layers.specs.declared.Velocity.{Velocity}
use Rattle.layers.specs.Layers.{ok_layers}
use Rattle.layers.specs.Calls as layers
use Rattle.layers.specs.Calls.{layer_demand}
use Rattle.values.specs.declared.WriteOption.{WriteOption}
use Rattle.values.proofs.Options.{option-at, option-repeat}
use Rattle.cycles.specs.declared.Cycle.{Cycle}
use Rattle.cycles.specs.Due.{key}
use Rattle.cycles.specs.Turns.{option_of}
use Rattle.tables.specs.declared.OnNoteSine.{OnNoteSine}
use Rattle.tables.specs.Reservations.{ok_values, ok_wave, ok_sine}
use Rattle.writing.specs.declared.Outcome.{Outcome}
use Rattle.state.specs.declared.Track.{Track}
use Rattle.state.specs.Track.{with_layers}
use Rattle.state.specs.Tests.{ok_options, ok_track, ok_lent}
use Rattle.state.specs.Calls.{new_of, answered}
use Rattle.state.proofs.Answers.{code_of}
use Rattle.state.proofs.Parts.{track-play, track-layers, track-options}
use Rattle.state.proofs.Play.{play-time}
use Rattle.state.proofs.Lent.{lent-track}
use Rattle.playing.specs.declared.TrackVelocity.{TrackVelocity}
use Rattle.playing.specs.Which.{velocity, gate, timing, octave, span, is_param, param_of}
use Rattle.playing.specs.Calls.{asked, param_asked, on_param, on_layers, summed_up}
use Rattle.playing.proofs.Codes.{param-code}
use Rattle.playing.proofs.LayerCodes.{layers-code}
use Rattle.playing.proofs.Refusals.{param-well, value-on-time-code, value-on-note-code, set-random-code, set-range-code, set-on-time-code, set-on-cycle-code}
use Rattle.drawing.specs.Options as options
use Rattle.drawing.specs.Calls.{Draw, in_order, draw_numbers, draw_lacks, draw_refusal, draw_answer, cc_target, pb_target}
use Rattle.drawing.proofs.Promises as draws
use Rattle.noting.specs.Calls as noting
use Rattle.noting.proofs.Promises as notings
use Rattle.waving.specs.Calls.{Stand, after_note, answer_of, note_refusal}
use Rattle.cycling.specs.declared.Cycled.{Cycled}
use Rattle.cycling.specs.Calls.{left_by, cycle_refusal, cycled_of}
use Rattle.reserving.specs.declared.Kept.{Kept}
use Rattle.reserving.specs.Clearing.{refusal, cleared, reserving}
use Rattle.reserving.specs.Setting.{is_short, repeat_of, note_of, wave_of, cycle_of, note_room, wave_room, sine_room, cycle_room, with_note, with_wave, with_sine, with_cycle, only_removes, remove_reserve, set_on_note, set_on_note_wave, set_on_note_sine, set_on_cycle}
use Rattle.reserving.specs.Old.{normal, alone_refusal, remove_cc_on_note, remove_cc_on_note_wave}
use Rattle.reserving.proofs.Answering as answering
use Rattle.track.specs.Reading.{cc_track_refusal, cc_of_track}
use Rattle.track.specs.Series.{Held, Sound, Call, after_all}
use Rattle.track.specs.Series.{set-timepos, set-channel, set-cc-on-time-freq, set-pb-on-time-freq, calc-v-on-time, calc-t-on-time, calc-qlen-on-time, calc-o-on-time, calc-l-on-time, calc-v-on-note, calc-t-on-note, calc-qlen-on-note, calc-o-on-note, calc-l-on-note, set-v-sub, set-v-sub-random, set-v-sub-on-time, set-v-sub-on-cycle, set-v-sub-on-note, apply-v-sub, set-param-on-time, set-param-on-cycle, set-param-on-note, clear-param-reserve, set-param-random, set-param-range, clear-param-range, set-param-delay, set-param-max, clear-param-max, set-param-repeat, set-delay, set-random, set-range, clear-range, set-repeat, remove-cc-on-note, remove-cc-on-note-wave, get-write-opt, remove-reserve, set-on-note, set-on-note-wave, set-on-note-sine, set-on-cycle, remove-cc-on, set-cc-on-note, set-cc-on-note-wave, set-pb-on-note-wave, remove-pb-on-note-wave, write-on-time, write-cc-on-time, write-pb-on-time, write-sine, write-cc-on-note, write-cc-on-note-wave, write-cc-on-cycle, remove-pitch-bend-in-range, normalize, play-from, full-cut, events-sort, split-note-off, current-cc-value, write-chunk, read-chunk, check-profile, fit-profile}
use Rattle.track.specs.Codes.{number_of, own, targeted, reserved, drawn, timed, split, stays}
use Rattle.track.proofs.Series.{made, made-stays-sound}

-- ---- tests that pass
and-true : (x : Bool) → (x && true) ≡ x
and-true true = refl
and-true false = refl

asked-true : (n : ℕ) → asked true n ≡ n
unfolding asked
asked-true n = go (eqb n 3) refl
  where
    go : (t : Bool) → eqb n 3 ≡ t → cond t 3 n ≡ n
    go true q = sym (eqb-true n 3 q)
    go false q = refl

asked-demand : (ok x : Bool) → asked ok (demand x) ≡ demand (ok && x)
unfolding asked
asked-demand true true = refl
asked-demand true false = refl
asked-demand false true = refl
asked-demand false false = refl

asked-none : (ok : Bool) → asked ok 0 ≡ demand ok
unfolding asked
asked-none true = refl
asked-none false = refl

asked-list : (v : List ℤ) (ok x : Bool) → asked ok (list_demand v (demand x)) ≡ list_demand v (demand (ok && x))
unfolding asked
asked-list v ok x = go (ltb list_limit (length v))
  where
    go : (t : Bool) → asked ok (cond t 3 (demand x)) ≡ cond t 3 (demand (ok && x))
    go true = refl
    go false = asked-demand ok x

-- events that may be stored fit a cut where those that it keeps stay in time
all_stay : (store : ℕ) (c : Cut) (es : List Event) → all (ok_event store) es ≡ true → all (fits_cut store c) es ≡ all (stays c) es
unfolding all fits_cut
all_stay store c [] h = refl
all_stay store c (e ∷ es) h =
    ap₂ (λ (x y : Bool). x && stays c e && y) (left (ok_event store e) (all (ok_event store) es) h) (all_stay store c es (right (ok_event store e) (all (ok_event store) es) h))

-- ---- a track
module _ (a : Track) (e : ok_track a ≡ true) where
  set-number : (q : Bool) (b : Track) → (answered (demand (ok_track a && q)) a b).code ≡ demand q
  set-number q b = code_of a b _ ∙ ap (λ (t : Bool). demand (t && q)) e

  -- a parameter
  module _ (w : ℕ) where
    p : ok_param (param_of w a) ≡ true
    p = param-well w a e

    param-number : (x : Bool) (b : NoteParam) → (on_param w a (params.answered (demand (ok_param (param_of w a) && x)) (param_of w a) b)).code ≡ demand (is_param w && x)
    unfolding on_param
    param-number x b =
        code_of a _ _ ∙ ap (param_asked w a) (param-code _ (param_of w a) b) ∙ ap₂ (λ (s t : Bool). asked (s && is_param w) (demand (t && x))) e p ∙ asked-demand (is_param w) x

    cleared-number : (b : NoteParam) → (on_param w a (params.answered (demand (ok_param (param_of w a))) (param_of w a) b)).code ≡ demand (is_param w)
    unfolding on_param
    cleared-number b = code_of a _ _ ∙ ap (param_asked w a) (param-code _ (param_of w a) b) ∙ ap₂ (λ (s t : Bool). asked (s && is_param w) (demand t)) e p ∙ asked-none (is_param w)

    listed-number : (v : List ℤ) (x : Bool) (b : NoteParam) → (on_param w a (params.answered (list_demand v (demand (ok_param (param_of w a) && x))) (param_of w a) b)).code ≡ list_demand v (demand (is_param w && x))
    unfolding on_param
    listed-number v x b =
        code_of a _ _ ∙ ap (param_asked w a) (param-code _ (param_of w a) b) ∙ ap₂ (λ (s t : Bool). asked (s && is_param w) (list_demand v (demand (t && x)))) e p ∙ asked-list v (is_param w) x

  -- a layer
  layer-number : (n i : ℕ) (f : Layer → Layer) → (on_layers a (layers.answered n a.layers i f)).code ≡ n
  unfolding on_layers
  layer-number n i f = code_of a _ _ ∙ ap (asked (ok_track a)) (layers-code n a.layers i f) ∙ ap (λ (t : Bool). asked t n) e ∙ asked-true n

  l : ok_layers a.layers ≡ true
  l = track-layers a e

  well-v : ok_param a.v ≡ true
  unfolding param_of
  well-v = param-well 0 a e

  started : (ok_layers a.layers && is_time a.timepos && is_length a.v.delay) ≡ true
  started = rw (l, play-time a (track-play a e), param-delay a.v well-v)

  repeats : (ok_layers a.layers && leb a.v.repeat 1) ≡ true
  repeats = rw (l, limits-repeat a.v (param-limits a.v well-v))

  sum-code : (s : Velocity) → (summed_up a s).code ≡ s.code
  unfolding summed_up
  sum-code s = go (asked (ok_track a) s.code) (eqb (asked (ok_track a) s.code) 0) refl ∙ ap (λ (t : Bool). asked t s.code) e ∙ asked-true s.code
    where
      go : (n : ℕ) (t : Bool) → eqb n 0 ≡ t → (cond {A = TrackVelocity} t (record { code = 0; value = s.value; track = with_layers a s.layers }) (record { code = n; value = pos 0; track = a })).code ≡ n
      go n true q = sym (eqb-true n 0 q)
      go n false q = refl

  applied-code : (v : ℤ) → (layers.apply_v_sub a.layers a.timepos v).code ≡ demand (is_number v)
  unfolding layers.apply_v_sub
  applied-code v = go (is_number v) ∙ refl
    where
      both : (ok_layers a.layers && is_time a.timepos) ≡ true
      both = rw (l, play-time a (track-play a e))

      go : (x : Bool) → (cond {A = Velocity} (ok_layers a.layers && is_time a.timepos && x) (layers.summed a.layers a.timepos v) (record { code = 4; value = pos 0; layers = a.layers })).code ≡ demand x
      go true = ap (λ (t : Bool). (cond {A = Velocity} (t && true) (layers.summed a.layers a.timepos v) (record { code = 4; value = pos 0; layers = a.layers })).code) both
      go false = ap (λ (t : Bool). (cond {A = Velocity} (t && false) (layers.summed a.layers a.timepos v) (record { code = 4; value = pos 0; layers = a.layers })).code) both

  -- a target's option
  option-number : (target : ℤ) (o : WriteOption) (ok : Bool) → (options.left a target o ok).code ≡ targeted target ok
  unfolding options.left options.target_refusal
  option-number target o ok = code_of a _ _ ∙ ap (λ (t : Bool). cond (is_target target) (demand (t && ok)) 2) e

  told-number : (target : ℤ) → (options.option_for a target).code ≡ targeted target true
  unfolding options.option_for options.target_refusal
  told-number target = ap (λ (t : Bool). cond (is_target target) (demand (t && true)) 2) e

  repeat-number : (target : ℤ) (n : ℕ) → (options.set_repeat a target n).code ≡ targeted target (leb n 1)
  unfolding options.set_repeat options.target_refusal
  repeat-number target n = code_of a _ _ ∙ ap (λ (t : Bool). cond (is_target target) (demand (t && leb n 1)) 2) e

  note-number : (number : ℤ) → (remove_cc_on_note a number).code ≡ targeted (cc_target number) true
  unfolding remove_cc_on_note alone_refusal
  note-number number = code_of a _ _ ∙ ap (λ (t : Bool). cond (is_target (cc_target number)) (demand t) 2) e

  wave-number : (number : ℤ) → (remove_cc_on_note_wave a number).code ≡ targeted (cc_target number) true
  unfolding remove_cc_on_note_wave alone_refusal
  wave-number number = code_of a _ _ ∙ ap (λ (t : Bool). cond (is_target (cc_target number)) (demand t) 2) e

-- ---- a reservation
module _ (a : Track) (cs : List Cycle) (m : ok_lent a cs ≡ true) (n : length cs ≡ places) where
  module _ (target : ℤ) where
    abbrev f : Kept
    f = cleared a cs (key target)

    kept-number : (short ok : Bool) (room : Kept → Bool) (put : Kept → Kept) → (put f).code ≡ 0 → (reserving a (length cs) cs target short ok room put).code ≡ reserved target short ok (room f)
    unfolding refusal
    kept-number short ok room put z =
        answering.code_is a (length cs) cs target short ok room put z
        ∙ ap₂ (λ (s t : Bool). cond s (cond (is_target target) (cond short (cond (t && ok) (cond (room f) 0 6) 4) 3) 2) 1) (eq-eqb (length cs) places n) m

    none : f.code ≡ 0
    unfolding cleared
    none = refl

    remove-number : (remove_reserve a (length cs) cs target).code ≡ reserved target true true true
    unfolding remove_reserve
    remove-number = kept-number true true (λ (k : Kept). true) (λ (k : Kept). k) none

    -- a list takes over the repeat of its target's option, which is 0 or 1
    repeats-well : leb (repeat_of a target) 1 ≡ true
    unfolding ok_options
    repeats-well = option-repeat (option_of a.options target) (option-at a.options (key target) (track-options a (lent-track a cs m)))

    note-set-number : (v : List ℤ) → (set_on_note a (length cs) cs target v).code ≡ reserved target (is_short v) (ok_numbers (numbers v)) (note_room f)
    unfolding set_on_note ok_values
    note-set-number v =
        let x = note_of target (repeat_of a target) (numbers v) in
        kept-number (is_short v) (ok_values x) note_room (with_note x) refl
        ∙ only (is_target target) (leb 0 (numbers v).count) (leb (repeat_of a target) 1) (le-leb 0 (numbers v).count (omega arith)) repeats-well
      where
        only : (t i r : Bool) → i ≡ true → r ≡ true
            → ◌≡◌ {A = ℕ} (cond t (cond (is_short v) (cond (t && i && r && ok_numbers (numbers v)) (cond (note_room f) 0 6) 4) 3) 2) (cond t (cond (is_short v) (cond (ok_numbers (numbers v)) (cond (note_room f) 0 6) 4) 3) 2)
        only true i r p q = rw (p, q)
        only false i r p q = refl

    wave-set-number : (mode : ℕ) (v : List ℤ) → (set_on_note_wave a (length cs) cs target mode v).code ≡ reserved target (is_short v) (ok_wave (wave_of target mode (numbers v))) (wave_room f)
    unfolding set_on_note_wave
    wave-set-number mode v = let x = wave_of target mode (numbers v) in kept-number (is_short v) (ok_wave x) wave_room (with_wave x) refl

    sine-set-number : (x : OnNoteSine) → (set_on_note_sine a (length cs) cs target x).code ≡ reserved target true (ok_sine x && eqb (key x.target) (key target)) (sine_room f)
    unfolding set_on_note_sine
    sine-set-number x = kept-number true (ok_sine x && eqb (key x.target) (key target)) sine_room (with_sine x) refl

    cycle-set-number : (len : ℤ) (v : List ℤ) → (set_on_cycle a (length cs) cs target len v).code ≡ reserved target (is_short v) (is_length len && ok_numbers (numbers v)) (only_removes len (numbers v) || cycle_room f)
    unfolding set_on_cycle
    cycle-set-number len v =
        let x = cycle_of target len a.timepos (numbers v) in
        let gone = only_removes len (numbers v) in
        kept-number (is_short v) (is_length len && ok_numbers (numbers v)) (λ (k : Kept). gone || cycle_room k) (λ (k : Kept). cond gone k (with_cycle x k)) (put x gone)
      where
        put : (x : Cycle) (gone : Bool) → (cond gone f (with_cycle x f)).code ≡ 0
        put x true = none
        put x false = refl

-- ---- what is written
module _ (h : Held) (s : Sound h) where
  abbrev a : Track
  a = h.track

  k : ok_track h.track ≡ true
  k = lent-track h.track h.cycles s.track

  draw-number : (d : Draw) → d.track ≡ h.track → d.budget ≡ h.budget → d.events ≡ h.list → d.count ≡ h.count → d.store ≡ h.store → (draw_answer d).code ≡ drawn d
  unfolding draw_refusal in_order
  draw-number d p q r u v =
      draws.code_is d
      ∙ ap₂ (λ (x y : Bool). cond x (cond (is_target d.target) (cond d.short (cond y (cond (draw_lacks d) 7 0) 4) 3) 2) 1)
      (ap₂ is_list r u ∙ s.list)
      (ap₂ (λ (x y : Bool). x && y && d.allowed && ok_events d.store d.events d.count) (ap ok_track p ∙ k) (ap ok_budget q ∙ s.budget)
      ∙ ap (λ (x : Bool). d.allowed && x) (ap (λ (n : ℕ). ok_events n d.events d.count) v ∙ ap₂ (λ (l : List ℤ) (n : ℕ). ok_events h.store l n) r u ∙ s.events)
      ∙ and-true d.allowed)

  three : (t full : Bool) → ◌≡◌ {A = ℕ} (cond (is_list h.list h.count) (cond (t && ok_track h.track && ok_budget h.budget) (cond full 7 0) 4) 1) (cond t (cond full 7 0) 4)
  three t full = rw (s.list, k, s.budget) (ap (λ (x : Bool). cond x (cond full 7 0) 4) (and-true (t && true) ∙ and-true t))

  four : (t full : Bool) → ◌≡◌ {A = ℕ} (cond (is_list h.list h.count) (cond (t && ok_track h.track && ok_budget h.budget && ok_events h.store h.list h.count) (cond full 7 0) 4) 1) (cond t (cond full 7 0) 4)
  four t full = rw (s.list, k, s.budget, s.events) (ap (λ (x : Bool). cond x (cond full 7 0) 4) (and-true (t && true && true) ∙ and-true (t && true) ∙ and-true t))

  chosen-code : (n c : ℕ) (b : Budget) (x : Stand) → (answer_of n c b x).code ≡ n
  chosen-code n c b x = go (eqb n 0) refl
    where
      go : (t : Bool) → eqb n 0 ≡ t → (cond {A = Outcome} t (record { code = 0; count = length x.events; budget = x.budget }) (record { code = n; count = c; budget = b })).code ≡ n
      go true q = sym (eqb-true n 0 q)
      go false q = refl

  wave-code : (start : ℤ) → number_of (write-cc-on-note-wave start) h ≡ own (write-cc-on-note-wave start) h
  unfolding number_of own note_refusal
  wave-code start =
      let x = after_note a start h.budget (events_of h.list h.count) in
      chosen-code (note_refusal h.store a start h.budget h.list h.count) h.count h.budget x ∙ four (is_time start) (ltb (length (rows_of h.list)) (length x.events))

  note-code : (start : ℤ) → number_of (write-cc-on-note start) h ≡ own (write-cc-on-note start) h
  unfolding number_of own noting.refusal
  note-code start =
      notings.code_is a start h.budget h.list h.count
      ∙ three (is_time start) (ltb (length (rows_of h.list)) (length (noting.list_after (events_of h.list h.count) (noting.run_of a start h.budget))))

  coded : (n : ℕ) (x y : Cycled) (t : Bool) → eqb n 0 ≡ t → x.code ≡ 0 → y.code ≡ n → (cond t x y).code ≡ n
  coded n x y true z p q = p ∙ sym (eqb-true n 0 z)
  coded n x y false z p q = q

  cycle_code : (until : ℤ) → number_of (write-cc-on-cycle until) h ≡ own (write-cc-on-cycle until) h
  unfolding number_of own cycled_of cycle_refusal
  cycle_code until =
      let full = ltb (length (rows_of h.list)) (length (left_by a h.cycles until h.budget (events_of h.list h.count)).events) in
      coded (cycle_refusal a (length h.cycles) h.cycles until h.budget h.list h.count) _ _ _ refl refl refl
      ∙ rw (s.list, eq-eqb (length h.cycles) places s.sixteen, s.track, s.budget) (ap (λ (x : Bool). cond x (cond full 7 0) 4) (and-true (is_time until && true) ∙ and-true (is_time until)))

  -- ---- the event list
  whole-list : eqb (length h.list % record_width) 0 ≡ true
  unfolding is_list
  whole-list = left (eqb (length h.list % record_width) 0) (leb h.count (length h.list / record_width)) s.list

  bends-code : (start end : ℤ) → bends_refusal h.store h.list h.count start end ≡ demand (is_time start && is_time end)
  unfolding bends_refusal
  bends-code start end = rw (s.list, s.events) (ap demand (and-true (is_time start && is_time end)))

  cut-code : (c : Cut) → cut_refusal h.store h.list h.count c ≡ demand (is_time c.at && all (stays c) (events_of h.list h.count))
  unfolding cut_refusal ok_events
  cut-code c = rw s.list (ap (λ (t : Bool). demand (is_time c.at && t)) (all_stay h.store c (events_of h.list h.count) s.events))

  sort-code : sort_refusal h.store h.list h.count ≡ 0
  unfolding sort_refusal
  sort-code = rw (s.list, s.events)

  split-code : (out : List ℤ) → split_refusal h.store h.list h.count (length out) ≡ cond (eqb (length out % record_width) 0) (split h.list h.count out) 1
  unfolding split_refusal
  split-code out = rw (s.list, s.events)

  chunk-code : (out : List ℕ) → chunk_refusal h.store h.list h.count (length out) ≡ unwritten (events_of h.list h.count) (length out)
  unfolding chunk_refusal
  chunk-code out = rw (s.list, s.events)

  read-code : (c : List ℕ) → read_refusal c h.list h.count ≡ unread c (length (rows_of h.list))
  unfolding read_refusal
  read-code c = rw s.list

  check-code : check_refusal h.store h.list h.count ≡ 0
  unfolding check_refusal
  check-code = rw (s.list, s.events)

  fit-code : fit_refusal h.store h.list h.count ≡ unfitted (events_of h.list h.count)
  unfolding fit_refusal
  fit-code = rw (s.list, s.events)

  normal-code : split_refusal h.store h.list h.count (length h.list) ≡ split h.list h.count h.list
  normal-code = split-code h.list ∙ ap (λ (t : Bool). cond t (split h.list h.count h.list) 1) whole-list

  cc-code : (x : ℤ) → (cc_of_track h.store h.track x h.list h.count).code ≡ cond (is_controller x) 0 2
  unfolding cc_of_track cc_track_refusal
  cc-code x = rw (s.list, k, s.events)

pub asks-alone : (c : Call) (h : Held) → Sound h → number_of c h ≡ own c h
unfolding number_of own
asks-alone (set-timepos x) h s = set-number h.track (k h s) (is_time x) _
asks-alone (set-channel x) h s = set-number h.track (k h s) (is_channel x) _
asks-alone (set-cc-on-time-freq x) h s = set-number h.track (k h s) (is_length x) _
asks-alone (set-pb-on-time-freq x) h s = set-number h.track (k h s) (is_length x) _
asks-alone (calc-v-on-time def) h s = value-on-time-code velocity h.track def ∙ ap (λ (t : Bool). demand (t && is_param velocity && is_number def)) (k h s)
asks-alone (calc-t-on-time def) h s = value-on-time-code timing h.track def ∙ ap (λ (t : Bool). demand (t && is_param timing && is_number def)) (k h s)
asks-alone (calc-qlen-on-time def) h s = value-on-time-code gate h.track def ∙ ap (λ (t : Bool). demand (t && is_param gate && is_number def)) (k h s)
asks-alone (calc-o-on-time def) h s = value-on-time-code octave h.track def ∙ ap (λ (t : Bool). demand (t && is_param octave && is_number def)) (k h s)
asks-alone (calc-l-on-time def) h s = value-on-time-code span h.track def ∙ ap (λ (t : Bool). demand (t && is_param span && is_number def)) (k h s)
asks-alone (calc-v-on-note def) h s = value-on-note-code velocity h.track def ∙ ap (λ (t : Bool). demand (t && is_param velocity && is_number def)) (k h s)
asks-alone (calc-t-on-note def) h s = value-on-note-code timing h.track def ∙ ap (λ (t : Bool). demand (t && is_param timing && is_number def)) (k h s)
asks-alone (calc-qlen-on-note def) h s = value-on-note-code gate h.track def ∙ ap (λ (t : Bool). demand (t && is_param gate && is_number def)) (k h s)
asks-alone (calc-o-on-note def) h s = value-on-note-code octave h.track def ∙ ap (λ (t : Bool). demand (t && is_param octave && is_number def)) (k h s)
asks-alone (calc-l-on-note def) h s = value-on-note-code span h.track def ∙ ap (λ (t : Bool). demand (t && is_param span && is_number def)) (k h s)
asks-alone (set-v-sub i v) h s = layer-number h.track (k h s) _ i _ ∙ ap (λ (t : Bool). layer_demand i (t && is_number v)) (l h.track (k h s))
asks-alone (set-v-sub-random i n) h s = layer-number h.track (k h s) _ i _ ∙ ap (λ (t : Bool). layer_demand i (t && is_random n)) (l h.track (k h s))
asks-alone (set-v-sub-on-time i v) h s = layer-number h.track (k h s) _ i _ ∙ ap (λ (t : Bool). list_demand v (layer_demand i (t && is_curve v))) (started h.track (k h s))
asks-alone (set-v-sub-on-cycle i v) h s = layer-number h.track (k h s) _ i _ ∙ ap (λ (t : Bool). list_demand v (layer_demand i (t && is_length (length_of v) && all is_number (rest_of v)))) (started h.track (k h s))
asks-alone (set-v-sub-on-note i v) h s = layer-number h.track (k h s) _ i _ ∙ ap (λ (t : Bool). list_demand v (layer_demand i (t && all is_number v))) (repeats h.track (k h s))
asks-alone (apply-v-sub v) h s = sum-code h.track (k h s) _ ∙ applied-code h.track (k h s) v
asks-alone (set-param-on-time w v) h s = set-on-time-code w h.track v ∙ ap (λ (t : Bool). list_demand v (demand (t && is_param w && is_curve v))) (k h s)
asks-alone (set-param-on-cycle w v) h s = set-on-cycle-code w h.track v ∙ ap (λ (t : Bool). list_demand v (demand (t && is_param w && (is_length (length_of v) && all is_number (rest_of v))))) (k h s)
asks-alone (set-param-on-note w v) h s = listed-number h.track (k h s) w v (all is_number v) _
asks-alone (clear-param-reserve w) h s = cleared-number h.track (k h s) w _
asks-alone (set-param-random w n) h s = set-random-code w h.track n ∙ ap (λ (t : Bool). demand (t && is_param w && is_random n)) (k h s)
asks-alone (set-param-range w low high) h s = set-range-code w h.track low high ∙ ap (λ (t : Bool). demand (t && is_param w && (is_number low && is_number high))) (k h s)
asks-alone (clear-param-range w) h s = cleared-number h.track (k h s) w _
asks-alone (set-param-delay w x) h s = param-number h.track (k h s) w (is_length x) _
asks-alone (set-param-max w x) h s = param-number h.track (k h s) w (is_number x) _
asks-alone (clear-param-max w) h s = cleared-number h.track (k h s) w _
asks-alone (set-param-repeat w n) h s = param-number h.track (k h s) w (is_flag n) _
asks-alone (set-delay target x) h s = option-number h.track (k h s) target _ _
asks-alone (set-random target x) h s = option-number h.track (k h s) target _ _
asks-alone (set-range target low high) h s = option-number h.track (k h s) target _ _
asks-alone (clear-range target) h s = option-number h.track (k h s) target _ _
asks-alone (set-repeat target n) h s = repeat-number h.track (k h s) target n
asks-alone (remove-cc-on-note number) h s = note-number h.track (k h s) number
asks-alone (remove-cc-on-note-wave number) h s = wave-number h.track (k h s) number
asks-alone (get-write-opt target) h s = told-number h.track (k h s) target
asks-alone (remove-reserve target) h s = remove-number h.track h.cycles s.track s.sixteen target
asks-alone (set-on-note target v) h s = note-set-number h.track h.cycles s.track s.sixteen target v
asks-alone (set-on-note-wave target mode v) h s = wave-set-number h.track h.cycles s.track s.sixteen target mode v
asks-alone (set-on-note-sine target sine) h s = sine-set-number h.track h.cycles s.track s.sixteen target sine
asks-alone (set-on-cycle target len v) h s = cycle-set-number h.track h.cycles s.track s.sixteen target len v
asks-alone (remove-cc-on number) h s = remove-number h.track h.cycles s.track s.sixteen (cc_target number)
asks-alone (set-cc-on-note number v) h s = note-set-number h.track h.cycles s.track s.sixteen (cc_target number) v
asks-alone (set-cc-on-note-wave number v) h s = wave-set-number h.track h.cycles s.track s.sixteen (cc_target number) normal v
asks-alone (set-pb-on-note-wave big v) h s = wave-set-number h.track h.cycles s.track s.sixteen (pb_target big) normal v
asks-alone remove-pb-on-note-wave h s = remove-number h.track h.cycles s.track s.sixteen (pos 129)
asks-alone (write-on-time target v) h s = draw-number h s _ refl refl refl refl refl
asks-alone (write-cc-on-time number v) h s = draw-number h s _ refl refl refl refl refl
asks-alone (write-pb-on-time big v) h s = draw-number h s _ refl refl refl refl refl
asks-alone (write-sine target shape low high len times) h s = draw-number h s _ refl refl refl refl refl
asks-alone (write-cc-on-note start) h s = note-code h s start
asks-alone (write-cc-on-note-wave start) h s = wave-code h s start
asks-alone (write-cc-on-cycle until) h s = cycle_code h s until
asks-alone (remove-pitch-bend-in-range start end) h s = bends-code h s start end
asks-alone normalize h s = normal-code h s
asks-alone (play-from cut) h s = cut-code h s (plain cut)
asks-alone (full-cut cut) h s = cut-code h s (whole cut)
asks-alone events-sort h s = sort-code h s
asks-alone (split-note-off out) h s = split-code h s out
asks-alone (current-cc-value x) h s = cc-code h s x
asks-alone (write-chunk out) h s = chunk-code h s out
asks-alone (read-chunk c) h s = read-code h s c
asks-alone check-profile h s = check-code h s
asks-alone fit-profile h s = fit-code h s

-- ---- from the makers on, after any series of calls
pub made-asks-alone : (timebase channel : ℤ) (cs : List Cycle) (seed maximum : ℕ) (l : List ℤ) (store : ℕ)
    → (new_of timebase channel).code ≡ 0 → length cs ≡ places → (new_budget seed maximum).code ≡ 0 → is_list l 0 ≡ true
    → (calls : List Call) (c : Call) → (let h = after_all calls (made timebase channel cs seed maximum l store) in number_of c h ≡ own c h)
made-asks-alone timebase channel cs seed maximum l store a n m e calls c =
    asks-alone c (after_all calls (made timebase channel cs seed maximum l store)) (made-stays-sound timebase channel cs seed maximum l store a n m e calls)
