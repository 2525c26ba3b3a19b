-- A product holds a track, sixteen cycle records, a budget and an event list, with a store of bytes that is never written, and makes one call after the
-- other, each on what the one before left. Here: what is held, what 1 and 4 ask of it, every public call over it, and what a call leaves.
-- A call that is refused leaves what was held, as its definition says; a call that only asks (`get-write-opt`, `current-cc-value`, `check-profile`) leaves it too, and so does
-- `write-chunk`, whose output is no part of it.
use Rattle.std.specs.Prelude.{◌≡◌, true, cond, List, [], ◌∷◌, ℕ, eqb, ℤ, length}
use Rattle.numbers.specs.Limits.{places, layer_limit}
use Rattle.budget.specs.declared.Budget.{Budget}
use Rattle.budget.specs.Budgets.{ok_budget}
use Rattle.eventlist.specs.declared.Taken.{Taken}
use Rattle.eventlist.specs.Sound.{is_list, ok_events}
use Rattle.eventlist.specs.Bends.{bends_taken, bends_left}
use Rattle.sorting.specs.Sorting.{sort_left}
use Rattle.notes.specs.Notes.{split_taken, split_left}
use Rattle.reader.specs.Reading.{read_taken, read_left}
use Rattle.profile.specs.Calls.{fit_taken, fit_left}
use Rattle.cutting.specs.Cuts.{plain, whole, cut_taken, cut_left}
use Rattle.params.specs.Calls as params
use Rattle.layers.specs.Calls as layers
use Rattle.cycles.specs.declared.Cycle.{Cycle}
use Rattle.tables.specs.declared.OnNoteSine.{OnNoteSine}
use Rattle.state.specs.declared.Track.{Track}
use Rattle.state.specs.Tests.{ok_lent}
use Rattle.state.specs.Calls.{set_timepos, set_channel, set_cc_freq, set_pb_freq}
use Rattle.playing.specs.Which.{velocity, gate, timing, octave, span, param_of}
use Rattle.playing.specs.Calls.{on_param, on_layers, summed_up, value_on_time, value_on_note}
use Rattle.drawing.specs.Options as options
use Rattle.drawing.specs.Calls.{Draw, draw_answer, draw_left, on_time, on_sine, cc_target, pb_target, sine_for}
use Rattle.noting.specs.Calls.{noted, list_left}
use Rattle.waving.specs.Calls.{note_written, note_left}
use Rattle.cycling.specs.Calls.{cycled_of, cycled_list}
use Rattle.reserving.specs.declared.Kept.{Kept}
use Rattle.reserving.specs.Setting.{remove_reserve, set_on_note, set_on_note_wave, set_on_note_sine, set_on_cycle}
use Rattle.reserving.specs.Old.{remove_cc_on, set_cc_on_note, set_cc_on_note_wave, set_pb_on_note_wave, remove_pb_on_note_wave, remove_cc_on_note, remove_cc_on_note_wave}

pub record Held : Type 0 where
  pub track : Track
  pub cycles : List Cycle
  pub budget : Budget
  pub list : List ℤ
  pub count : ℕ
  pub store : ℕ

-- what the tests of 1 and 4 ask of it; that the layers are sixteen, the type says
pub record Sound (h : Held) : Type 0 where
  pub track : ok_lent h.track h.cycles ≡ true
  pub sixteen : length h.cycles ≡ places
  pub layers : length h.track.layers.items ≡ layer_limit
  pub budget : ok_budget h.budget ≡ true
  pub list : is_list h.list h.count ≡ true
  pub events : ok_events h.store h.list h.count ≡ true

-- ---- a call, with the arguments that it is handed besides
pub data Call : Type 0 where
  set-timepos : ℤ → Call
  set-channel : ℤ → Call
  set-cc-on-time-freq : ℤ → Call
  set-pb-on-time-freq : ℤ → Call
  calc-v-on-time : ℤ → Call
  calc-t-on-time : ℤ → Call
  calc-qlen-on-time : ℤ → Call
  calc-o-on-time : ℤ → Call
  calc-l-on-time : ℤ → Call
  calc-v-on-note : ℤ → Call
  calc-t-on-note : ℤ → Call
  calc-qlen-on-note : ℤ → Call
  calc-o-on-note : ℤ → Call
  calc-l-on-note : ℤ → Call
  set-v-sub : ℕ → ℤ → Call
  set-v-sub-random : ℕ → ℤ → Call
  set-v-sub-on-time : ℕ → List ℤ → Call
  set-v-sub-on-cycle : ℕ → List ℤ → Call
  set-v-sub-on-note : ℕ → List ℤ → Call
  apply-v-sub : ℤ → Call
  set-param-on-time : ℕ → List ℤ → Call
  set-param-on-cycle : ℕ → List ℤ → Call
  set-param-on-note : ℕ → List ℤ → Call
  clear-param-reserve : ℕ → Call
  set-param-random : ℕ → ℤ → Call
  set-param-range : ℕ → ℤ → ℤ → Call
  clear-param-range : ℕ → Call
  set-param-delay : ℕ → ℤ → Call
  set-param-max : ℕ → ℤ → Call
  clear-param-max : ℕ → Call
  set-param-repeat : ℕ → ℕ → Call
  set-delay : ℤ → ℤ → Call
  set-random : ℤ → ℤ → Call
  set-range : ℤ → ℤ → ℤ → Call
  clear-range : ℤ → Call
  set-repeat : ℤ → ℕ → Call
  remove-cc-on-note : ℤ → Call
  remove-cc-on-note-wave : ℤ → Call
  get-write-opt : ℤ → Call
  remove-reserve : ℤ → Call
  set-on-note : ℤ → List ℤ → Call
  set-on-note-wave : ℤ → ℕ → List ℤ → Call
  set-on-note-sine : ℤ → OnNoteSine → Call
  set-on-cycle : ℤ → ℤ → List ℤ → Call
  remove-cc-on : ℤ → Call
  set-cc-on-note : ℤ → List ℤ → Call
  set-cc-on-note-wave : ℤ → List ℤ → Call
  set-pb-on-note-wave : ℤ → List ℤ → Call
  remove-pb-on-note-wave : Call
  write-on-time : ℤ → List ℤ → Call
  write-cc-on-time : ℤ → List ℤ → Call
  write-pb-on-time : ℤ → List ℤ → Call
  write-sine : ℤ → ℕ → ℤ → ℤ → ℤ → ℤ → Call
  write-cc-on-note : ℤ → Call
  write-cc-on-note-wave : ℤ → Call
  write-cc-on-cycle : ℤ → Call
  remove-pitch-bend-in-range : ℤ → ℤ → Call
  normalize : Call
  play-from : ℤ → Call
  full-cut : ℤ → Call
  events-sort : Call
  split-note-off : List ℤ → Call
  current-cc-value : ℤ → Call
  write-chunk : List ℕ → Call
  read-chunk : List ℕ → Call
  check-profile : Call
  fit-profile : Call

-- ---- what it leaves
module _ (h : Held) where
  abbrev pub with_track : Track → Held
  with_track a = record { track = a; cycles = h.cycles; budget = h.budget; list = h.list; count = h.count; store = h.store }

  abbrev pub with_kept : Kept → Held
  with_kept k = record { track = k.track; cycles = k.cycles; budget = h.budget; list = h.list; count = h.count; store = h.store }

  abbrev pub with_list : List ℤ → ℕ → Held
  with_list l n = record { track = h.track; cycles = h.cycles; budget = h.budget; list = l; count = n; store = h.store }

  abbrev pub with_draw : Draw → Held
  with_draw d =
      record { track = h.track; cycles = h.cycles; budget = (draw_answer d).budget; list = draw_left d; count = (draw_answer d).count; store = h.store }

unfoldable pub after : Call → Held → Held
after (set-timepos x) h = with_track h (set_timepos h.track x).track
after (set-channel x) h = with_track h (set_channel h.track x).track
after (set-cc-on-time-freq x) h = with_track h (set_cc_freq h.track x).track
after (set-pb-on-time-freq x) h = with_track h (set_pb_freq h.track x).track
after (calc-v-on-time def) h = with_track h (value_on_time velocity h.track def).track
after (calc-t-on-time def) h = with_track h (value_on_time timing h.track def).track
after (calc-qlen-on-time def) h = with_track h (value_on_time gate h.track def).track
after (calc-o-on-time def) h = with_track h (value_on_time octave h.track def).track
after (calc-l-on-time def) h = with_track h (value_on_time span h.track def).track
after (calc-v-on-note def) h = with_track h (value_on_note velocity h.track def).track
after (calc-t-on-note def) h = with_track h (value_on_note timing h.track def).track
after (calc-qlen-on-note def) h = with_track h (value_on_note gate h.track def).track
after (calc-o-on-note def) h = with_track h (value_on_note octave h.track def).track
after (calc-l-on-note def) h = with_track h (value_on_note span h.track def).track
after (set-v-sub i v) h = with_track h (on_layers h.track (layers.set_v_sub h.track.layers i v)).track
after (set-v-sub-random i n) h = with_track h (on_layers h.track (layers.set_v_sub_random h.track.layers i n)).track
after (set-v-sub-on-time i v) h = with_track h (on_layers h.track (layers.set_v_sub_on_time h.track.layers i h.track.timepos h.track.v.delay v)).track
after (set-v-sub-on-cycle i v) h = with_track h (on_layers h.track (layers.set_v_sub_on_cycle h.track.layers i h.track.timepos h.track.v.delay v)).track
after (set-v-sub-on-note i v) h = with_track h (on_layers h.track (layers.set_v_sub_on_note h.track.layers i h.track.v.repeat v)).track
after (apply-v-sub v) h = with_track h (summed_up h.track (layers.apply_v_sub h.track.layers h.track.timepos v)).track
after (set-param-on-time w v) h = with_track h (on_param w h.track (params.set_on_time (param_of w h.track) h.track.timepos v)).track
after (set-param-on-cycle w v) h = with_track h (on_param w h.track (params.set_on_cycle (param_of w h.track) h.track.timepos v)).track
after (set-param-on-note w v) h = with_track h (on_param w h.track (params.set_on_note (param_of w h.track) v)).track
after (clear-param-reserve w) h = with_track h (on_param w h.track (params.clear_reserve (param_of w h.track))).track
after (set-param-random w n) h = with_track h (on_param w h.track (params.set_random (param_of w h.track) n)).track
after (set-param-range w low high) h = with_track h (on_param w h.track (params.set_range (param_of w h.track) low high)).track
after (clear-param-range w) h = with_track h (on_param w h.track (params.clear_range (param_of w h.track))).track
after (set-param-delay w x) h = with_track h (on_param w h.track (params.set_delay (param_of w h.track) x)).track
after (set-param-max w x) h = with_track h (on_param w h.track (params.set_max (param_of w h.track) x)).track
after (clear-param-max w) h = with_track h (on_param w h.track (params.clear_max (param_of w h.track))).track
after (set-param-repeat w n) h = with_track h (on_param w h.track (params.set_repeat (param_of w h.track) n)).track
after (set-delay target x) h = with_track h (options.set_delay h.track target x).track
after (set-random target x) h = with_track h (options.set_random h.track target x).track
after (set-range target low high) h = with_track h (options.set_range h.track target low high).track
after (clear-range target) h = with_track h (options.clear_range h.track target).track
after (set-repeat target n) h = with_track h (options.set_repeat h.track target n).track
after (remove-cc-on-note number) h = with_track h (remove_cc_on_note h.track number).track
after (remove-cc-on-note-wave number) h = with_track h (remove_cc_on_note_wave h.track number).track
after (get-write-opt target) h = h
after (remove-reserve target) h = with_kept h (remove_reserve h.track (length h.cycles) h.cycles target)
after (set-on-note target v) h = with_kept h (set_on_note h.track (length h.cycles) h.cycles target v)
after (set-on-note-wave target mode v) h = with_kept h (set_on_note_wave h.track (length h.cycles) h.cycles target mode v)
after (set-on-note-sine target sine) h = with_kept h (set_on_note_sine h.track (length h.cycles) h.cycles target sine)
after (set-on-cycle target len v) h = with_kept h (set_on_cycle h.track (length h.cycles) h.cycles target len v)
after (remove-cc-on number) h = with_kept h (remove_cc_on h.track (length h.cycles) h.cycles number)
after (set-cc-on-note number v) h = with_kept h (set_cc_on_note h.track (length h.cycles) h.cycles number v)
after (set-cc-on-note-wave number v) h = with_kept h (set_cc_on_note_wave h.track (length h.cycles) h.cycles number v)
after (set-pb-on-note-wave big v) h = with_kept h (set_pb_on_note_wave h.track (length h.cycles) h.cycles big v)
after remove-pb-on-note-wave h = with_kept h (remove_pb_on_note_wave h.track (length h.cycles) h.cycles)
after (write-on-time target v) h = with_draw h (on_time h.track target v h.budget h.list h.count h.store)
after (write-cc-on-time number v) h = with_draw h (on_time h.track (cc_target number) v h.budget h.list h.count h.store)
after (write-pb-on-time big v) h = with_draw h (on_time h.track (pb_target big) v h.budget h.list h.count h.store)
after (write-sine target shape low high len times) h = with_draw h (on_sine h.track (sine_for target shape low high len times) h.budget h.list h.count h.store)
after (write-cc-on-note start) h =
    let r = noted h.track start h.budget h.list h.count in
    record { track = r.track; cycles = h.cycles; budget = r.budget; list = list_left h.track start h.budget h.list h.count; count = r.count; store = h.store }
after (write-cc-on-note-wave start) h =
    let r = note_written h.store h.track start h.budget h.list h.count in
    record { track = h.track; cycles = h.cycles; budget = r.budget; list = note_left h.store h.track start h.budget h.list h.count; count = r.count; store = h.store }
after (write-cc-on-cycle until) h =
    let r = cycled_of h.track (length h.cycles) h.cycles until h.budget h.list h.count in
    record { track = h.track; cycles = r.cycles; budget = r.budget; list = cycled_list h.track (length h.cycles) h.cycles until h.budget h.list h.count; count = r.count; store = h.store }
after (remove-pitch-bend-in-range start end) h = with_list h (bends_left h.store h.list h.count start end) (bends_taken h.store h.list h.count start end).count
after normalize h = with_list h (split_left h.store h.list h.count h.list h.count) (split_taken h.store h.list h.count h.list).count
after (play-from cut) h = with_list h (cut_left h.store h.list h.count (plain cut)) (cut_taken h.store h.list h.count (plain cut)).count
after (full-cut cut) h = with_list h (cut_left h.store h.list h.count (whole cut)) (cut_taken h.store h.list h.count (whole cut)).count
after events-sort h = with_list h (sort_left h.store h.list h.count) h.count
-- the list that is left in `out` is held from then on
after (split-note-off out) h =
    let r = split_taken h.store h.list h.count out in
    cond (eqb r.code 0) (with_list h (split_left h.store h.list h.count out 0) r.count) h
after (current-cc-value number) h = h
after (write-chunk out) h = h
after (read-chunk c) h = with_list h (read_left c h.list h.count) (read_taken c h.list h.count).count
after check-profile h = h
after fit-profile h = with_list h (fit_left h.store h.list h.count) (fit_taken h.store h.list h.count).count

unfoldable pub after_all : List Call → Held → Held
after_all [] h = h
after_all (c ∷ cs) h = after_all cs (after c h)
