-- 01, "Numbers that come back": the number that each call of a series answers, and what is left of it where what is held passes the tests of 1 and 4
-- (`Sound` in Series). Then 1 and 4 are given for the call's own arguments, or for an event time that would result, and for nothing that the library made.
-- 10 and 11, of `write-chunk`, are asked of the list as it stands; 13, 14, 15 and 4, of `read-chunk`, of the chunk that is handed in; 17 and 18, of
-- `fit-profile`, of the list as it stands.
use Rattle.std.specs.Prelude.{Bool, true, cond, not, ◌&&◌, ◌||◌, List, ℕ, ◌/◌, ◌%◌, eqb, leb, ltb, ℤ, pos, length}
use Rattle.laws.specs.Lists.{all}
use Rattle.numbers.specs.Ranges.{is_time, is_number, is_length, is_random, is_channel, is_controller, is_target, is_event_time}
use Rattle.counted.specs.Numbers.{numbers, ok_numbers}
use Rattle.counted.specs.Curves.{is_curve}
use Rattle.events.specs.declared.Event.{Event}
use Rattle.eventlist.specs.Rows.{record_width, rows_of, events_of}
use Rattle.eventlist.specs.Bends.{bends_taken}
use Rattle.sorting.specs.Sorting.{sort_refusal}
use Rattle.chunks.specs.Writing.{unwritten, chunk_written}
use Rattle.reader.specs.Reading.{unread, read_taken}
use Rattle.profile.specs.Calls.{unfitted, check_refusal, fit_taken}
use Rattle.notes.specs.Notes.{split_notes, ok_end, split_taken}
use Rattle.cutting.specs.declared.Cut.{Cut}
use Rattle.cutting.specs.Cuts.{keeps, shifted, plain, whole, cut_taken}
use Rattle.reserved.specs.Setting.{demand, list_demand, length_of, rest_of}
use Rattle.params.specs.Param.{is_flag}
use Rattle.params.specs.Calls as params
use Rattle.layers.specs.Calls as layers
use Rattle.layers.specs.Calls.{layer_demand}
use Rattle.cycles.specs.Due.{key}
use Rattle.tables.specs.Reservations.{ok_wave, ok_sine}
use Rattle.state.specs.Calls.{set_timepos, set_channel, set_cc_freq, set_pb_freq}
use Rattle.playing.specs.Which.{velocity, gate, timing, octave, span, is_param, param_of}
use Rattle.playing.specs.Calls.{on_param, on_layers, summed_up, value_on_time, value_on_note}
use Rattle.drawing.specs.Options as options
use Rattle.drawing.specs.Calls.{Draw, draw_lacks, draw_answer, on_time, on_sine, cc_target, pb_target, sine_for}
use Rattle.noting.specs.Calls.{run_of, list_after, noted}
use Rattle.waving.specs.Calls.{after_note, note_written}
use Rattle.cycling.specs.Calls.{left_by, cycled_of}
use Rattle.reserving.specs.Clearing.{cleared}
use Rattle.reserving.specs.Setting.{is_short, wave_of, note_room, wave_room, sine_room, cycle_room, only_removes, remove_reserve, set_on_note, set_on_note_wave, set_on_note_sine, set_on_cycle}
use Rattle.reserving.specs.Old.{normal, remove_cc_on, set_cc_on_note, set_cc_on_note_wave, set_pb_on_note_wave, remove_pb_on_note_wave, remove_cc_on_note, remove_cc_on_note_wave}
use Rattle.track.specs.Reading.{cc_of_track}
use Rattle.track.specs.Series.{Held, Call}
use Rattle.track.specs.Series.{set-timepos, set-channel, set-cc-on-time-freq, set-pb-on-time-freq, calc-v-on-time, calc-t-on-time, calc-qlen-on-time, calc-o-on-time, calc-l-on-time, calc-v-on-note, calc-t-on-note, calc-qlen-on-note, calc-o-on-note, calc-l-on-note, set-v-sub, set-v-sub-random, set-v-sub-on-time, set-v-sub-on-cycle, set-v-sub-on-note, apply-v-sub, set-param-on-time, set-param-on-cycle, set-param-on-note, clear-param-reserve, set-param-random, set-param-range, clear-param-range, set-param-delay, set-param-max, clear-param-max, set-param-repeat, set-delay, set-random, set-range, clear-range, set-repeat, remove-cc-on-note, remove-cc-on-note-wave, get-write-opt, remove-reserve, set-on-note, set-on-note-wave, set-on-note-sine, set-on-cycle, remove-cc-on, set-cc-on-note, set-cc-on-note-wave, set-pb-on-note-wave, remove-pb-on-note-wave, write-on-time, write-cc-on-time, write-pb-on-time, write-sine, write-cc-on-note, write-cc-on-note-wave, write-cc-on-cycle, remove-pitch-bend-in-range, normalize, play-from, full-cut, events-sort, split-note-off, current-cc-value, write-chunk, read-chunk, check-profile, fit-profile}

-- ---- the number that a call answers
unfoldable pub number_of : Call → Held → ℕ
number_of (set-timepos x) h = (set_timepos h.track x).code
number_of (set-channel x) h = (set_channel h.track x).code
number_of (set-cc-on-time-freq x) h = (set_cc_freq h.track x).code
number_of (set-pb-on-time-freq x) h = (set_pb_freq h.track x).code
number_of (calc-v-on-time def) h = (value_on_time velocity h.track def).code
number_of (calc-t-on-time def) h = (value_on_time timing h.track def).code
number_of (calc-qlen-on-time def) h = (value_on_time gate h.track def).code
number_of (calc-o-on-time def) h = (value_on_time octave h.track def).code
number_of (calc-l-on-time def) h = (value_on_time span h.track def).code
number_of (calc-v-on-note def) h = (value_on_note velocity h.track def).code
number_of (calc-t-on-note def) h = (value_on_note timing h.track def).code
number_of (calc-qlen-on-note def) h = (value_on_note gate h.track def).code
number_of (calc-o-on-note def) h = (value_on_note octave h.track def).code
number_of (calc-l-on-note def) h = (value_on_note span h.track def).code
number_of (set-v-sub i v) h = (on_layers h.track (layers.set_v_sub h.track.layers i v)).code
number_of (set-v-sub-random i n) h = (on_layers h.track (layers.set_v_sub_random h.track.layers i n)).code
number_of (set-v-sub-on-time i v) h = (on_layers h.track (layers.set_v_sub_on_time h.track.layers i h.track.timepos h.track.v.delay v)).code
number_of (set-v-sub-on-cycle i v) h = (on_layers h.track (layers.set_v_sub_on_cycle h.track.layers i h.track.timepos h.track.v.delay v)).code
number_of (set-v-sub-on-note i v) h = (on_layers h.track (layers.set_v_sub_on_note h.track.layers i h.track.v.repeat v)).code
number_of (apply-v-sub v) h = (summed_up h.track (layers.apply_v_sub h.track.layers h.track.timepos v)).code
number_of (set-param-on-time w v) h = (on_param w h.track (params.set_on_time (param_of w h.track) h.track.timepos v)).code
number_of (set-param-on-cycle w v) h = (on_param w h.track (params.set_on_cycle (param_of w h.track) h.track.timepos v)).code
number_of (set-param-on-note w v) h = (on_param w h.track (params.set_on_note (param_of w h.track) v)).code
number_of (clear-param-reserve w) h = (on_param w h.track (params.clear_reserve (param_of w h.track))).code
number_of (set-param-random w n) h = (on_param w h.track (params.set_random (param_of w h.track) n)).code
number_of (set-param-range w low high) h = (on_param w h.track (params.set_range (param_of w h.track) low high)).code
number_of (clear-param-range w) h = (on_param w h.track (params.clear_range (param_of w h.track))).code
number_of (set-param-delay w x) h = (on_param w h.track (params.set_delay (param_of w h.track) x)).code
number_of (set-param-max w x) h = (on_param w h.track (params.set_max (param_of w h.track) x)).code
number_of (clear-param-max w) h = (on_param w h.track (params.clear_max (param_of w h.track))).code
number_of (set-param-repeat w n) h = (on_param w h.track (params.set_repeat (param_of w h.track) n)).code
number_of (set-delay target x) h = (options.set_delay h.track target x).code
number_of (set-random target x) h = (options.set_random h.track target x).code
number_of (set-range target low high) h = (options.set_range h.track target low high).code
number_of (clear-range target) h = (options.clear_range h.track target).code
number_of (set-repeat target n) h = (options.set_repeat h.track target n).code
number_of (remove-cc-on-note number) h = (remove_cc_on_note h.track number).code
number_of (remove-cc-on-note-wave number) h = (remove_cc_on_note_wave h.track number).code
number_of (get-write-opt target) h = (options.option_for h.track target).code
number_of (remove-reserve target) h = (remove_reserve h.track (length h.cycles) h.cycles target).code
number_of (set-on-note target v) h = (set_on_note h.track (length h.cycles) h.cycles target v).code
number_of (set-on-note-wave target mode v) h = (set_on_note_wave h.track (length h.cycles) h.cycles target mode v).code
number_of (set-on-note-sine target sine) h = (set_on_note_sine h.track (length h.cycles) h.cycles target sine).code
number_of (set-on-cycle target len v) h = (set_on_cycle h.track (length h.cycles) h.cycles target len v).code
number_of (remove-cc-on number) h = (remove_cc_on h.track (length h.cycles) h.cycles number).code
number_of (set-cc-on-note number v) h = (set_cc_on_note h.track (length h.cycles) h.cycles number v).code
number_of (set-cc-on-note-wave number v) h = (set_cc_on_note_wave h.track (length h.cycles) h.cycles number v).code
number_of (set-pb-on-note-wave big v) h = (set_pb_on_note_wave h.track (length h.cycles) h.cycles big v).code
number_of remove-pb-on-note-wave h = (remove_pb_on_note_wave h.track (length h.cycles) h.cycles).code
number_of (write-on-time target v) h = (draw_answer (on_time h.track target v h.budget h.list h.count h.store)).code
number_of (write-cc-on-time number v) h = (draw_answer (on_time h.track (cc_target number) v h.budget h.list h.count h.store)).code
number_of (write-pb-on-time big v) h = (draw_answer (on_time h.track (pb_target big) v h.budget h.list h.count h.store)).code
number_of (write-sine target shape low high len times) h = (draw_answer (on_sine h.track (sine_for target shape low high len times) h.budget h.list h.count h.store)).code
number_of (write-cc-on-note start) h = (noted h.track start h.budget h.list h.count).code
number_of (write-cc-on-note-wave start) h = (note_written h.store h.track start h.budget h.list h.count).code
number_of (write-cc-on-cycle until) h = (cycled_of h.track (length h.cycles) h.cycles until h.budget h.list h.count).code
number_of (remove-pitch-bend-in-range start end) h = (bends_taken h.store h.list h.count start end).code
number_of normalize h = (split_taken h.store h.list h.count h.list).code
number_of (play-from cut) h = (cut_taken h.store h.list h.count (plain cut)).code
number_of (full-cut cut) h = (cut_taken h.store h.list h.count (whole cut)).code
number_of events-sort h = sort_refusal h.store h.list h.count
number_of (split-note-off out) h = (split_taken h.store h.list h.count out).code
number_of (current-cc-value x) h = (cc_of_track h.store h.track x h.list h.count).code
number_of (write-chunk out) h = (chunk_written h.store h.list h.count (length out)).code
number_of (read-chunk c) h = (read_taken c h.list h.count).code
number_of check-profile h = check_refusal h.store h.list h.count
number_of fit-profile h = (fit_taken h.store h.list h.count).code

-- ---- the same, where what is held passes 1 and 4: 2, 3 and 4 ask the arguments alone, or a time that would result; 5, 6 and 7 ask for room
abbrev pub targeted : ℤ → Bool → ℕ
targeted target ok = cond (is_target target) (demand ok) 2

abbrev pub reserved : ℤ → Bool → Bool → Bool → ℕ
reserved target short ok room = cond (is_target target) (cond short (cond ok (cond room 0 6) 4) 3) 2

abbrev pub drawn : Draw → ℕ
drawn d = cond (is_target d.target) (cond d.short (cond d.allowed (cond (draw_lacks d) 7 0) 4) 3) 2

abbrev pub timed : ℤ → Bool → ℕ
timed t full = cond (is_time t) (cond full 7 0) 4

abbrev pub split : List ℤ → ℕ → List ℤ → ℕ
split l count out = cond (all ok_end (events_of l count)) (cond (ltb (length out / record_width) (length (split_notes (events_of l count)))) 7 0) 4

-- an event that a cut keeps stays in time
abbrev pub stays : Cut → Event → Bool
stays c e = not (keeps c e) || is_event_time (shifted c e).time

unfoldable pub own : Call → Held → ℕ
own (set-timepos x) h = demand (is_time x)
own (set-channel x) h = demand (is_channel x)
own (set-cc-on-time-freq x) h = demand (is_length x)
own (set-pb-on-time-freq x) h = demand (is_length x)
own (calc-v-on-time def) h = demand (is_number def)
own (calc-t-on-time def) h = demand (is_number def)
own (calc-qlen-on-time def) h = demand (is_number def)
own (calc-o-on-time def) h = demand (is_number def)
own (calc-l-on-time def) h = demand (is_number def)
own (calc-v-on-note def) h = demand (is_number def)
own (calc-t-on-note def) h = demand (is_number def)
own (calc-qlen-on-note def) h = demand (is_number def)
own (calc-o-on-note def) h = demand (is_number def)
own (calc-l-on-note def) h = demand (is_number def)
own (set-v-sub i v) h = layer_demand i (is_number v)
own (set-v-sub-random i n) h = layer_demand i (is_random n)
own (set-v-sub-on-time i v) h = list_demand v (layer_demand i (is_curve v))
own (set-v-sub-on-cycle i v) h = list_demand v (layer_demand i (is_length (length_of v) && all is_number (rest_of v)))
own (set-v-sub-on-note i v) h = list_demand v (layer_demand i (all is_number v))
own (apply-v-sub v) h = demand (is_number v)
own (set-param-on-time w v) h = list_demand v (demand (is_param w && is_curve v))
own (set-param-on-cycle w v) h = list_demand v (demand (is_param w && (is_length (length_of v) && all is_number (rest_of v))))
own (set-param-on-note w v) h = list_demand v (demand (is_param w && all is_number v))
own (clear-param-reserve w) h = demand (is_param w)
own (set-param-random w n) h = demand (is_param w && is_random n)
own (set-param-range w low high) h = demand (is_param w && (is_number low && is_number high))
own (clear-param-range w) h = demand (is_param w)
own (set-param-delay w x) h = demand (is_param w && is_length x)
own (set-param-max w x) h = demand (is_param w && is_number x)
own (clear-param-max w) h = demand (is_param w)
own (set-param-repeat w n) h = demand (is_param w && is_flag n)
own (set-delay target x) h = targeted target (is_length x)
own (set-random target x) h = targeted target (is_random x)
own (set-range target low high) h = targeted target (is_number low && is_number high)
own (clear-range target) h = targeted target true
own (set-repeat target n) h = targeted target (leb n 1)
own (remove-cc-on-note number) h = targeted (cc_target number) true
own (remove-cc-on-note-wave number) h = targeted (cc_target number) true
own (get-write-opt target) h = targeted target true
own (remove-reserve target) h = reserved target true true true
own (set-on-note target v) h = reserved target (is_short v) (ok_numbers (numbers v)) (note_room (cleared h.track h.cycles (key target)))
own (set-on-note-wave target mode v) h = reserved target (is_short v) (ok_wave (wave_of target mode (numbers v))) (wave_room (cleared h.track h.cycles (key target)))
own (set-on-note-sine target sine) h = reserved target true (ok_sine sine && eqb (key sine.target) (key target)) (sine_room (cleared h.track h.cycles (key target)))
own (set-on-cycle target len v) h = reserved target (is_short v) (is_length len && ok_numbers (numbers v)) (only_removes len (numbers v) || cycle_room (cleared h.track h.cycles (key target)))
own (remove-cc-on number) h = reserved (cc_target number) true true true
own (set-cc-on-note number v) h = reserved (cc_target number) (is_short v) (ok_numbers (numbers v)) (note_room (cleared h.track h.cycles (key (cc_target number))))
own (set-cc-on-note-wave number v) h = reserved (cc_target number) (is_short v) (ok_wave (wave_of (cc_target number) normal (numbers v))) (wave_room (cleared h.track h.cycles (key (cc_target number))))
own (set-pb-on-note-wave big v) h = reserved (pb_target big) (is_short v) (ok_wave (wave_of (pb_target big) normal (numbers v))) (wave_room (cleared h.track h.cycles (key (pb_target big))))
own remove-pb-on-note-wave h = reserved (pos 129) true true true
own (write-on-time target v) h = drawn (on_time h.track target v h.budget h.list h.count h.store)
own (write-cc-on-time number v) h = drawn (on_time h.track (cc_target number) v h.budget h.list h.count h.store)
own (write-pb-on-time big v) h = drawn (on_time h.track (pb_target big) v h.budget h.list h.count h.store)
own (write-sine target shape low high len times) h = drawn (on_sine h.track (sine_for target shape low high len times) h.budget h.list h.count h.store)
own (write-cc-on-note start) h = timed start (ltb (length (rows_of h.list)) (length (list_after (events_of h.list h.count) (run_of h.track start h.budget))))
own (write-cc-on-note-wave start) h = timed start (ltb (length (rows_of h.list)) (length (after_note h.track start h.budget (events_of h.list h.count)).events))
own (write-cc-on-cycle until) h = timed until (ltb (length (rows_of h.list)) (length (left_by h.track h.cycles until h.budget (events_of h.list h.count)).events))
own (remove-pitch-bend-in-range start end) h = demand (is_time start && is_time end)
own normalize h = split h.list h.count h.list
own (play-from cut) h = demand (is_time cut && all (stays (plain cut)) (events_of h.list h.count))
own (full-cut cut) h = demand (is_time cut && all (stays (whole cut)) (events_of h.list h.count))
own events-sort h = 0
own (split-note-off out) h = cond (eqb (length out % record_width) 0) (split h.list h.count out) 1
own (current-cc-value x) h = cond (is_controller x) 0 2
own (write-chunk out) h = unwritten (events_of h.list h.count) (length out)
own (read-chunk c) h = unread c (length (rows_of h.list))
own check-profile h = 0
own fit-profile h = unfitted (events_of h.list h.count)
