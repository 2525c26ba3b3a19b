-- 01, "Numbers that come back": "1 to 7 return the given state and change nothing". Here of every public call that is handed all by
-- value, under the call's name; RefusedLent has those that are lent a list, a budget or a table. Where the number that is answered is not 0, the
-- answer is that number and what was given; a call that hands nothing back has then no value. None needs its definition opened:
-- `(of-track a).set-timepos x` says so of `set_timepos`.
--     of-track    the track's own numbers, its parameters, layers and options, what is removed of it
--     of-param    a parameter's methods
--     of-layers   the layers' methods
--     of-events   the making of events, their size
--     of-records  the making of a budget, of a sine, of a cycle over time
--     of-cycle    a cycle's value
-- One law carries all: an answer that a test chooses between an unchanged one and a refusal is unchanged (`chosen`).
use mathlib.Core.Path.{◌≡◌, refl, sym, ap}
use mathlib.Core.Bool.{Bool, true, false, cond, ◌&&◌}
use mathlib.Core.List.{List}
use Prim.Native.Nat.{ℕ}
use borrow.Author.Tests.{ne_eqb}
use lib.Dec.{eqb}
use lib.IntN.{ℤ, pos}
use Rattle.numbers.specs.Ranges.{is_time, is_number, is_controller, is_target, is_bytes}
use Rattle.budget.specs.declared.BudgetAnswer.{BudgetAnswer}
use Rattle.budget.specs.Budgets.{unspent, new_budget}
use Rattle.counted.specs.Numbers.{numbers}
use Rattle.events.specs.declared.Event.{Event}
use Rattle.events.specs.declared.Made.{Made}
use Rattle.events.specs.declared.Size.{Size}
use Rattle.events.specs.Kinds.{bytes_of}
use Rattle.events.specs.Events.{zero_event, ok_event, refused, note_event, voice_event, cc_event, pitch_bend_event, pitch_bend_range_event, meta_event, direct_smf_event, sysex_event, made, made_cc, size_of}
use Rattle.reserved.specs.declared.Taken.{Taken}
use Rattle.reserved.specs.declared.OnCycleTime.{OnCycleTime}
use Rattle.reserved.specs.declared.CycleTimeAnswer.{CycleTimeAnswer}
use Rattle.std.proofs.Common.{Option, Some, None, Result, Ok, Err}
use Rattle.numbers.specs.declared.refusals.Refusal.{Refusal}
use Rattle.numbers.specs.declared.refusals.Refusal.TheVariants.{OutOfRange}
use Rattle.reserved.proofs.Saying.{calc-refused}
use Rattle.reserved.specs.Cycle.{said, calc_of}
use Rattle.reserved.specs.Cycle as timed
use Rattle.reserved.specs.Setting.{demand, list_demand, cycle_time, no_cycle_time, new_cycle_time}
use Rattle.params.specs.declared.NoteParam.{NoteParam}
use Rattle.params.specs.declared.ParamAnswer.{ParamAnswer}
use Rattle.params.specs.declared.ParamValue.{ParamValue}
use Rattle.params.specs.declared.Told.{Told}
use Rattle.params.specs.Param.{with_reserve}
use Rattle.params.specs.Calls as params
use Rattle.layers.specs.declared.Layer.{Layer}
use Rattle.layers.specs.declared.Layers.{Layers}
use Rattle.layers.specs.declared.LayersAnswer.{LayersAnswer}
use Rattle.layers.specs.declared.Velocity.{Velocity}
use Rattle.layers.specs.Layers.{ok_layers, changed}
use Rattle.layers.specs.Calls as layers
use Rattle.values.specs.declared.WriteOption.{WriteOption}
use Rattle.values.specs.Options.{new_option}
use Rattle.tables.specs.declared.SineAnswer.{SineAnswer}
use Rattle.tables.specs.Reservations.{ok_sine}
use Rattle.tables.specs.Tables.{no_sine, sine_of, new_sine}
use Rattle.state.specs.declared.Track.{Track}
use Rattle.state.specs.declared.TrackAnswer.{TrackAnswer}
use Rattle.state.specs.Track.{new_track, with_layers}
use Rattle.state.specs.Tests.{ok_track}
use Rattle.state.specs.Calls.{answer, answered, new_of, set_timepos, set_channel, set_cc_freq, set_pb_freq}
use Rattle.playing.specs.declared.TrackValue.{TrackValue}
use Rattle.playing.specs.declared.TrackVelocity.{TrackVelocity}
use Rattle.playing.specs.Which.{velocity, gate, timing, octave, span, param_of}
use Rattle.playing.specs.Calls.{asked, given, on_param, on_layers, time_taken, note_taken, summed_up, value_on_time, value_on_note}
use Rattle.drawing.specs.declared.OptionAnswer.{OptionAnswer}
use Rattle.drawing.specs.Options as options
use Rattle.reserving.specs.Old.{remove_cc_on_note, remove_cc_on_note_wave}

-- ---- the law, of any answer with a number
module _ {R : Type 0} (code : R → ℕ) (back : ℕ → R) where
  abbrev pub Unchanged : R → Type 0
  Unchanged r = (code r ≡ 0 → ⊥) → r ≡ back (code r)

  pub done : (r : R) → code r ≡ 0 → Unchanged r
  done r e h = absurd (h e)

  pub chosen : (t : Bool) (n : ℕ) (r : R) → Unchanged r → code (back n) ≡ n → Unchanged (cond t r (back n))
  chosen true n r u e h = u h
  chosen false n r u e h = ap back (sym e)

  -- by a refusal n, as most are
  pub numbered : (n : ℕ) (r : R) → code r ≡ 0 → code (back n) ≡ n → Unchanged (cond (eqb n 0) r (back n))
  numbered n r e = chosen (eqb n 0) n r (done r e)

-- ---- each kind of answer: what is handed back with its number
abbrev pub TrackKept : Track → TrackAnswer → Type 0
TrackKept a = Unchanged (λ (r : TrackAnswer). r.code) (λ n. answer n a)

abbrev pub ValueKept : Track → TrackValue → Type 0
ValueKept a = Unchanged (λ (r : TrackValue). r.code) (λ n. record { code = n; value = pos 0; track = a })

abbrev pub VelocityKept : Track → TrackVelocity → Type 0
VelocityKept a = Unchanged (λ (r : TrackVelocity). r.code) (λ n. record { code = n; value = pos 0; track = a })

abbrev pub ParamKept : NoteParam → ParamAnswer → Type 0
ParamKept p = Unchanged (λ (r : ParamAnswer). r.code) (λ n. record { code = n; param = p })

abbrev pub ParamValueKept : NoteParam → ParamValue → Type 0
ParamValueKept p = Unchanged (λ (r : ParamValue). r.code) (λ n. record { code = n; value = pos 0; param = p })

abbrev pub LayersKept : Layers → LayersAnswer → Type 0
LayersKept l = Unchanged (λ (r : LayersAnswer). r.code) (λ n. record { code = n; layers = l })

abbrev pub SumKept : Layers → Velocity → Type 0
SumKept l = Unchanged (λ (r : Velocity). r.code) (λ n. record { code = n; value = pos 0; layers = l })

-- nothing is handed back: the answer has no value, no option, no event
abbrev pub Untold : Told → Type 0
Untold = Unchanged (λ (r : Told). r.code) (λ n. record { code = n; value = pos 0 })

abbrev pub NoOption : OptionAnswer → Type 0
NoOption = Unchanged (λ (r : OptionAnswer). r.code) (λ n. record { code = n; option = new_option })

abbrev pub NoEvent : Made → Type 0
NoEvent = Unchanged (λ (r : Made). r.code) (λ n. record { code = n; event = zero_event })

abbrev pub NoBudget : BudgetAnswer → Type 0
NoBudget = Unchanged (λ (r : BudgetAnswer). r.code) (λ n. record { code = n; budget = unspent 0 0 })

abbrev pub NoSine : SineAnswer → Type 0
NoSine = Unchanged (λ (r : SineAnswer). r.code) (λ n. record { code = n; sine = no_sine })

abbrev pub NoCycleTime : CycleTimeAnswer → Type 0
NoCycleTime = Unchanged (λ (r : CycleTimeAnswer). r.code) (λ n. record { code = n; cycle = no_cycle_time })

abbrev pub NoSize : Size → Type 0
NoSize = Unchanged (λ (r : Size). r.code) (λ n. record { code = n; bytes = 0 })

-- ---- the ways in which the definitions choose
track-kept : (n : ℕ) (a b : Track) → TrackKept a (answered n a b)
unfolding answered
track-kept n a b = numbered (λ (r : TrackAnswer). r.code) (λ m. answer m a) n (answer 0 b) refl refl

value-kept : (n : ℕ) (a : Track) (v : ℤ) (b : Track) → ValueKept a (given n a v b)
unfolding given
value-kept n a v b =
    numbered (λ (r : TrackValue). r.code) (λ m. record { code = m; value = pos 0; track = a }) n (record { code = 0; value = v; track = b }) refl refl

on-time-kept : (w : ℕ) (a : Track) (r : ParamValue) → ValueKept a (time_taken w a r)
unfolding time_taken
on-time-kept w a r = value-kept _ a _ _

on-note-kept : (w : ℕ) (a : Track) (r : ParamValue) → ValueKept a (note_taken w a r)
unfolding note_taken
on-note-kept w a r = value-kept _ a _ _

summed_kept : (a : Track) (s : Velocity) → VelocityKept a (summed_up a s)
unfolding summed_up
summed_kept a s =
    numbered (λ (r : TrackVelocity). r.code) (λ m. record { code = m; value = pos 0; track = a }) (asked (ok_track a) s.code)
    (record { code = 0; value = s.value; track = with_layers a s.layers }) refl refl

on-param-kept : (w : ℕ) (a : Track) (r : ParamAnswer) → TrackKept a (on_param w a r)
unfolding on_param
on-param-kept w a r = track-kept _ a _

on-layers-kept : (a : Track) (r : LayersAnswer) → TrackKept a (on_layers a r)
unfolding on_layers
on-layers-kept a r = track-kept _ a _

option-kept : (a : Track) (target : ℤ) (o : WriteOption) (ok : Bool) → TrackKept a (options.left a target o ok)
unfolding options.left
option-kept a target o ok = track-kept _ a _

param-kept : (n : ℕ) (p q : NoteParam) → ParamKept p (params.answered n p q)
unfolding params.answered
param-kept n p q = numbered (λ (r : ParamAnswer). r.code) (λ m. record { code = m; param = p }) n (record { code = 0; param = q }) refl refl

param-value-kept : (n : ℕ) (p : NoteParam) (t : Taken) → ParamValueKept p (params.given n p t)
unfolding params.given
param-value-kept n p t =
    numbered (λ (r : ParamValue). r.code) (λ m. record { code = m; value = pos 0; param = p }) n
    (record { code = 0; value = t.value; param = with_reserve p t.reserve }) refl refl

untold : (n : ℕ) (v : ℤ) → Untold (params.told n v)
unfolding params.told
untold n v = numbered (λ (r : Told). r.code) (λ m. record { code = m; value = pos 0 }) n (record { code = 0; value = v }) refl refl

layers-kept : (n : ℕ) (l : Layers) (i : ℕ) (f : Layer → Layer) → LayersKept l (layers.answered n l i f)
unfolding layers.answered
layers-kept n l i f = numbered (λ (r : LayersAnswer). r.code) (λ m. record { code = m; layers = l }) n (record { code = 0; layers = changed l i f }) refl refl

no-event : (store : ℕ) (e : Event) → NoEvent (made store e)
no-event store e =
    chosen (λ (r : Made). r.code) (λ m. record { code = m; event = zero_event }) (ok_event store e) 4 (record { code = 0; event = e })
    (λ h. absurd (h refl)) refl

no-controller : (t : Bool) (e : Event) → NoEvent (cond t (made 0 e) (refused 2))
no-controller t e = chosen (λ (r : Made). r.code) (λ m. record { code = m; event = zero_event }) t 2 (made 0 e) (no-event 0 e) refl

no_size : (store : ℕ) (e : Event) → NoSize (size_of store e)
no_size store e =
    chosen (λ (r : Size). r.code) (λ m. record { code = m; bytes = 0 }) (ok_event store e) 4 (record { code = 0; bytes = bytes_of e.kind e.len })
    (λ h. absurd (h refl)) refl

sum_kept : (l : Layers) (timepos v : ℤ) → SumKept l (layers.apply_v_sub l timepos v)
unfolding layers.apply_v_sub
sum_kept l timepos v =
    chosen (λ (r : Velocity). r.code) (λ m. record { code = m; value = pos 0; layers = l }) (ok_layers l && is_time timepos && is_number v) 4
    (layers.summed l timepos v) (λ h. absurd (h refl)) refl

option-told : (n : ℕ) (o : WriteOption) → NoOption (options.answer_option n o)
option-told n o h = rw (ne_eqb n 0 h)

-- ---- the track
pub record OfTrack (a : Track) : Type 0 where
  pub new : (timebase channel : ℤ) → TrackKept (new_track (pos 0) (pos 0)) (new_of timebase channel)
  pub set-timepos : (x : ℤ) → TrackKept a (set_timepos a x)
  pub set-channel : (x : ℤ) → TrackKept a (set_channel a x)
  pub set-cc-on-time-freq : (x : ℤ) → TrackKept a (set_cc_freq a x)
  pub set-pb-on-time-freq : (x : ℤ) → TrackKept a (set_pb_freq a x)
  pub calc-v-on-time : (def : ℤ) → ValueKept a (value_on_time velocity a def)
  pub calc-t-on-time : (def : ℤ) → ValueKept a (value_on_time timing a def)
  pub calc-qlen-on-time : (def : ℤ) → ValueKept a (value_on_time gate a def)
  pub calc-o-on-time : (def : ℤ) → ValueKept a (value_on_time octave a def)
  pub calc-l-on-time : (def : ℤ) → ValueKept a (value_on_time span a def)
  pub calc-v-on-note : (def : ℤ) → ValueKept a (value_on_note velocity a def)
  pub calc-t-on-note : (def : ℤ) → ValueKept a (value_on_note timing a def)
  pub calc-qlen-on-note : (def : ℤ) → ValueKept a (value_on_note gate a def)
  pub calc-o-on-note : (def : ℤ) → ValueKept a (value_on_note octave a def)
  pub calc-l-on-note : (def : ℤ) → ValueKept a (value_on_note span a def)
  pub set-v-sub : (i : ℕ) (v : ℤ) → TrackKept a (on_layers a (layers.set_v_sub a.layers i v))
  pub set-v-sub-random : (i : ℕ) (n : ℤ) → TrackKept a (on_layers a (layers.set_v_sub_random a.layers i n))
  pub set-v-sub-on-time : (i : ℕ) (v : List ℤ) → TrackKept a (on_layers a (layers.set_v_sub_on_time a.layers i a.timepos a.v.delay v))
  pub set-v-sub-on-cycle : (i : ℕ) (v : List ℤ) → TrackKept a (on_layers a (layers.set_v_sub_on_cycle a.layers i a.timepos a.v.delay v))
  pub set-v-sub-on-note : (i : ℕ) (v : List ℤ) → TrackKept a (on_layers a (layers.set_v_sub_on_note a.layers i a.v.repeat v))
  pub apply-v-sub : (v : ℤ) → VelocityKept a (summed_up a (layers.apply_v_sub a.layers a.timepos v))
  pub set-param-on-time : (w : ℕ) (v : List ℤ) → TrackKept a (on_param w a (params.set_on_time (param_of w a) a.timepos v))
  pub set-param-on-cycle : (w : ℕ) (v : List ℤ) → TrackKept a (on_param w a (params.set_on_cycle (param_of w a) a.timepos v))
  pub set-param-on-note : (w : ℕ) (v : List ℤ) → TrackKept a (on_param w a (params.set_on_note (param_of w a) v))
  pub clear-param-reserve : (w : ℕ) → TrackKept a (on_param w a (params.clear_reserve (param_of w a)))
  pub set-param-random : (w : ℕ) (n : ℤ) → TrackKept a (on_param w a (params.set_random (param_of w a) n))
  pub set-param-range : (w : ℕ) (low high : ℤ) → TrackKept a (on_param w a (params.set_range (param_of w a) low high))
  pub clear-param-range : (w : ℕ) → TrackKept a (on_param w a (params.clear_range (param_of w a)))
  pub set-param-delay : (w : ℕ) (x : ℤ) → TrackKept a (on_param w a (params.set_delay (param_of w a) x))
  pub set-param-max : (w : ℕ) (x : ℤ) → TrackKept a (on_param w a (params.set_max (param_of w a) x))
  pub clear-param-max : (w : ℕ) → TrackKept a (on_param w a (params.clear_max (param_of w a)))
  pub set-param-repeat : (w n : ℕ) → TrackKept a (on_param w a (params.set_repeat (param_of w a) n))
  pub get-write-opt : (target : ℤ) → NoOption (options.option_for a target)
  pub set-delay : (target x : ℤ) → TrackKept a (options.set_delay a target x)
  pub set-random : (target x : ℤ) → TrackKept a (options.set_random a target x)
  pub set-range : (target low high : ℤ) → TrackKept a (options.set_range a target low high)
  pub clear-range : (target : ℤ) → TrackKept a (options.clear_range a target)
  pub set-repeat : (target : ℤ) (n : ℕ) → TrackKept a (options.set_repeat a target n)
  pub remove-cc-on-note : (number : ℤ) → TrackKept a (remove_cc_on_note a number)
  pub remove-cc-on-note-wave : (number : ℤ) → TrackKept a (remove_cc_on_note_wave a number)

pub of-track : (a : Track) → OfTrack a
unfolding new_of options.option_for options.set_repeat remove_cc_on_note remove_cc_on_note_wave
of-track a =
    record {
      new = λ b c. track-kept _ (new_track (pos 0) (pos 0)) _;
      set-timepos = λ x. track-kept _ a _;
      set-channel = λ x. track-kept _ a _;
      set-cc-on-time-freq = λ x. track-kept _ a _;
      set-pb-on-time-freq = λ x. track-kept _ a _;
      calc-v-on-time = λ def. on-time-kept velocity a _;
      calc-t-on-time = λ def. on-time-kept timing a _;
      calc-qlen-on-time = λ def. on-time-kept gate a _;
      calc-o-on-time = λ def. on-time-kept octave a _;
      calc-l-on-time = λ def. on-time-kept span a _;
      calc-v-on-note = λ def. on-note-kept velocity a _;
      calc-t-on-note = λ def. on-note-kept timing a _;
      calc-qlen-on-note = λ def. on-note-kept gate a _;
      calc-o-on-note = λ def. on-note-kept octave a _;
      calc-l-on-note = λ def. on-note-kept span a _;
      set-v-sub = λ i v. on-layers-kept a _;
      set-v-sub-random = λ i n. on-layers-kept a _;
      set-v-sub-on-time = λ i v. on-layers-kept a _;
      set-v-sub-on-cycle = λ i v. on-layers-kept a _;
      set-v-sub-on-note = λ i v. on-layers-kept a _;
      apply-v-sub = λ v. summed_kept a _;
      set-param-on-time = λ w v. on-param-kept w a _;
      set-param-on-cycle = λ w v. on-param-kept w a _;
      set-param-on-note = λ w v. on-param-kept w a _;
      clear-param-reserve = λ w. on-param-kept w a _;
      set-param-random = λ w n. on-param-kept w a _;
      set-param-range = λ w low high. on-param-kept w a _;
      clear-param-range = λ w. on-param-kept w a _;
      set-param-delay = λ w x. on-param-kept w a _;
      set-param-max = λ w x. on-param-kept w a _;
      clear-param-max = λ w. on-param-kept w a _;
      set-param-repeat = λ w n. on-param-kept w a _;
      get-write-opt = λ target. option-told _ _;
      set-delay = λ target x. option-kept a target _ _;
      set-random = λ target x. option-kept a target _ _;
      set-range = λ target low high. option-kept a target _ _;
      clear-range = λ target. option-kept a target _ _;
      set-repeat = λ target n. track-kept _ a _;
      remove-cc-on-note = λ number. track-kept _ a _;
      remove-cc-on-note-wave = λ number. track-kept _ a _;
    }

-- ---- a parameter
pub record OfParam (p : NoteParam) : Type 0 where
  pub clear-reserve : ParamKept p (params.clear_reserve p)
  pub set-on-time : (timepos : ℤ) (v : List ℤ) → ParamKept p (params.set_on_time p timepos v)
  pub set-on-cycle : (timepos : ℤ) (v : List ℤ) → ParamKept p (params.set_on_cycle p timepos v)
  pub set-on-note : (v : List ℤ) → ParamKept p (params.set_on_note p v)
  pub calc-on-time : (timepos def : ℤ) → ParamValueKept p (params.calc_on_time p timepos def)
  pub calc-on-note : (def : ℤ) → ParamValueKept p (params.calc_on_note p def)
  pub has-reserve : Untold (params.has_reserve p)
  pub apply-limit : (v : ℤ) → Untold (params.apply_limit p v)
  pub max-or : (def : ℤ) → Untold (params.maximum_or p def)
  pub set-random : (n : ℤ) → ParamKept p (params.set_random p n)
  pub set-range : (low high : ℤ) → ParamKept p (params.set_range p low high)
  pub clear-range : ParamKept p (params.clear_range p)
  pub set-delay : (x : ℤ) → ParamKept p (params.set_delay p x)
  pub set-max : (x : ℤ) → ParamKept p (params.set_max p x)
  pub clear-max : ParamKept p (params.clear_max p)
  pub set-repeat : (n : ℕ) → ParamKept p (params.set_repeat p n)

pub of-param : (p : NoteParam) → OfParam p
of-param p =
    record {
      clear-reserve = param-kept _ p _;
      set-on-time = λ timepos v. param-kept _ p _;
      set-on-cycle = λ timepos v. param-kept _ p _;
      set-on-note = λ v. param-kept _ p _;
      calc-on-time = λ timepos def. param-value-kept _ p _;
      calc-on-note = λ def. param-value-kept _ p _;
      has-reserve = untold _ _;
      apply-limit = λ v. untold _ _;
      max-or = λ def. untold _ _;
      set-random = λ n. param-kept _ p _;
      set-range = λ low high. param-kept _ p _;
      clear-range = param-kept _ p _;
      set-delay = λ x. param-kept _ p _;
      set-max = λ x. param-kept _ p _;
      clear-max = param-kept _ p _;
      set-repeat = λ n. param-kept _ p _;
    }

-- ---- the layers
pub record OfLayers (l : Layers) : Type 0 where
  pub set-v-sub : (i : ℕ) (v : ℤ) → LayersKept l (layers.set_v_sub l i v)
  pub set-v-sub-random : (i : ℕ) (n : ℤ) → LayersKept l (layers.set_v_sub_random l i n)
  pub set-v-sub-on-time : (i : ℕ) (timepos delay : ℤ) (v : List ℤ) → LayersKept l (layers.set_v_sub_on_time l i timepos delay v)
  pub set-v-sub-on-cycle : (i : ℕ) (timepos delay : ℤ) (v : List ℤ) → LayersKept l (layers.set_v_sub_on_cycle l i timepos delay v)
  pub set-v-sub-on-note : (i repeat : ℕ) (v : List ℤ) → LayersKept l (layers.set_v_sub_on_note l i repeat v)
  pub apply-v-sub : (timepos v : ℤ) → SumKept l (layers.apply_v_sub l timepos v)

pub of-layers : (l : Layers) → OfLayers l
of-layers l =
    record {
      set-v-sub = λ i v. layers-kept _ l i _;
      set-v-sub-random = λ i n. layers-kept _ l i _;
      set-v-sub-on-time = λ i timepos delay v. layers-kept _ l i _;
      set-v-sub-on-cycle = λ i timepos delay v. layers-kept _ l i _;
      set-v-sub-on-note = λ i repeat v. layers-kept _ l i _;
      apply-v-sub = sum_kept l;
    }

-- ---- the making of events; those with data are handed a store of so many bytes
pub record OfEvents (store : ℕ) : Type 0 where
  pub note : (time channel number len vel : ℤ) → NoEvent (made 0 (note_event time channel number len vel))
  pub voice : (time channel value : ℤ) → NoEvent (made 0 (voice_event time channel value))
  pub cc : (time channel number value : ℤ) → NoEvent (made_cc time channel number value)
  pub pitch-bend : (time channel value : ℤ) → NoEvent (made 0 (pitch_bend_event time channel value))
  pub pitch-bend-range : (time channel value : ℤ) → NoEvent (made 0 (pitch_bend_range_event time channel value))
  pub meta : (time v1 v2 v3 offset len : ℤ) → NoEvent (made store (meta_event time v1 v2 v3 offset len))
  pub direct-smf : (time offset len : ℤ) → NoEvent (made store (direct_smf_event time offset len))
  pub sysex-raw : (time offset len : ℤ) → NoEvent (made store (sysex_event time offset len))
  pub estimated-midi-bytes : (e : Event) → NoSize (size_of store e)

pub of-events : (store : ℕ) → OfEvents store
of-events store =
    record {
      note = λ time channel number len vel. no-event 0 _;
      voice = λ time channel value. no-event 0 _;
      cc = λ time channel number value. no-controller (is_controller number) (cc_event time channel number value);
      pitch-bend = λ time channel value. no-event 0 _;
      pitch-bend-range = λ time channel value. no-event 0 _;
      meta = λ time v1 v2 v3 offset len. no-event store _;
      direct-smf = λ time offset len. no-event store _;
      sysex-raw = λ time offset len. no-event store _;
      estimated-midi-bytes = no_size store;
    }

-- ---- other records: refused, each is all zeros
no-budget : (seed maximum : ℕ) → NoBudget (new_budget seed maximum)
unfolding new_budget
no-budget seed maximum =
    chosen (λ (r : BudgetAnswer). r.code) (λ m. record { code = m; budget = unspent 0 0 }) (is_bytes maximum) 4
    (record { code = 0; budget = unspent seed maximum }) (λ h. absurd (h refl)) refl

no-sine : (target : ℤ) (shape : ℕ) (low high len times : ℤ) → NoSine (new_sine target shape low high len times)
unfolding new_sine
no-sine target shape low high len times =
    let s = sine_of target shape low high len times in
    chosen (λ (r : SineAnswer). r.code) (λ m. record { code = m; sine = no_sine }) (is_target target) 2 (cond (ok_sine s) (record { code = 0; sine = s }) (record { code = 4; sine = no_sine }))
    (chosen (λ (r : SineAnswer). r.code) (λ m. record { code = m; sine = no_sine }) (ok_sine s) 4 (record { code = 0; sine = s }) (λ h. absurd (h refl)) refl) refl

no-cycle-time : (start len : ℤ) (v : List ℤ) → NoCycleTime (new_cycle_time start len v)
unfolding new_cycle_time
no-cycle-time start len v =
    numbered (λ (r : CycleTimeAnswer). r.code) (λ m. record { code = m; cycle = no_cycle_time })
    (list_demand v (demand (timed.ok_cycle (cycle_time start len (numbers v))))) (record { code = 0; cycle = cycle_time start len (numbers v) }) refl refl

pub record OfRecords : Type 0 where
  pub budget-new : (seed maximum : ℕ) → NoBudget (new_budget seed maximum)
  pub on-note-sine-new : (target : ℤ) (shape : ℕ) (low high len times : ℤ) → NoSine (new_sine target shape low high len times)
  pub on-cycle-time-new : (start len : ℤ) (v : List ℤ) → NoCycleTime (new_cycle_time start len v)

pub of-records : OfRecords
of-records = record { budget-new = no-budget; on-note-sine-new = no-sine; on-cycle-time-new = no-cycle-time }

-- ---- a cycle's value: the answer is an enum, whose number `said` gives
pub of-cycle : (c : OnCycleTime) (timepos : ℤ) (r : Result (Option ℤ) Refusal) → said r ≡ calc_of c timepos → ((said r).number ≡ 0 → ⊥) → r ≡ Err OutOfRange
of-cycle c timepos (Ok (Some v)) e h = absurd (h refl)
of-cycle c timepos (Ok None) e h = absurd (h refl)
of-cycle c timepos (Err r) e h = ap Err (calc-refused c timepos r e)
