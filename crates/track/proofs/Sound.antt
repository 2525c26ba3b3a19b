-- 01, "Numbers that come back": 1 and 4 are given for what is handed in. What a call leaves passes their tests again, where what it was handed did:
-- so nothing that the library made is refused for a range or a rule. Under each call's name:
--     of-track       the track's own numbers, its parameters, layers and options, what is removed of it: alone, and with the cycle table that is
--                    lent with it, which these calls do not see
--     of-param       a parameter's methods
--     of-layers      the layers' methods
--     of-events      the making of events: what is made may be stored
--     of-makers      the other makers: what they make passes its test
-- SoundLent has the calls that are lent a list, a budget or a table. A call that is refused leaves what it was given, so each is said of both.
use mathlib.Core.Path.{◌≡◌, refl, sym, ap, subst, ◌∙◌}
use mathlib.Core.Bool.{Bool, true, false, cond, ◌&&◌, true≢false}
use mathlib.Core.List.{List}
use Prim.Native.Nat.{ℕ}
use native.Mathlib.Omega.{arith}
use borrow.Author.Tests.{eqb-true, eqb-false}
use lib.Dec.{eqb, leb, ltb}
use lib.IntN.{ℤ, pos, ◌+ℤ◌}
use lib.ListN.{length, replicate}
use Rattle.laws.specs.Integers.{sized, inside}
use Rattle.laws.specs.Keys.{distinct}
use Rattle.laws.specs.Lists.{all, counted}
use Rattle.laws.proofs.Ranges.{right}
use Rattle.numbers.specs.Limits.{list_limit, layer_limit, places}
use Rattle.numbers.specs.Ranges.{is_time, is_stored_time, is_number, is_length, is_random, is_channel, is_controller, is_timebase, is_bytes, is_target}
use Rattle.budget.specs.declared.BudgetAnswer.{BudgetAnswer}
use Rattle.budget.specs.Budgets.{ok_budget, unspent, new_budget}
use Rattle.events.specs.declared.Event.{Event}
use Rattle.events.specs.declared.Made.{Made}
use Rattle.events.specs.Kinds.{has_data}
use Rattle.events.specs.Events.{ok_data, ok_event, note_event, voice_event, cc_event, pitch_bend_event, pitch_bend_range_event, meta_event, direct_smf_event, sysex_event, made, made_cc, refused as refused_event}
use Rattle.events.proofs.Stored.{storable, storable-ok}
use Rattle.counted.specs.Numbers.{numbers, ok_numbers}
use Rattle.counted.specs.Curves.{is_curve}
use Rattle.reserved.specs.Reserve.{on_note, curve_from, notes_from, ok_values, ok_reserve}
use Rattle.reserved.specs.declared.OnCycleTime.{OnCycleTime}
use Rattle.reserved.specs.Cycle as timed
use Rattle.reserved.specs.Setting.{demand, length_of, rest_of, cycle_for, cycle_time, time_answer, new_cycle_time}
use Rattle.params.specs.declared.NoteParam.{NoteParam}
use Rattle.params.specs.declared.ParamAnswer.{ParamAnswer}
use Rattle.params.specs.declared.ParamValue.{ParamValue}
use Rattle.params.specs.Param.{fresh, ok_limits, ok_param}
use Rattle.params.specs.Calls as params
use Rattle.params.proofs.Kept as kept
use Rattle.params.proofs.Options as set
use Rattle.layers.specs.declared.Layers.{Layers}
use Rattle.layers.specs.declared.LayersAnswer.{LayersAnswer}
use Rattle.layers.specs.declared.Velocity.{Velocity}
use Rattle.layers.specs.Layers.{one_layer, ok_layer, ok_layers, value_set, random_set, reserve_set}
use Rattle.layers.specs.Calls as layers
use Rattle.layers.proofs.Set as layered
use Rattle.layers.proofs.Kept.{apply-kept}
use Rattle.values.specs.declared.WriteOption.{WriteOption}
use Rattle.values.specs.Options.{new_option, ok_option}
use Rattle.cycles.specs.declared.Cycle.{Cycle}
use Rattle.cycles.specs.Rules.{no_cycle}
use Rattle.tables.specs.declared.OnNoteSine.{OnNoteSine}
use Rattle.tables.specs.declared.SineAnswer.{SineAnswer}
use Rattle.tables.specs.Reservations.{ok_sine}
use Rattle.tables.specs.Sixteen.{ok_sixteen}
use Rattle.tables.specs.declared.NoteTable.{NoteTable}
use Rattle.tables.specs.declared.WaveTable.{WaveTable}
use Rattle.tables.specs.declared.SineTable.{SineTable}
use Rattle.tables.specs.declared.CycleTable.{CycleTable}
use Rattle.tables.specs.Tables.{ok_cycles, lone, no_sine, sine_of, new_sine}
use Rattle.state.specs.declared.Track.{Track}
use Rattle.state.specs.declared.TrackAnswer.{TrackAnswer}
use Rattle.state.specs.Track.{new_track, cycles_of, with_play, with_params, with_layers, with_options, with_timepos, with_channel, with_cc_freq, with_pb_freq}
use Rattle.state.specs.Tests.{ok_track, ok_lent}
use Rattle.state.specs.Calls.{answer, answered, on_channel, new_of, set_timepos, set_channel, set_cc_freq, set_pb_freq}
use Rattle.state.proofs.Parts.{track-layers}
use Rattle.state.proofs.Lent.{lent-track, lent-cycles, lent-lone, lent-whole}
use Rattle.state.proofs.New.{new-passes}
use Rattle.state.proofs.Keeping.{timepos-kept, channel-kept, ccfreq-kept, pbfreq-kept}
use Rattle.playing.specs.declared.TrackValue.{TrackValue}
use Rattle.playing.specs.declared.TrackVelocity.{TrackVelocity}
use Rattle.playing.specs.Which.{velocity, gate, timing, octave, span, param_of, chosen, with_param, with_value}
use Rattle.playing.specs.Calls.{asked, param_asked, given, on_param, on_layers, time_taken, after_note, note_taken, summed_up, value_on_time, value_on_note}
use Rattle.playing.proofs.Codes.{value-code}
use Rattle.playing.proofs.Refusals.{param-well}
use Rattle.playing.proofs.Keeping.{param-kept, layers-kept, value-on-time-kept, value-on-note-kept}
use Rattle.drawing.specs.Options as options
use Rattle.drawing.proofs.Options.{option-well}
use Rattle.drawing.proofs.Keeping as opted
use Rattle.reserving.specs.Old.{remove_cc_on_note, remove_cc_on_note_wave}
use Rattle.reserving.proofs.Older.{cc-note-passes, cc-wave-passes, cc-note-lent, cc-wave-lent}
use Rattle.track.proofs.Refused as refused
use Rattle.track.proofs.Refused.{TrackKept}
use Rattle.track.proofs.Filled.{Filled, set-filled, listed-filled, applied-filled}

-- ---- a track that may be used wherever another might
-- b follows a: it passes the test of a track where a does, and with every cycle table with which a does; its layers are sixteen
pub record Follows (a b : Track) : Type 0 where
  pub alone : ok_track a ≡ true → ok_track b ≡ true
  pub lent : (cs : List Cycle) → ok_lent a cs ≡ true → ok_lent b cs ≡ true
  pub filled : Filled b.layers

-- b has the reservations of a, and sixteen layers
record Same (a b : Track) : Type 0 where
  notes : b.notes ≡ a.notes
  waves : b.waves ≡ a.waves
  sines : b.sines ≡ a.sines
  cycles : b.cycles ≡ a.cycles
  filled : Filled b.layers

module _ {a b : Track} (s : Same a b) (f : ok_track a ≡ true → ok_track b ≡ true) where
  same-lent : (cs : List Cycle) → ok_lent a cs ≡ true → ok_lent b cs ≡ true
  same-lent cs e =
      let c : cycles_of b cs ≡ cycles_of a cs = ap (λ (n : ℕ). record { count = n; items = cs }) s.cycles in
      lent-whole b cs (f (lent-track a cs e)) (ap ok_cycles c ∙ lent-cycles a cs e)
      (ap (λ (x : NoteTable). lone x b.waves b.sines (cycles_of b cs)) s.notes
      ∙ ap (λ (x : WaveTable). lone a.notes x b.sines (cycles_of b cs)) s.waves
      ∙ ap (λ (x : SineTable). lone a.notes a.waves x (cycles_of b cs)) s.sines
      ∙ ap (λ (x : CycleTable). lone a.notes a.waves a.sines x) c
      ∙ lent-lone a cs e)

  follows : Follows a b
  follows = record { alone = f; lent = same-lent; filled = s.filled }

-- ---- the layers
-- layers that may be used wherever others might, and are sixteen
pub record LayersFollow (l k : Layers) : Type 0 where
  pub passes : ok_layers l ≡ true → ok_layers k ≡ true
  pub filled : Filled k

pub record OfLayers (l : Layers) : Type 0 where
  pub set-v-sub : (i : ℕ) (v : ℤ) → LayersFollow l (layers.set_v_sub l i v).layers
  pub set-v-sub-random : (i : ℕ) (n : ℤ) → LayersFollow l (layers.set_v_sub_random l i n).layers
  pub set-v-sub-on-time : (i : ℕ) (timepos delay : ℤ) (v : List ℤ) → LayersFollow l (layers.set_v_sub_on_time l i timepos delay v).layers
  pub set-v-sub-on-cycle : (i : ℕ) (timepos delay : ℤ) (v : List ℤ) → LayersFollow l (layers.set_v_sub_on_cycle l i timepos delay v).layers
  pub set-v-sub-on-note : (i repeat : ℕ) (v : List ℤ) → LayersFollow l (layers.set_v_sub_on_note l i repeat v).layers
  pub apply-v-sub : (timepos v : ℤ) → LayersFollow l (layers.apply_v_sub l timepos v).layers

pub of-layers : (l : Layers) → Filled l → OfLayers l
of-layers l m =
    record {
      set-v-sub = λ i v. record { passes = λ e. layered.set-v-sub-kept l m e i v; filled = set-filled l m i (ok_layers l && is_number v) (value_set v) };
      set-v-sub-random = λ i n. record { passes = λ e. layered.set-v-sub-random-kept l m e i n; filled = set-filled l m i (ok_layers l && is_random n) (random_set n) };
      set-v-sub-on-time =
          λ i t d v.
          record {
            passes = λ e. layered.set-v-sub-on-time-kept l m e i t d v;
            filled = listed-filled l m v i (ok_layers l && is_time t && is_length d && is_curve v) (reserve_set (curve_from (t +ℤ d) (numbers v)));
          };
      set-v-sub-on-cycle =
          λ i t d v.
          record {
            passes = λ e. layered.set-v-sub-on-cycle-kept l m e i t d v;
            filled = listed-filled l m v i (ok_layers l && is_time t && is_length d && is_length (length_of v) && all is_number (rest_of v)) (reserve_set (cycle_for (t +ℤ d) (length_of v) (numbers (rest_of v))));
          };
      set-v-sub-on-note =
          λ i n v.
          record {
            passes = λ e. layered.set-v-sub-on-note-kept l m e i n v;
            filled = listed-filled l m v i (ok_layers l && leb n 1 && all is_number v) (reserve_set (notes_from n (numbers v)));
          };
      apply-v-sub = λ t v. record { passes = λ e. apply-kept l m e t v; filled = applied-filled l m t v };
    }

-- ---- a parameter
abbrev pub ParamFollows : NoteParam → NoteParam → Type 0
ParamFollows p q = ok_param p ≡ true → ok_param q ≡ true

pub record OfParam (p : NoteParam) : Type 0 where
  pub clear-reserve : ParamFollows p (params.clear_reserve p).param
  pub set-on-time : (timepos : ℤ) (v : List ℤ) → ParamFollows p (params.set_on_time p timepos v).param
  pub set-on-cycle : (timepos : ℤ) (v : List ℤ) → ParamFollows p (params.set_on_cycle p timepos v).param
  pub set-on-note : (v : List ℤ) → ParamFollows p (params.set_on_note p v).param
  pub calc-on-time : (timepos def : ℤ) → ParamFollows p (params.calc_on_time p timepos def).param
  pub calc-on-note : (def : ℤ) → ParamFollows p (params.calc_on_note p def).param
  pub set-random : (n : ℤ) → ParamFollows p (params.set_random p n).param
  pub set-range : (low high : ℤ) → ParamFollows p (params.set_range p low high).param
  pub clear-range : ParamFollows p (params.clear_range p).param
  pub set-delay : (x : ℤ) → ParamFollows p (params.set_delay p x).param
  pub set-max : (x : ℤ) → ParamFollows p (params.set_max p x).param
  pub clear-max : ParamFollows p (params.clear_max p).param
  pub set-repeat : (n : ℕ) → ParamFollows p (params.set_repeat p n).param

pub of-param : (p : NoteParam) → OfParam p
of-param p =
    record {
      clear-reserve = kept.clear-reserve-kept p;
      set-on-time = λ t v e. kept.set-on-time-kept p e t v;
      set-on-cycle = λ t v e. kept.set-on-cycle-kept p e t v;
      set-on-note = λ v e. kept.set-on-note-kept p e v;
      calc-on-time = λ t def e. kept.calc-on-time-kept p e t def;
      calc-on-note = λ def e. kept.calc-on-note-kept p e def;
      set-random = λ n e. set.set-random-kept p e n;
      set-range = λ low high e. set.set-range-kept p e low high;
      clear-range = set.clear-range-kept p;
      set-delay = λ x e. set.set-delay-kept p e x;
      set-max = λ x e. set.set-max-kept p e x;
      clear-max = set.clear-max-kept p;
      set-repeat = λ n e. set.set-repeat-kept p e n;
    }

-- ---- what a definition chooses
module _ (P : Track → Type 0) where
  one_of : (t : Bool) (x y : Track) → P x → P y → P (cond t x y)
  one_of true x y p q = p
  one_of false x y p q = q

  of-five : (w : ℕ) (v q t o l : Track) → P v → P q → P t → P o → P l → P (chosen w v q t o l)
  of-five w v q t o l p1 p2 p3 p4 p5 =
      one_of (eqb w velocity) _ _ p1 (one_of (eqb w gate) _ _ p2 (one_of (eqb w timing) _ _ p3 (one_of (eqb w octave) _ _ p4 p5)))

  -- by a number: b where it is 0, else a
  module _ (n : ℕ) (a b : Track) (p : P a) (q : n ≡ 0 → P b) where
    of-answered : P (answered n a b).track
    unfolding answered
    of-answered = go (eqb n 0) refl
      where
        go : (t : Bool) → eqb n 0 ≡ t → P (cond t (answer 0 b) (answer n a)).track
        go true z = q (eqb-true n 0 z)
        go false z = p

    of-given : (v : ℤ) → P (given n a v b).track
    unfolding given
    of-given v = go (eqb n 0) refl
      where
        go : (t : Bool) → eqb n 0 ≡ t → P (cond {A = TrackValue} t (record { code = 0; value = v; track = b }) (record { code = n; value = pos 0; track = a })).track
        go true z = q (eqb-true n 0 z)
        go false z = p

-- by the number that is answered, from what is said of a refused call
by_code : (P : Track → Type 0) (a : Track) (r : TrackAnswer) → TrackKept a r → P a → (r.code ≡ 0 → P r.track) → P r.track
by_code P a r k p f = go (eqb r.code 0) refl
  where
    go : (t : Bool) → eqb r.code 0 ≡ t → P r.track
    go true z = f (eqb-true r.code 0 z)
    go false z = subst (λ (x : TrackAnswer). P x.track) (sym (k (eqb-false r.code 0 z))) p

new-option : ok_option new_option ≡ true
unfolding ok_option is_length is_random sized inside
new-option = refl

asked-zero : (ok : Bool) (n : ℕ) → asked ok n ≡ 0 → n ≡ 0
unfolding asked
asked-zero ok n z = go (eqb n 3) ok z
  where
    go : (t ok : Bool) → cond t 3 (cond ok n 4) ≡ 0 → n ≡ 0
    go true ok z = absurd (omega arith)
    go false true z = z
    go false false z = absurd (omega arith)

passed : (ok : Bool) → ◌≡◌ {A = ℕ} (cond ok 0 4) 0 → ok ≡ true
passed true z = refl
passed false z = absurd (omega arith)

module _ (a : Track) (m : Filled a.layers) where
  same : Same a a
  same = record { notes = refl; waves = refl; sines = refl; cycles = refl; filled = m }

  pub as-given : Follows a a
  as-given = follows same (λ e. e)

  left-follows : (n : ℕ) (b : Track) → (n ≡ 0 → Follows a b) → Follows a (answered n a b).track
  left-follows n b f = of-answered (Follows a) n a b as-given f

  -- ---- the track's own numbers
  play-same : (tp ch cf pf ve ti oc ql : ℤ) (st : ℕ) → Same a (with_play a tp ch cf pf ve ti oc ql st)
  play-same tp ch cf pf ve ti oc ql st = record { notes = refl; waves = refl; sines = refl; cycles = refl; filled = m }

  -- a number x of which only the test q is asked
  number-follows : (q : Bool) (b : Track) → Same a b → (ok_track a ≡ true → q ≡ true → ok_track b ≡ true) → Follows a (answered (demand (ok_track a && q)) a b).track
  number-follows q b s f = left-follows _ b (λ z. follows s (λ e. f e (right (ok_track a) q (passed (ok_track a && q) z))))

  -- ---- its parameters
  param-same : (w : ℕ) (p : NoteParam) → Same a (with_param w a p)
  unfolding with_param
  param-same w p =
      of-five (Same a) w _ _ _ _ _ (one p a.q a.t a.o a.l) (one a.v p a.t a.o a.l) (one a.v a.q p a.o a.l) (one a.v a.q a.t p a.l)
      (one a.v a.q a.t a.o p)
    where
      one : (v q t o l : NoteParam) → Same a (with_params a v q t o l)
      one v q t o l = record { notes = refl; waves = refl; sines = refl; cycles = refl; filled = m }

  param-follows : (w : ℕ) (r : ParamAnswer) → (ok_param (param_of w a) ≡ true → ok_param r.param ≡ true) → Follows a (on_param w a r).track
  unfolding on_param
  param-follows w r f = left-follows _ _ (λ z. follows (param-same w r.param) (λ e. param-kept a e w r.param (f (param-well w a e))))

  value_same : (w : ℕ) (b : Track) (x : ℤ) → Same a b → Same a (with_value w b x)
  unfolding with_value
  value_same w b x s = of-five (Same a) w _ _ _ _ _ one one one one s
    where
      one : {tp ch cf pf ve ti oc ql : ℤ} {st : ℕ} → Same a (with_play b tp ch cf pf ve ti oc ql st)
      one = record { notes = s.notes; waves = s.waves; sines = s.sines; cycles = s.cycles; filled = s.filled }

  time-same : (w : ℕ) (def : ℤ) → Same a (value_on_time w a def).track
  unfolding time_taken
  time-same w def = of-given (Same a) _ a _ same (λ z. param-same w _) _

  after_same : (w : ℕ) (r : ParamValue) → Same a (after_note w a r)
  unfolding after_note
  after_same w r =
      let s = param-same w r.param in
      one_of (Same a) (eqb r.param.reserve.kind on_note) _ _ (value_same w (with_param w a r.param) r.value s) s

  note-same : (w : ℕ) (def : ℤ) → Same a (value_on_note w a def).track
  unfolding note_taken
  note-same w def = of-given (Same a) _ a _ same (λ z. after_same w _) _

  -- a default out of range is refused
  note-alone : (w : ℕ) (def : ℤ) (t : Bool) → is_number def ≡ t → ok_track a ≡ true → ok_track (value_on_note w a def).track ≡ true
  unfolding note_taken
  note-alone w def true q e = value-on-note-kept w a e def q
  note-alone w def false q e =
      of-given (λ (b : Track). ok_track b ≡ true) _ a _ e
      (λ z.
      let n : demand (ok_param (param_of w a) && is_number def) ≡ 0 = sym (value-code _ (param_of w a) _) ∙ asked-zero _ _ z in
      absurd (true≢false (sym (right (ok_param (param_of w a)) (is_number def) (passed _ n)) ∙ q))) _

  time-follows : (w : ℕ) (def : ℤ) → Follows a (value_on_time w a def).track
  time-follows w def = follows (time-same w def) (λ e. value-on-time-kept w a e def)

  note-follows : (w : ℕ) (def : ℤ) → Follows a (value_on_note w a def).track
  note-follows w def = follows (note-same w def) (note-alone w def (is_number def) refl)

  -- ---- its layers
  with-layers : (l : Layers) → LayersFollow a.layers l → Follows a (with_layers a l)
  with-layers l k =
      follows (record { notes = refl; waves = refl; sines = refl; cycles = refl; filled = k.filled }) (λ e. layers-kept a e l (k.passes (track-layers a e)))

  layers-follow : (r : LayersAnswer) → LayersFollow a.layers r.layers → Follows a (on_layers a r).track
  unfolding on_layers
  layers-follow r k = left-follows _ _ (λ z. with-layers r.layers k)

  sum-follows : (s : Velocity) → LayersFollow a.layers s.layers → Follows a (summed_up a s).track
  unfolding summed_up
  sum-follows s k = go (eqb (asked (ok_track a) s.code) 0)
    where
      go : (t : Bool) → Follows a (cond {A = TrackVelocity} t (record { code = 0; value = s.value; track = with_layers a s.layers }) (record { code = asked (ok_track a) s.code; value = pos 0; track = a })).track
      go true = with-layers s.layers k
      go false = as-given

  -- ---- its options
  option-same : (target : ℤ) (o : WriteOption) (ok : Bool) → Same a (options.left a target o ok).track
  unfolding options.left options.with_option
  option-same target o ok = of-answered (Same a) _ a _ same (λ z. record { notes = refl; waves = refl; sines = refl; cycles = refl; filled = m })

  option-follows : (target : ℤ) (o : WriteOption) (ok : Bool) → (let r = options.left a target o ok in TrackKept a r → (r.code ≡ 0 → ok_track r.track ≡ true) → Follows a r.track)
  option-follows target o ok k f = follows (option-same target o ok) (λ e. by_code (λ (b : Track). ok_track b ≡ true) a _ k e f)

  told-option : (target : ℤ) → ok_track a ≡ true → ok_option (options.option_for a target).option ≡ true
  unfolding options.option_for
  told-option target e = go (eqb (options.target_refusal a target true) 0)
    where
      go : (t : Bool) → ok_option (cond t (options.option_of a target) new_option) ≡ true
      go true = option-well a target e
      go false = new-option

  repeat-filled : (target : ℤ) (n : ℕ) → Filled (options.set_repeat a target n).track.layers
  unfolding options.set_repeat options.with_option
  repeat-filled target n = of-answered (λ (b : Track). Filled b.layers) _ a _ m (λ z. m)

  repeat-follows : (target : ℤ) (n : ℕ) → Follows a (options.set_repeat a target n).track
  repeat-follows target n =
      let k = (refused.of-track a).set-repeat target n in
      record {
        alone = λ e. by_code (λ (b : Track). ok_track b ≡ true) a _ k e (opted.repeat-kept a target n);
        lent = λ cs e. by_code (λ (b : Track). ok_lent b cs ≡ true) a _ k e (λ z. opted.repeat-lent a target n cs z e);
        filled = repeat-filled target n;
      }

  -- ---- what is removed of it
  note-filled : (number : ℤ) → Filled (remove_cc_on_note a number).track.layers
  unfolding remove_cc_on_note
  note-filled number = of-answered (λ (b : Track). Filled b.layers) _ a _ m (λ z. m)

  wave-filled : (number : ℤ) → Filled (remove_cc_on_note_wave a number).track.layers
  unfolding remove_cc_on_note_wave
  wave-filled number = of-answered (λ (b : Track). Filled b.layers) _ a _ m (λ z. m)

-- ---- the track
pub record OfTrack (a : Track) : Type 0 where
  pub set-timepos : (x : ℤ) → Follows a (set_timepos a x).track
  pub set-channel : (x : ℤ) → Follows a (set_channel a x).track
  pub set-cc-on-time-freq : (x : ℤ) → Follows a (set_cc_freq a x).track
  pub set-pb-on-time-freq : (x : ℤ) → Follows a (set_pb_freq a x).track
  pub calc-v-on-time : (def : ℤ) → Follows a (value_on_time velocity a def).track
  pub calc-t-on-time : (def : ℤ) → Follows a (value_on_time timing a def).track
  pub calc-qlen-on-time : (def : ℤ) → Follows a (value_on_time gate a def).track
  pub calc-o-on-time : (def : ℤ) → Follows a (value_on_time octave a def).track
  pub calc-l-on-time : (def : ℤ) → Follows a (value_on_time span a def).track
  pub calc-v-on-note : (def : ℤ) → Follows a (value_on_note velocity a def).track
  pub calc-t-on-note : (def : ℤ) → Follows a (value_on_note timing a def).track
  pub calc-qlen-on-note : (def : ℤ) → Follows a (value_on_note gate a def).track
  pub calc-o-on-note : (def : ℤ) → Follows a (value_on_note octave a def).track
  pub calc-l-on-note : (def : ℤ) → Follows a (value_on_note span a def).track
  pub set-v-sub : (i : ℕ) (v : ℤ) → Follows a (on_layers a (layers.set_v_sub a.layers i v)).track
  pub set-v-sub-random : (i : ℕ) (n : ℤ) → Follows a (on_layers a (layers.set_v_sub_random a.layers i n)).track
  pub set-v-sub-on-time : (i : ℕ) (v : List ℤ) → Follows a (on_layers a (layers.set_v_sub_on_time a.layers i a.timepos a.v.delay v)).track
  pub set-v-sub-on-cycle : (i : ℕ) (v : List ℤ) → Follows a (on_layers a (layers.set_v_sub_on_cycle a.layers i a.timepos a.v.delay v)).track
  pub set-v-sub-on-note : (i : ℕ) (v : List ℤ) → Follows a (on_layers a (layers.set_v_sub_on_note a.layers i a.v.repeat v)).track
  pub apply-v-sub : (v : ℤ) → Follows a (summed_up a (layers.apply_v_sub a.layers a.timepos v)).track
  pub set-param-on-time : (w : ℕ) (v : List ℤ) → Follows a (on_param w a (params.set_on_time (param_of w a) a.timepos v)).track
  pub set-param-on-cycle : (w : ℕ) (v : List ℤ) → Follows a (on_param w a (params.set_on_cycle (param_of w a) a.timepos v)).track
  pub set-param-on-note : (w : ℕ) (v : List ℤ) → Follows a (on_param w a (params.set_on_note (param_of w a) v)).track
  pub clear-param-reserve : (w : ℕ) → Follows a (on_param w a (params.clear_reserve (param_of w a))).track
  pub set-param-random : (w : ℕ) (n : ℤ) → Follows a (on_param w a (params.set_random (param_of w a) n)).track
  pub set-param-range : (w : ℕ) (low high : ℤ) → Follows a (on_param w a (params.set_range (param_of w a) low high)).track
  pub clear-param-range : (w : ℕ) → Follows a (on_param w a (params.clear_range (param_of w a))).track
  pub set-param-delay : (w : ℕ) (x : ℤ) → Follows a (on_param w a (params.set_delay (param_of w a) x)).track
  pub set-param-max : (w : ℕ) (x : ℤ) → Follows a (on_param w a (params.set_max (param_of w a) x)).track
  pub clear-param-max : (w : ℕ) → Follows a (on_param w a (params.clear_max (param_of w a))).track
  pub set-param-repeat : (w n : ℕ) → Follows a (on_param w a (params.set_repeat (param_of w a) n)).track
  pub get-write-opt : (target : ℤ) → ok_track a ≡ true → ok_option (options.option_for a target).option ≡ true
  pub set-delay : (target x : ℤ) → Follows a (options.set_delay a target x).track
  pub set-random : (target x : ℤ) → Follows a (options.set_random a target x).track
  pub set-range : (target low high : ℤ) → Follows a (options.set_range a target low high).track
  pub clear-range : (target : ℤ) → Follows a (options.clear_range a target).track
  pub set-repeat : (target : ℤ) (n : ℕ) → Follows a (options.set_repeat a target n).track
  pub remove-cc-on-note : (number : ℤ) → Follows a (remove_cc_on_note a number).track
  pub remove-cc-on-note-wave : (number : ℤ) → Follows a (remove_cc_on_note_wave a number).track

pub of-track : (a : Track) → Filled a.layers → OfTrack a
of-track a m =
    let l = of-layers a.layers m in
    let p : (w : ℕ) → OfParam (param_of w a) = λ w. of-param (param_of w a) in
    let r = refused.of-track a in
    record {
      set-timepos = λ x. number-follows a m (is_time x) _ (play-same a m _ _ _ _ _ _ _ _ _) (λ e. timepos-kept a e x);
      set-channel = λ x. number-follows a m (is_channel x) _ (play-same a m _ _ _ _ _ _ _ _ _) (λ e. channel-kept a e x);
      set-cc-on-time-freq = λ x. number-follows a m (is_length x) _ (play-same a m _ _ _ _ _ _ _ _ _) (λ e. ccfreq-kept a e x);
      set-pb-on-time-freq = λ x. number-follows a m (is_length x) _ (play-same a m _ _ _ _ _ _ _ _ _) (λ e. pbfreq-kept a e x);
      calc-v-on-time = time-follows a m velocity;
      calc-t-on-time = time-follows a m timing;
      calc-qlen-on-time = time-follows a m gate;
      calc-o-on-time = time-follows a m octave;
      calc-l-on-time = time-follows a m span;
      calc-v-on-note = note-follows a m velocity;
      calc-t-on-note = note-follows a m timing;
      calc-qlen-on-note = note-follows a m gate;
      calc-o-on-note = note-follows a m octave;
      calc-l-on-note = note-follows a m span;
      set-v-sub = λ i v. layers-follow a m _ (l.set-v-sub i v);
      set-v-sub-random = λ i n. layers-follow a m _ (l.set-v-sub-random i n);
      set-v-sub-on-time = λ i v. layers-follow a m _ (l.set-v-sub-on-time i a.timepos a.v.delay v);
      set-v-sub-on-cycle = λ i v. layers-follow a m _ (l.set-v-sub-on-cycle i a.timepos a.v.delay v);
      set-v-sub-on-note = λ i v. layers-follow a m _ (l.set-v-sub-on-note i a.v.repeat v);
      apply-v-sub = λ v. sum-follows a m _ (l.apply-v-sub a.timepos v);
      set-param-on-time = λ w v. param-follows a m w _ ((p w).set-on-time a.timepos v);
      set-param-on-cycle = λ w v. param-follows a m w _ ((p w).set-on-cycle a.timepos v);
      set-param-on-note = λ w v. param-follows a m w _ ((p w).set-on-note v);
      clear-param-reserve = λ w. param-follows a m w _ (p w).clear-reserve;
      set-param-random = λ w n. param-follows a m w _ ((p w).set-random n);
      set-param-range = λ w low high. param-follows a m w _ ((p w).set-range low high);
      clear-param-range = λ w. param-follows a m w _ (p w).clear-range;
      set-param-delay = λ w x. param-follows a m w _ ((p w).set-delay x);
      set-param-max = λ w x. param-follows a m w _ ((p w).set-max x);
      clear-param-max = λ w. param-follows a m w _ (p w).clear-max;
      set-param-repeat = λ w n. param-follows a m w _ ((p w).set-repeat n);
      get-write-opt = told-option a m;
      set-delay = λ target x. option-follows a m target _ _ (r.set-delay target x) (opted.delay-kept a target x);
      set-random = λ target x. option-follows a m target _ _ (r.set-random target x) (opted.random-kept a target x);
      set-range = λ target low high. option-follows a m target _ _ (r.set-range target low high) (opted.range-kept a target low high);
      clear-range = λ target. option-follows a m target _ _ (r.clear-range target) (opted.cleared-kept a target);
      set-repeat = repeat-follows a m;
      remove-cc-on-note = λ number. record { alone = cc-note-passes a number; lent = cc-note-lent a number; filled = note-filled a m number };
      remove-cc-on-note-wave = λ number. record { alone = cc-wave-passes a number; lent = cc-wave-lent a number; filled = wave-filled a m number };
    }

-- ---- the making of events
pub made-sound : (store : ℕ) (e : Event) → (made store e).code ≡ 0 → ok_event store (made store e).event ≡ true
made-sound store e = go (ok_event store e) refl
  where
    go : (t : Bool) → ok_event store e ≡ t → (cond {A = Made} t (record { code = 0; event = e }) (refused_event 4)).code ≡ 0
        → ok_event store (cond {A = Made} t (record { code = 0; event = e }) (refused_event 4)).event ≡ true
    go true q z = q
    go false q z = absurd (omega (arith, z))

-- an event without data lies in no store, and so may stand beside any
anywhere : (store : ℕ) (e : Event) → has_data e.kind ≡ false → ok_event 0 e ≡ true → ok_event store e ≡ true
unfolding ok_data
anywhere store e n y =
    let s = storable 0 e y in
    storable-ok store e (record { kind = s.kind; time = s.time; channel = s.channel; v1 = s.v1; v2 = s.v2; v3 = s.v3; numbered = s.numbered; bytes = rw n (rw n at s.bytes) })

module _ (store : ℕ) (e : Event) (n : has_data e.kind ≡ false) where
  plain-sound : (made 0 e).code ≡ 0 → ok_event store (made 0 e).event ≡ true
  plain-sound = go (ok_event 0 e) refl
    where
      go : (t : Bool) → ok_event 0 e ≡ t → (cond {A = Made} t (record { code = 0; event = e }) (refused_event 4)).code ≡ 0
          → ok_event store (cond {A = Made} t (record { code = 0; event = e }) (refused_event 4)).event ≡ true
      go true q z = anywhere store e n q
      go false q z = absurd (omega (arith, z))

  numbered-sound : (t : Bool) → (cond t (made 0 e) (refused_event 2)).code ≡ 0 → ok_event store (cond t (made 0 e) (refused_event 2)).event ≡ true
  numbered-sound true z = plain-sound z
  numbered-sound false z = absurd (omega (arith, z))

pub record OfEvents (store : ℕ) : Type 0 where
  pub note : (time channel number len vel : ℤ) → (let r = made 0 (note_event time channel number len vel) in r.code ≡ 0 → ok_event store r.event ≡ true)
  pub voice : (time channel value : ℤ) → (let r = made 0 (voice_event time channel value) in r.code ≡ 0 → ok_event store r.event ≡ true)
  pub cc : (time channel number value : ℤ) → (let r = made_cc time channel number value in r.code ≡ 0 → ok_event store r.event ≡ true)
  pub pitch-bend : (time channel value : ℤ) → (let r = made 0 (pitch_bend_event time channel value) in r.code ≡ 0 → ok_event store r.event ≡ true)
  pub pitch-bend-range : (time channel value : ℤ) → (let r = made 0 (pitch_bend_range_event time channel value) in r.code ≡ 0 → ok_event store r.event ≡ true)
  pub meta : (time v1 v2 v3 offset len : ℤ) → (let r = made store (meta_event time v1 v2 v3 offset len) in r.code ≡ 0 → ok_event store r.event ≡ true)
  pub direct-smf : (time offset len : ℤ) → (let r = made store (direct_smf_event time offset len) in r.code ≡ 0 → ok_event store r.event ≡ true)
  pub sysex-raw : (time offset len : ℤ) → (let r = made store (sysex_event time offset len) in r.code ≡ 0 → ok_event store r.event ≡ true)

pub of-events : (store : ℕ) → OfEvents store
unfolding has_data
of-events store =
    record {
      note = λ time channel number len vel. plain-sound store (note_event time channel number len vel) refl;
      voice = λ time channel value. plain-sound store (voice_event time channel value) refl;
      cc = λ time channel number value. numbered-sound store (cc_event time channel number value) refl (is_controller number);
      pitch-bend = λ time channel value. plain-sound store (pitch_bend_event time channel value) refl;
      pitch-bend-range = λ time channel value. plain-sound store (pitch_bend_range_event time channel value) refl;
      meta = λ time v1 v2 v3 offset len. made-sound store _;
      direct-smf = λ time offset len. made-sound store _;
      sysex-raw = λ time offset len. made-sound store _;
    }

-- ---- the other makers
-- a track that is made may be used, with whatever table is lent: none of its records counts yet
pub record Started (a : Track) : Type 0 where
  pub alone : ok_track a ≡ true
  pub lent : (cs : List Cycle) → ok_lent a cs ≡ true
  pub filled : Filled a.layers

module _ (b c : ℤ) (e : is_timebase b ≡ true) where
  new-started : Started (new_track b (on_channel c))
  unfolding new_track ok_sixteen counted all lone distinct
  new-started =
      let t = new-passes b c e in
      record { alone = t; lent = λ cs. lent-whole (new_track b (on_channel c)) cs t refl refl; filled = refl }

new-sound : (b c : ℤ) → (new_of b c).code ≡ 0 → Started (new_of b c).track
unfolding new_of answered
new-sound b c = go (is_timebase b) refl
  where
    go : (t : Bool) → is_timebase b ≡ t → (answered (demand t) (new_track (pos 0) (pos 0)) (new_track b (on_channel c))).code ≡ 0
        → Started (answered (demand t) (new_track (pos 0) (pos 0)) (new_track b (on_channel c))).track
    go true q z = new-started b c q
    go false q z = absurd (omega (arith, z))

new-budget : (seed maximum : ℕ) → (new_budget seed maximum).code ≡ 0 → ok_budget (new_budget seed maximum).budget ≡ true
unfolding new_budget ok_budget is_bytes
new-budget seed maximum = go (is_bytes maximum) refl
  where
    made : Bool → BudgetAnswer
    made t = cond t (record { code = 0; budget = unspent seed maximum }) (record { code = 4; budget = unspent 0 0 })

    go : (t : Bool) → is_bytes maximum ≡ t → (made t).code ≡ 0 → ok_budget (made t).budget ≡ true
    go true q z = rw q
    go false q z = absurd (omega (arith, z))

new-sine : (target : ℤ) (shape : ℕ) (low high len times : ℤ) → (new_sine target shape low high len times).code ≡ 0 → ok_sine (new_sine target shape low high len times).sine ≡ true
unfolding new_sine
new-sine target shape low high len times = go (is_target target) (ok_sine s) refl
  where
    s : OnNoteSine
    s = sine_of target shape low high len times

    made : Bool → Bool → SineAnswer
    made p q = cond p (cond q (record { code = 0; sine = s }) (record { code = 4; sine = no_sine })) (record { code = 2; sine = no_sine })

    go : (p q : Bool) → ok_sine s ≡ q → (made p q).code ≡ 0 → ok_sine (made p q).sine ≡ true
    go true true e z = e
    go true false e z = absurd (omega (arith, z))
    go false q e z = absurd (omega (arith, z))

new-cycle-time : (start len : ℤ) (v : List ℤ) → (new_cycle_time start len v).code ≡ 0 → timed.ok_cycle (new_cycle_time start len v).cycle ≡ true
unfolding new_cycle_time
new-cycle-time start len v = go (ltb list_limit (length v)) (timed.ok_cycle c) refl
  where
    c : OnCycleTime
    c = cycle_time start len (numbers v)

    go : (p q : Bool) → timed.ok_cycle c ≡ q → (time_answer (cond p 3 (cond q 0 4)) c).code ≡ 0 → timed.ok_cycle (time_answer (cond p 3 (cond q 0 4)) c).cycle ≡ true
    go false true e z = e
    go false false e z = absurd (omega (arith, z))
    go true q e z = absurd (omega (arith, z))

pub record OfMakers : Type 0 where
  pub track-new : (timebase channel : ℤ) → (new_of timebase channel).code ≡ 0 → Started (new_of timebase channel).track
  pub budget-new : (seed maximum : ℕ) → (new_budget seed maximum).code ≡ 0 → ok_budget (new_budget seed maximum).budget ≡ true
  pub on-note-sine-new : (target : ℤ) (shape : ℕ) (low high len times : ℤ) → (new_sine target shape low high len times).code ≡ 0
      → ok_sine (new_sine target shape low high len times).sine ≡ true
  pub on-cycle-time-new : (start len : ℤ) (v : List ℤ) → (new_cycle_time start len v).code ≡ 0 → timed.ok_cycle (new_cycle_time start len v).cycle ≡ true
  -- a table in which no place is used
  pub cycle-none : ok_cycles (record { count = 0; items = replicate places no_cycle }) ≡ true
  pub note-param-new : ok_param fresh ≡ true
  pub layers-new : (ok_layers one_layer ≡ true) × Filled one_layer
  pub write-option-new : ok_option new_option ≡ true

pub of-makers : OfMakers
unfolding ok_sixteen ok_param ok_limits ok_layers ok_layer ok_reserve ok_values ok_numbers ok_option counted all is_stored_time is_length is_random is_number sized inside
of-makers =
    record {
      track-new = new-sound;
      budget-new = new-budget;
      on-note-sine-new = new-sine;
      on-cycle-time-new = new-cycle-time;
      cycle-none = refl;
      note-param-new = refl;
      layers-new = (refl, refl);
      write-option-new = new-option;
    }
