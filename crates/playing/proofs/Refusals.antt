-- When a track's call refuses, said of the whole track and of the call's own numbers: what the part's own call tests besides adds nothing.
--     value-on-time-code, value-on-note-code   4, or done
--     set-random-code .. set-on-cycle-code     setters of a parameter: 3 where a list is too long, then 4
--     set-v-sub-code, set-v-sub-on-time-code   setters of a layer: 3, then 4, then 5
use mathlib.Core.Path.{◌≡◌, refl, sym, ap, ◌∙◌}
use mathlib.Core.Bool.{Bool, true, false, cond, ◌&&◌}
use mathlib.Core.List.{List}
use Prim.Native.Nat.{ℕ}
use borrow.Author.Tests.{eqb-true}
use lib.Dec.{eqb, leb, ltb}
use lib.IntN.{ℤ, pos}
use lib.ListN.{length}
use Rattle.laws.proofs.Ranges.{left, right}
use Rattle.laws.specs.Lists.{all}
use Rattle.numbers.specs.Limits.{list_limit, layer_limit}
use Rattle.numbers.specs.Ranges.{is_time, is_number, is_length, is_random}
use Rattle.counted.specs.Curves.{is_curve}
use Rattle.reserved.specs.Setting.{demand, list_demand, length_of, rest_of}
use Rattle.params.specs.declared.NoteParam.{NoteParam}
use Rattle.params.specs.declared.ParamAnswer.{ParamAnswer}
use Rattle.params.specs.Param.{ok_param}
use Rattle.params.specs.Calls.{set_on_time, set_on_cycle, set_random, set_range}
use Rattle.params.proofs.Calls.{param-delay}
use Rattle.layers.specs.declared.LayersAnswer.{LayersAnswer}
use Rattle.layers.specs.Layers.{ok_layers}
use Rattle.layers.specs.Calls.{layer_demand, set_v_sub, set_v_sub_on_time}
use Rattle.state.specs.declared.Track.{Track}
use Rattle.state.specs.Tests.{ok_params, ok_track}
use Rattle.state.proofs.Parts.{track-play, track-params, track-layers}
use Rattle.state.proofs.Play.{play-time}
use Rattle.state.proofs.Answers.{code_of}
use Rattle.playing.specs.declared.TrackValue.{TrackValue}
use Rattle.playing.specs.Which.{is_param, param_of}
use Rattle.playing.specs.Calls.{asked, param_asked, on_param, on_layers, given, time_taken, note_taken, value_on_time, value_on_note}
use Rattle.playing.proofs.Codes.{param-code, value-code}
use Rattle.playing.proofs.LayerCodes.{layers-code}

-- ---- the number of a track's answer is the one that it was chosen by
module _ (n : ℕ) (a b : Track) (v : ℤ) where
  abbrev given_by : Bool → TrackValue
  given_by t = cond t (record { code = 0; value = v; track = b }) (record { code = n; value = pos 0; track = a })

  given-code : (given n a v b).code ≡ n
  unfolding given
  given-code = go (eqb n 0) (eqb-true n 0)
    where
      go : (t : Bool) → (t ≡ true → n ≡ 0) → (given_by t).code ≡ n
      go true f = sym (f refl)
      go false f = refl

-- ---- the test of the whole in 4's place
asked-demand : (ok x : Bool) → asked ok (demand x) ≡ demand (ok && x)
unfolding asked
asked-demand true true = refl
asked-demand true false = refl
asked-demand false true = refl
asked-demand false false = refl

asked-list : (v : List ℤ) (ok x : Bool) → asked ok (list_demand v (demand x)) ≡ list_demand v (demand (ok && x))
unfolding asked
asked-list v ok x = go (ltb list_limit (length v))
  where
    go : (t : Bool) → asked ok (cond t 3 (demand x)) ≡ cond t 3 (demand (ok && x))
    go true = refl
    go false = asked-demand ok x

asked-layer : (i : ℕ) (ok x : Bool) → asked ok (layer_demand i x) ≡ layer_demand i (ok && x)
unfolding asked
asked-layer i ok x = go (leb layer_limit i) ok x
  where
    go : (t ok x : Bool) → asked ok (cond x (cond t 5 0) 4) ≡ cond (ok && x) (cond t 5 0) 4
    go true true true = refl
    go true true false = refl
    go true false true = refl
    go true false false = refl
    go false true true = refl
    go false true false = refl
    go false false true = refl
    go false false false = refl

asked-layer-list : (v : List ℤ) (i : ℕ) (ok x : Bool) → asked ok (list_demand v (layer_demand i x)) ≡ list_demand v (layer_demand i (ok && x))
unfolding asked
asked-layer-list v i ok x = go (ltb list_limit (length v))
  where
    go : (t : Bool) → asked ok (cond t 3 (layer_demand i x)) ≡ cond t 3 (layer_demand i (ok && x))
    go true = refl
    go false = asked-layer i ok x

-- ---- a part's test that the whole implies
absorbed : (t w p x : Bool) → (t ≡ true → p ≡ true) → (t && w && (p && x)) ≡ (t && w && x)
absorbed true w p x f = rw (f refl)
absorbed false w p x f = refl

absorbed-two : (t w p x y : Bool) → (t ≡ true → p ≡ true) → (t && w && (p && x && y)) ≡ (t && w && (x && y))
absorbed-two true w p x y f = rw (f refl)
absorbed-two false w p x y f = refl

absorbed-one : (t p x : Bool) → (t ≡ true → p ≡ true) → (t && (p && x)) ≡ (t && x)
absorbed-one true p x f = rw (f refl)
absorbed-one false p x f = refl

-- ---- the parameter of a track that passes passes
either : (b : Bool) (x y : NoteParam) → ok_param x ≡ true → ok_param y ≡ true → ok_param (cond b x y) ≡ true
either true x y p q = p
either false x y p q = q

module _ (w : ℕ) (a : Track) where
  pub param-well : ok_track a ≡ true → ok_param (param_of w a) ≡ true
  unfolding param_of ok_params
  param-well e =
      let h = track-params a e in
      let v = ok_param a.v in
      let q = ok_param a.q in
      let t = ok_param a.t in
      let o = ok_param a.o in
      let l = ok_param a.l in
      let h4 = left (v && q && t && o) l h in
      let h3 = left (v && q && t) o h4 in
      let h2 = left (v && q) t h3 in
      either (eqb w 0) _ _ (left v q h2)
      (either (eqb w 1) _ _ (right v q h2) (either (eqb w 2) _ _ (right (v && q) t h3) (either (eqb w 3) _ _ (right (v && q && t) o h4) (right (v && q && t && o) l h))))

  both-well : ok_track a ≡ true → (ok_param (param_of w a) && is_time a.timepos) ≡ true
  both-well e = rw (param-well e, play-time a (track-play a e))

  -- ---- values
  pub value-on-time-code : (def : ℤ) → (value_on_time w a def).code ≡ demand (ok_track a && is_param w && is_number def)
  unfolding time_taken
  value-on-time-code def =
      given-code _ _ _ _ ∙ ap (param_asked w a) (value-code _ _ _) ∙ asked-demand (ok_track a && is_param w) (ok_param (param_of w a) && is_time a.timepos && is_number def)
      ∙ ap demand (absorbed (ok_track a) (is_param w) (ok_param (param_of w a) && is_time a.timepos) (is_number def) both-well)

  pub value-on-note-code : (def : ℤ) → (value_on_note w a def).code ≡ demand (ok_track a && is_param w && is_number def)
  unfolding note_taken
  value-on-note-code def =
      given-code _ _ _ _ ∙ ap (param_asked w a) (value-code _ _ _) ∙ asked-demand (ok_track a && is_param w) (ok_param (param_of w a) && is_number def)
      ∙ ap demand (absorbed (ok_track a) (is_param w) (ok_param (param_of w a)) (is_number def) param-well)

  -- ---- the setters of a parameter: one with a number, one with two, a curve, a cycle
  on-param-code : (r : ParamAnswer) → (on_param w a r).code ≡ param_asked w a r.code
  unfolding on_param
  on-param-code r = code_of _ _ _

  pub set-random-code : (n : ℤ) → (on_param w a (set_random (param_of w a) n)).code ≡ demand (ok_track a && is_param w && is_random n)
  set-random-code n =
      on-param-code _ ∙ ap (param_asked w a) (param-code _ _ _) ∙ asked-demand (ok_track a && is_param w) (ok_param (param_of w a) && is_random n)
      ∙ ap demand (absorbed (ok_track a) (is_param w) (ok_param (param_of w a)) (is_random n) param-well)

  pub set-range-code : (l h : ℤ) → (on_param w a (set_range (param_of w a) l h)).code ≡ demand (ok_track a && is_param w && (is_number l && is_number h))
  set-range-code l h =
      on-param-code _ ∙ ap (param_asked w a) (param-code _ _ _) ∙ asked-demand (ok_track a && is_param w) (ok_param (param_of w a) && is_number l && is_number h)
      ∙ ap demand (absorbed-two (ok_track a) (is_param w) (ok_param (param_of w a)) (is_number l) (is_number h) param-well)

  pub set-on-time-code : (v : List ℤ) → (on_param w a (set_on_time (param_of w a) a.timepos v)).code ≡ list_demand v (demand (ok_track a && is_param w && is_curve v))
  set-on-time-code v =
      on-param-code _ ∙ ap (param_asked w a) (param-code _ _ _)
      ∙ asked-list v (ok_track a && is_param w) (ok_param (param_of w a) && is_time a.timepos && is_curve v)
      ∙ ap (λ (t : Bool). list_demand v (demand t)) (absorbed (ok_track a) (is_param w) (ok_param (param_of w a) && is_time a.timepos) (is_curve v) both-well)

  pub set-on-cycle-code : (v : List ℤ) → (on_param w a (set_on_cycle (param_of w a) a.timepos v)).code ≡ list_demand v (demand (ok_track a && is_param w && (is_length (length_of v) && all is_number (rest_of v))))
  set-on-cycle-code v =
      on-param-code _ ∙ ap (param_asked w a) (param-code _ _ _)
      ∙ asked-list v (ok_track a && is_param w) (ok_param (param_of w a) && is_time a.timepos && is_length (length_of v) && all is_number (rest_of v))
      ∙ ap (λ (t : Bool). list_demand v (demand t)) (absorbed-two (ok_track a) (is_param w) (ok_param (param_of w a) && is_time a.timepos) (is_length (length_of v)) (all is_number (rest_of v)) both-well)

-- ---- the setters of a layer
module _ (a : Track) (i : ℕ) where
  on-layers-code : (r : LayersAnswer) → (on_layers a r).code ≡ asked (ok_track a) r.code
  unfolding on_layers
  on-layers-code r = code_of _ _ _

  delay-well : ok_track a ≡ true → is_length a.v.delay ≡ true
  unfolding param_of
  delay-well e = param-delay a.v (param-v e)
    where
      param-v : ok_track a ≡ true → ok_param a.v ≡ true
      param-v e = param-well 0 a e

  all-well : ok_track a ≡ true → (ok_layers a.layers && is_time a.timepos && is_length a.v.delay) ≡ true
  all-well e = rw (track-layers a e, play-time a (track-play a e), delay-well e)

  pub set-v-sub-code : (v : ℤ) → (on_layers a (set_v_sub a.layers i v)).code ≡ layer_demand i (ok_track a && is_number v)
  set-v-sub-code v =
      on-layers-code _ ∙ ap (asked (ok_track a)) (layers-code _ _ _ _) ∙ asked-layer i (ok_track a) (ok_layers a.layers && is_number v)
      ∙ ap (layer_demand i) (absorbed-one (ok_track a) (ok_layers a.layers) (is_number v) (track-layers a))

  pub set-v-sub-on-time-code : (v : List ℤ) → (on_layers a (set_v_sub_on_time a.layers i a.timepos a.v.delay v)).code ≡ list_demand v (layer_demand i (ok_track a && is_curve v))
  set-v-sub-on-time-code v =
      on-layers-code _ ∙ ap (asked (ok_track a)) (layers-code _ _ _ _)
      ∙ asked-layer-list v i (ok_track a) (ok_layers a.layers && is_time a.timepos && is_length a.v.delay && is_curve v)
      ∙ ap (λ (t : Bool). list_demand v (layer_demand i t)) (absorbed-one (ok_track a) (ok_layers a.layers && is_time a.timepos && is_length a.v.delay) (is_curve v) all-well)
