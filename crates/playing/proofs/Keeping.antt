-- What a note leaves passes the test of a track, so that the next call does not refuse it.
--     param-kept, value-kept, layers-kept       a part that passes, put into a track that passes
--     value-on-time-kept, value-on-note-kept    what a note takes of a parameter
use mathlib.Core.Path.{◌≡◌, refl}
use mathlib.Core.Bool.{Bool, true, false, cond}
use Prim.Native.Nat.{ℕ}
use lib.Dec.{eqb}
use lib.IntN.{ℤ, pos}
use Rattle.numbers.specs.Ranges.{is_number}
use Rattle.numbers.proofs.Tested.{zero_number}
use Rattle.reserved.specs.Reserve.{on_note, ok_reserve}
use Rattle.reserved.proofs.Kept.{timed-kept, noted-kept, noted-number}
use Rattle.params.specs.declared.NoteParam.{NoteParam}
use Rattle.params.specs.declared.ParamValue.{ParamValue}
use Rattle.params.specs.Param.{ok_param}
use Rattle.params.proofs.Calls.{param-reserve}
use Rattle.params.proofs.Kept.{with-kept}
use Rattle.layers.specs.declared.Layers.{Layers}
use Rattle.layers.specs.Layers.{ok_layers}
use Rattle.state.specs.declared.Track.{Track}
use Rattle.state.specs.Track.{with_params, with_layers, with_velocity, with_qlen, with_timing, with_octave}
use Rattle.state.specs.Tests.{ok_play, ok_params, ok_track}
use Rattle.state.proofs.Parts.{whole, track-play, track-params, track-layers, track-options, track-tables, track-cycles}
use Rattle.state.proofs.Play.{play-whole, play-timebase, play-time, play-channel, play-ccfreq, play-pbfreq, play-velocity, play-timing, play-octave, play-qlen, play-step}
use Rattle.state.proofs.Keeping.{kept}
use Rattle.playing.specs.declared.TrackValue.{TrackValue}
use Rattle.playing.specs.Which.{param_of, with_param, with_value}
use Rattle.playing.specs.Calls.{given, time_taken, after_note, note_taken, value_on_time, value_on_note}
use Rattle.playing.proofs.Codes.{given-param, given-value}
use Rattle.playing.proofs.Refusals.{param-well}

-- ---- a part that passes, put into a track that passes
either : (b : Bool) (x y : Track) → ok_track x ≡ true → ok_track y ≡ true → ok_track (cond b x y) ≡ true
either true x y p q = p
either false x y p q = q

module _ (a : Track) (e : ok_track a ≡ true) where
  params-kept : (v q t o l : NoteParam) → ok_params v q t o l ≡ true → ok_track (with_params a v q t o l) ≡ true
  unfolding ok_play
  params-kept v q t o l h =
      whole (with_params a v q t o l) (track-play a e) h (track-layers a e) (track-options a e) (track-tables a e) (track-cycles a e)

  pub layers-kept : (l : Layers) → ok_layers l ≡ true → ok_track (with_layers a l) ≡ true
  unfolding ok_play
  layers-kept l h = whole (with_layers a l) (track-play a e) (track-params a e) h (track-options a e) (track-tables a e) (track-cycles a e)

  well-v : ok_param a.v ≡ true
  unfolding param_of
  well-v = param-well 0 a e

  well-q : ok_param a.q ≡ true
  unfolding param_of
  well-q = param-well 1 a e

  well-t : ok_param a.t ≡ true
  unfolding param_of
  well-t = param-well 2 a e

  well-o : ok_param a.o ≡ true
  unfolding param_of
  well-o = param-well 3 a e

  well-l : ok_param a.l ≡ true
  unfolding param_of
  well-l = param-well 4 a e

  five : (v q t o l : NoteParam) → ok_param v ≡ true → ok_param q ≡ true → ok_param t ≡ true → ok_param o ≡ true → ok_param l ≡ true → ok_params v q t o l ≡ true
  unfolding ok_params
  five v q t o l p1 p2 p3 p4 p5 = rw (p1, p2, p3, p4, p5)

  pub param-kept : (w : ℕ) (p : NoteParam) → ok_param p ≡ true → ok_track (with_param w a p) ≡ true
  unfolding with_param
  param-kept w p h =
      either (eqb w 0) _ _ (params-kept p a.q a.t a.o a.l (five p a.q a.t a.o a.l h well-q well-t well-o well-l))
      (either (eqb w 1) _ _ (params-kept a.v p a.t a.o a.l (five a.v p a.t a.o a.l well-v h well-t well-o well-l))
      (either (eqb w 2) _ _ (params-kept a.v a.q p a.o a.l (five a.v a.q p a.o a.l well-v well-q h well-o well-l))
      (either (eqb w 3) _ _ (params-kept a.v a.q a.t p a.l (five a.v a.q a.t p a.l well-v well-q well-t h well-l))
      (params-kept a.v a.q a.t a.o p (five a.v a.q a.t a.o p well-v well-q well-t well-o h)))))

  play : ok_play a ≡ true
  play = track-play a e

  velocity-kept : (x : ℤ) → is_number x ≡ true → ok_track (with_velocity a x) ≡ true
  velocity-kept x h =
      kept a e a.timepos a.channel a.ccfreq a.pbfreq x a.timing a.octave a.qlen a.step
      (play-whole (with_velocity a x) (play-timebase a play) (play-time a play) (play-channel a play) (play-ccfreq a play) (play-pbfreq a play) h (play-timing a play) (play-octave a play) (play-qlen a play) (play-step a play))

  timing-kept : (x : ℤ) → is_number x ≡ true → ok_track (with_timing a x) ≡ true
  timing-kept x h =
      kept a e a.timepos a.channel a.ccfreq a.pbfreq a.velocity x a.octave a.qlen a.step
      (play-whole (with_timing a x) (play-timebase a play) (play-time a play) (play-channel a play) (play-ccfreq a play) (play-pbfreq a play) (play-velocity a play) h (play-octave a play) (play-qlen a play) (play-step a play))

  octave-kept : (x : ℤ) → is_number x ≡ true → ok_track (with_octave a x) ≡ true
  octave-kept x h =
      kept a e a.timepos a.channel a.ccfreq a.pbfreq a.velocity a.timing x a.qlen a.step
      (play-whole (with_octave a x) (play-timebase a play) (play-time a play) (play-channel a play) (play-ccfreq a play) (play-pbfreq a play) (play-velocity a play) (play-timing a play) h (play-qlen a play) (play-step a play))

  qlen-kept : (x : ℤ) → is_number x ≡ true → ok_track (with_qlen a x 0) ≡ true
  qlen-kept x h =
      kept a e a.timepos a.channel a.ccfreq a.pbfreq a.velocity a.timing a.octave x 0
      (play-whole (with_qlen a x 0) (play-timebase a play) (play-time a play) (play-channel a play) (play-ccfreq a play) (play-pbfreq a play) (play-velocity a play) (play-timing a play) (play-octave a play) h refl)

  pub value-kept : (w : ℕ) (x : ℤ) → is_number x ≡ true → ok_track (with_value w a x) ≡ true
  unfolding with_value
  value-kept w x h =
      either (eqb w 0) _ _ (velocity-kept x h)
      (either (eqb w 1) _ _ (qlen-kept x h) (either (eqb w 2) _ _ (timing-kept x h) (either (eqb w 3) _ _ (octave-kept x h) e)))

-- ---- what the calls leave
module _ (n : ℕ) (a : Track) (v : ℤ) (b : Track) where
  abbrev given_by : Bool → TrackValue
  given_by t = cond t (record { code = 0; value = v; track = b }) (record { code = n; value = pos 0; track = a })

  left-well : ok_track a ≡ true → ok_track b ≡ true → ok_track (given n a v b).track ≡ true
  unfolding given
  left-well p q = go (eqb n 0)
    where
      go : (t : Bool) → ok_track (given_by t).track ≡ true
      go true = q
      go false = p

module _ (w : ℕ) (a : Track) (e : ok_track a ≡ true) (def : ℤ) where
  reserve : ok_reserve (param_of w a).reserve ≡ true
  reserve = param-reserve (param_of w a) (param-well w a e)

  pub value-on-time-kept : ok_track (value_on_time w a def).track ≡ true
  unfolding time_taken
  value-on-time-kept =
      left-well _ a _ _ e
      (param-kept a e w _ (given-param _ (param_of w a) ok_param _ (param-well w a e) (with-kept (param_of w a) _ (param-well w a e) (timed-kept (param_of w a).reserve reserve def a.timepos))))

  after-well : (r : ParamValue) → ok_param r.param ≡ true → is_number r.value ≡ true → ok_track (after_note w a r) ≡ true
  unfolding after_note
  after-well r p h =
      let k = param-kept a e w r.param p in
      either (eqb r.param.reserve.kind on_note) _ _ (value-kept (with_param w a r.param) k w r.value h) k

  pub value-on-note-kept : is_number def ≡ true → ok_track (value_on_note w a def).track ≡ true
  unfolding note_taken
  value-on-note-kept d =
      left-well _ a _ _ e
      (after-well _
      (given-param _ (param_of w a) ok_param _ (param-well w a e) (with-kept (param_of w a) _ (param-well w a e) (noted-kept (param_of w a).reserve reserve def)))
      (given-value _ (param_of w a) is_number _ zero_number (noted-number (param_of w a).reserve reserve def d)))
