-- A note's call puts the settled answer of its parameter into the track, field by field; that is what the call leaves.
--     unsettled, settling   the answer, chosen by the number that was asked
--     settled-on-note       the settled answer of the parameter's own call
--     note-left             a track that is built of the settled answer is the one that `note_taken` says
--     velocity-left ..      the same of each parameter, with the values that it keeps
use mathlib.Core.Path.{◌≡◌, refl, sym, ap, ap₂, ◌∙◌}
use mathlib.Core.Bool.{Bool, true, false, cond, ◌&&◌}
use Prim.Native.Nat.{ℕ}
use borrow.Author.Tests.{eq-eqb, ne_eqb}
use lib.Dec.{eqb}
use lib.IntN.{ℤ, pos}
use Rattle.reserved.specs.Reserve.{on_note}
use Rattle.params.specs.declared.NoteParam.{NoteParam}
use Rattle.params.specs.declared.ParamValue.{ParamValue}
use Rattle.params.specs.Calls.{calc_on_note}
use Rattle.state.specs.declared.Track.{Track}
use Rattle.state.specs.Track.{with_params, with_velocity, with_timing, with_octave, with_qlen}
use Rattle.state.specs.Tests.{ok_track}
use Rattle.playing.specs.declared.TrackValue.{TrackValue}
use Rattle.playing.specs.Which.{velocity, gate, timing, octave, span, is_param, param_of, with_param, with_value}
use Rattle.playing.specs.Calls.{asked, given, after_note, note_taken, value_on_note}
use Rattle.playing.specs.Settled.{settled, listed}

module _ (ok : Bool) (r : ParamValue) (p : NoteParam) {m : ℕ} (e : m ≡ asked ok r.code) where
  abbrev paramless : ℕ → ParamValue
  paramless k = record { code = k; value = pos 0; param = p }

  pub unsettled : (m ≡ 0 → ⊥) → record { code = m; value = pos 0; param = p } ≡ settled ok r p
  unfolding settled
  unsettled h = ap paramless e ∙ rw (ne_eqb (asked ok r.code) 0 (λ z. h (e ∙ z)))

  pub settling : m ≡ 0 → record { code = 0; value = r.value; param = r.param } ≡ settled ok r p
  unfolding settled
  settling h = rw (eq-eqb (asked ok r.code) 0 (sym e ∙ h))

and-true : (b : Bool) → (b && true) ≡ b
and-true true = refl
and-true false = refl

-- the settled answer of the parameter's own call
module _ (a : Track) (p : NoteParam) {def d : ℤ} {s t : ParamValue} {ok : Bool} where
  pub settled-on-note : s ≡ settled ok t p → ok ≡ ok_track a → t ≡ calc_on_note p d → d ≡ def → s ≡ settled (ok_track a) (calc_on_note p def) p
  settled-on-note e f g h = e ∙ ap₂ (λ (k : Bool) (x : ParamValue). settled k x p) f (g ∙ ap (calc_on_note p) h)

-- `after q l x` is the track a with the parameter q and, where l, the value x
module _ (a : Track) (r : ParamValue) (p : NoteParam) (after : NoteParam → Bool → ℤ → Track) where
  abbrev told : ParamValue → TrackValue
  told s = record { code = s.code; value = s.value; track = after s.param (listed s) s.value }

  abbrev number : ℕ
  number = asked (ok_track a) r.code

  abbrev left_by_lem : Bool → ParamValue
  left_by_lem t = cond t (record { code = 0; value = r.value; param = r.param }) (record { code = number; value = pos 0; param = p })

  abbrev done : Track
  done = after r.param (eqb r.param.reserve.kind on_note) r.value

  abbrev given_by : Bool → TrackValue
  given_by t = cond t (record { code = 0; value = r.value; track = done }) (record { code = number; value = pos 0; track = a })

  by_number : after p false (pos 0) ≡ a → told (settled (ok_track a) r p) ≡ given number a r.value done
  unfolding settled given listed
  by_number same = go (eqb number 0) refl
    where
      go : (t : Bool) → eqb number 0 ≡ t → told (left_by_lem t) ≡ given_by t
      go true e = refl
      go false e = rw e (ap (λ (b : Track). record { code = number; value = pos 0; track = b }) same)

  pub note-left : (w : ℕ) → is_param w ≡ true → after p false (pos 0) ≡ a → done ≡ after_note w a r → {s : ParamValue} → s ≡ settled (ok_track a) r p → told s ≡ note_taken w a r
  unfolding note_taken
  note-left w known same same-done e =
      ap told e ∙ by_number same
      ∙ ap₂ (λ (n : ℕ) (b : Track). given n a r.value b) (ap (λ (t : Bool). asked t r.code) (sym (ap (λ (t : Bool). ok_track a && t) known ∙ and-true (ok_track a)))) same-done

module _ (a : Track) (def : ℤ) (s : ParamValue) where
  -- ---- velocity
  abbrev velocity_after : NoteParam → Bool → ℤ → Track
  velocity_after q l x = with_velocity (with_params a q a.q a.t a.o a.l) (cond l x a.velocity)

  velocity-after : (r : ParamValue) → done a r a.v velocity_after ≡ after_note 0 a r
  unfolding after_note with_value with_param
  velocity-after r = go (eqb r.param.reserve.kind on_note)
    where
      go : (t : Bool) → velocity_after r.param t r.value ≡ cond t (with_value 0 (with_param 0 a r.param) r.value) (with_param 0 a r.param)
      go true = refl
      go false = refl

  pub velocity-left : (x : ℤ) → s ≡ settled (ok_track a) (calc_on_note a.v def) a.v → x ≡ cond (listed s) s.value a.velocity → record { code = s.code; value = s.value; track = with_velocity (with_params a s.param a.q a.t a.o a.l) x } ≡ value_on_note velocity a def
  unfolding param_of
  velocity-left x e h = ap (λ (y : ℤ). record { code = s.code; value = s.value; track = with_velocity (with_params a s.param a.q a.t a.o a.l) y }) h ∙ note-left a (calc_on_note a.v def) a.v velocity_after velocity refl refl (velocity-after (calc_on_note a.v def)) e

  -- ---- gate
  abbrev gate_after : NoteParam → Bool → ℤ → Track
  gate_after q l x = with_qlen (with_params a a.v q a.t a.o a.l) (cond l x a.qlen) (cond l 0 a.step)

  gate-after : (r : ParamValue) → done a r a.q gate_after ≡ after_note 1 a r
  unfolding after_note with_value with_param
  gate-after r = go (eqb r.param.reserve.kind on_note)
    where
      go : (t : Bool) → gate_after r.param t r.value ≡ cond t (with_value 1 (with_param 1 a r.param) r.value) (with_param 1 a r.param)
      go true = refl
      go false = refl

  pub gate-left : (x : ℤ) (n : ℕ) → s ≡ settled (ok_track a) (calc_on_note a.q def) a.q → x ≡ cond (listed s) s.value a.qlen → n ≡ cond (listed s) 0 a.step → record { code = s.code; value = s.value; track = with_qlen (with_params a a.v s.param a.t a.o a.l) x n } ≡ value_on_note gate a def
  unfolding param_of
  gate-left x n e h k = ap₂ (λ (y : ℤ) (m : ℕ). record { code = s.code; value = s.value; track = with_qlen (with_params a a.v s.param a.t a.o a.l) y m }) h k ∙ note-left a (calc_on_note a.q def) a.q gate_after gate refl refl (gate-after (calc_on_note a.q def)) e

  -- ---- timing
  abbrev timing_after : NoteParam → Bool → ℤ → Track
  timing_after q l x = with_timing (with_params a a.v a.q q a.o a.l) (cond l x a.timing)

  timing-after : (r : ParamValue) → done a r a.t timing_after ≡ after_note 2 a r
  unfolding after_note with_value with_param
  timing-after r = go (eqb r.param.reserve.kind on_note)
    where
      go : (t : Bool) → timing_after r.param t r.value ≡ cond t (with_value 2 (with_param 2 a r.param) r.value) (with_param 2 a r.param)
      go true = refl
      go false = refl

  pub timing-left : (x : ℤ) → s ≡ settled (ok_track a) (calc_on_note a.t def) a.t → x ≡ cond (listed s) s.value a.timing → record { code = s.code; value = s.value; track = with_timing (with_params a a.v a.q s.param a.o a.l) x } ≡ value_on_note timing a def
  unfolding param_of
  timing-left x e h = ap (λ (y : ℤ). record { code = s.code; value = s.value; track = with_timing (with_params a a.v a.q s.param a.o a.l) y }) h ∙ note-left a (calc_on_note a.t def) a.t timing_after timing refl refl (timing-after (calc_on_note a.t def)) e

  -- ---- octave
  abbrev octave_after : NoteParam → Bool → ℤ → Track
  octave_after q l x = with_octave (with_params a a.v a.q a.t q a.l) (cond l x a.octave)

  octave-after : (r : ParamValue) → done a r a.o octave_after ≡ after_note 3 a r
  unfolding after_note with_value with_param
  octave-after r = go (eqb r.param.reserve.kind on_note)
    where
      go : (t : Bool) → octave_after r.param t r.value ≡ cond t (with_value 3 (with_param 3 a r.param) r.value) (with_param 3 a r.param)
      go true = refl
      go false = refl

  pub octave-left : (x : ℤ) → s ≡ settled (ok_track a) (calc_on_note a.o def) a.o → x ≡ cond (listed s) s.value a.octave → record { code = s.code; value = s.value; track = with_octave (with_params a a.v a.q a.t s.param a.l) x } ≡ value_on_note octave a def
  unfolding param_of
  octave-left x e h = ap (λ (y : ℤ). record { code = s.code; value = s.value; track = with_octave (with_params a a.v a.q a.t s.param a.l) y }) h ∙ note-left a (calc_on_note a.o def) a.o octave_after octave refl refl (octave-after (calc_on_note a.o def)) e

  -- ---- span
  abbrev span_after : NoteParam → Bool → ℤ → Track
  span_after q l x = with_params a a.v a.q a.t a.o q

  span-after : (r : ParamValue) → done a r a.l span_after ≡ after_note 4 a r
  unfolding after_note with_value with_param
  span-after r = go (eqb r.param.reserve.kind on_note)
    where
      go : (t : Bool) → span_after r.param t r.value ≡ cond t (with_value 4 (with_param 4 a r.param) r.value) (with_param 4 a r.param)
      go true = refl
      go false = refl

  pub span_left : s ≡ settled (ok_track a) (calc_on_note a.l def) a.l → record { code = s.code; value = s.value; track = with_params a a.v a.q a.t a.o s.param } ≡ value_on_note span a def
  unfolding param_of
  span_left e = note-left a (calc_on_note a.l def) a.l span_after span refl refl (span-after (calc_on_note a.l def)) e
