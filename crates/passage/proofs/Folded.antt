-- What holds of each event that a full cut folds, part by part.
--     all-controls, all-program, all-bend   a test that holds of a controller's event, of a program's, of a bend at time 0
--     folded-sounds, folded-begins          all of them sound, and stand at time 0
use mathlib.Core.Bool.{Bool, true, false, cond}
use mathlib.Core.Path.{◌≡◌, refl}
use mathlib.Core.List.{List, [], ◌∷◌, ◌++◌}
use Prim.Native.Nat.{ℕ, zero, suc}
use lib.IntN.{ℤ, pos}
use lib.Signed.{lt_z}
use Rattle.laws.specs.Integers.{eq_z}
use Rattle.laws.specs.Lists.{all, unless}
use Rattle.laws.proofs.Parts.{all_append}
use Rattle.laws.proofs.Ranges.{left, right}
use Rattle.events.specs.declared.Event.{Event}
use Rattle.events.specs.Events.{cc_event, voice_event}
use Rattle.events.specs.Kinds.{pitch_bend}
use Rattle.cutting.specs.Choice.{last_of}
use Rattle.cutting.specs.Cuts.{controllers, with_time, folds, control_at, program_at, channel_at, bend_at, controls_from, program_on, folded, whole}
use Rattle.cutting.proofs.Folding.{folds-kind}
use Rattle.passage.specs.Passage.{sounds}

module _ (q : Event → Bool) where
  -- the test is asked where the value is set
  pub all-controls : (value : ℕ → ℤ) (channel : ℤ) → ((n : ℕ) → lt_z (value n) (pos 0) ≡ false → q (cc_event (pos 0) channel (pos n) (value n)) ≡ true)
      → (k n : ℕ) → all q (controls_from value channel k n) ≡ true
  unfolding all controls_from
  all-controls value channel h zero n = refl
  all-controls value channel h (suc k) n = go (lt_z (value n) (pos 0)) refl (all-controls value channel h k (suc n))
    where
      go : (t : Bool) → lt_z (value n) (pos 0) ≡ t → all q (controls_from value channel k (suc n)) ≡ true
          → all q (unless t (cc_event (pos 0) channel (pos n) (value n)) (controls_from value channel k (suc n))) ≡ true
      go true e ih = ih
      go false e ih = rw (h n e) ih

  pub all-program : (program channel : ℤ) → (lt_z program (pos 0) ≡ false → q (voice_event (pos 0) channel program) ≡ true) → all q (program_on program channel) ≡ true
  unfolding all
  all-program program channel h = go (lt_z program (pos 0)) refl
    where
      go : (t : Bool) → lt_z program (pos 0) ≡ t → all q (unless t (voice_event (pos 0) channel program) []) ≡ true
      go true e = refl
      go false e = rw (h e)

  -- the bend is one of the list's
  pub all-bend : (at : ℤ) (r : Event → Bool) → ((e : Event) → r e ≡ true → folds pitch_bend at e ≡ true → q (with_time (pos 0) e) ≡ true)
      → (es : List Event) → all r es ≡ true → all q (bend_at at es) ≡ true
  unfolding all
  all-bend at r h es y = go [] es refl y
    where
      go : (d l : List Event) → all q d ≡ true → all r l ≡ true → all q (last_of (folds pitch_bend at) (λ e. with_time (pos 0) e ∷ []) d l) ≡ true
      go d [] k y = k
      go d (e ∷ l) k y = go (cond (folds pitch_bend at e) (with_time (pos 0) e ∷ []) d) l (here (folds pitch_bend at e) refl) (right (r e) (all r l) y)
        where
          here : (t : Bool) → folds pitch_bend at e ≡ t → all q (cond t (with_time (pos 0) e ∷ []) d) ≡ true
          here true f = rw (h e (left (r e) (all r l) y) f)
          here false f = k

  module _ (at : ℤ) (es : List Event) where
    pub all-folded : ((n : ℕ) → lt_z (control_at at es n) (pos 0) ≡ false → q (cc_event (pos 0) (channel_at at es) (pos n) (control_at at es n)) ≡ true)
        → (lt_z (program_at at es) (pos 0) ≡ false → q (voice_event (pos 0) (channel_at at es) (program_at at es)) ≡ true)
        → all q (bend_at at es) ≡ true → all q (folded (whole at) es) ≡ true
    unfolding folded
    all-folded c p b =
        let channel = channel_at at es in
        all_append q (controls_from (control_at at es) channel controllers 0) (program_on (program_at at es) channel ++ bend_at at es)
        (all-controls (control_at at es) channel c controllers 0)
        (all_append q (program_on (program_at at es) channel) (bend_at at es) (all-program (program_at at es) channel p) b)

pub any-event : (es : List Event) → all (λ e. true) es ≡ true
unfolding all
any-event [] = refl
any-event (e ∷ es) = any-event es

-- of a bend by its kind alone
pub bend-by-kind : (q : Event → Bool) (at : ℤ) (es : List Event) → ((e : Event) → e.kind ≡ pitch_bend → q (with_time (pos 0) e) ≡ true) → all q (bend_at at es) ≡ true
bend-by-kind q at es h = all-bend q at (λ e. true) (λ e y f. h e (folds-kind pitch_bend at e f)) es (any-event es)

-- ---- of all of them
pub folded-sounds : (at : ℤ) (es : List Event) → all sounds (folded (whole at) es) ≡ true
unfolding sounds
folded-sounds at es = all-folded sounds at es (λ n h. refl) (λ h. refl) (bend-by-kind sounds at es (λ e k. rw k))

pub folded-begins : (at : ℤ) (es : List Event) → all (λ e. eq_z e.time (pos 0)) (folded (whole at) es) ≡ true
folded-begins at es = all-folded (λ e. eq_z e.time (pos 0)) at es (λ n h. refl) (λ h. refl) (bend-by-kind (λ e. eq_z e.time (pos 0)) at es (λ e k. refl))
