-- The trade's theorem and the rehearsal player: what a player has after a list that was fitted to the profile. Fitting takes controllers away that the player
-- does not heed, and of a controller's events at one time all but the last; so at every time the player has of the five controllers, of the program and, where
-- every bend is in range, of the bend what it has of the list handed in.
--     kept-state           the law: what the last event says, where the player accepts those that say it and twins say it alike
--     controller-fitted, controller-anywhere   one of the five controllers: of a list of one channel, and of every list where all channels are listened to
--     others-silent        no other controller is heard
--     program-fitted, bend-fitted   of every list, and of one whose bends are in range
--     Rehearsed, call-rehearsed, call-rehearsed-anywhere   the three of a list that `fit_profile` fitted, where the player has of it what it has of a song
--     passage-fitted, passage-anywhere   a passage that `full_cut` cut out and `fit_profile` fitted has at t what the song has at the cut's time and t
--     channels-matter, range-matters   without one channel, or with a bend out of range, it is not so
use mathlib.Core.Bool.{Bool, true, false, not, ◌&&◌, ◌||◌, true≢false}
use mathlib.Core.Path.{◌≡◌, refl, sym, ap, ◌∙◌}
use mathlib.Core.List.{List, [], ◌∷◌}
use mathlib.Core.Option.{none, some}
use Prim.Native.Nat.{ℕ, ◌<◌}
use native.Mathlib.Omega.{arith}
use borrow.Author.Tests.{eqb-true}
use lib.Dec.{eqb}
use lib.IntN.{ℤ, pos, ◌+ℤ◌}
use lib.Signed.{le_z}
use Rattle.laws.specs.Integers.{eq_z, inside}
use Rattle.laws.specs.Lists.{all, any, only}
use Rattle.laws.proofs.Bits.{eq_z-true}
use Rattle.laws.proofs.Bools.{not-not, narrower}
use Rattle.laws.proofs.Doubles.{any-imply}
use Rattle.laws.proofs.Every.{all-imply}
use Rattle.laws.proofs.Parts.{all_without}
use Rattle.laws.proofs.Ranges.{left, right}
use Rattle.numbers.specs.Ranges.{is_bend}
use Rattle.events.specs.declared.Event.{Event}
use Rattle.events.specs.Events.{cc_event, pitch_bend_event}
use Rattle.events.specs.Kinds.{control_change, pitch_bend, voice, has_data}
use Rattle.eventlist.specs.Rows.{events_of}
use Rattle.sorting.specs.Sorting.{earlier}
use Rattle.sorting.proofs.Promises.{stays}
use Rattle.sorting.proofs.Sound.{all-sort}
use Rattle.cutting.specs.Choice.{last_of}
use Rattle.cutting.specs.Cuts.{controllers}
use Rattle.cutting.proofs.Lasts.{last_none, last-without, last-thinned, last-unsaid-in}
use Rattle.profile.specs.Profile.{is_heeded, accepts, is_on, twins, channel_of, one_channel, fitted}
use Rattle.profile.specs.Calls.{FitOut}
use Rattle.profile.proofs.Calls.{not-refused, fit-out}
use Rattle.profile.proofs.Promises.{on_one, fitted-accepted, fitted-sorted}
use Rattle.profile.proofs.Refusing.{fits}
use Rattle.profile.proofs.Twins.{told}
use Rattle.passage.specs.Player.{heard, played_by, held, on, anywhere, says, controller_of, program_of, bend_of, State, has, state}
use Rattle.passage.specs.Passage.{FromOne, CutOut}
use Rattle.passage.proofs.Calls.{call-plays-as-in-the-song, call-every-list}
use Rattle.passage.proofs.Folded.{any-event}
use Rattle.passage.proofs.Passage.{controller-of}

-- ---- what was played of the fitted list
pub played-fitted : (t : ℤ) (es : List Event) → played_by t (fitted es) ≡ only (λ e. le_z e.time t) (fitted es)
played-fitted t es = ap (only (λ (e : Event). le_z e.time t)) (stays (fitted es) (fitted-sorted es))

-- ---- the last that says something
-- q holds of every event of the list, and of those twins say it alike
module _ {A : Type 0} (p : Event → Bool) (f : Event → A) (d : A) (q : Event → Bool) (alike : (e x : Event) → q e ≡ true → q x ≡ true → p e ≡ true → twins e x ≡ true → p x ≡ true) where
  pub kept-state : (es : List Event) → all q es ≡ true → all (λ e. not (p e) || accepts e) es ≡ true → (t : ℤ) → last_of p f d (played_by t (fitted es)) ≡ last_of p f d (played_by t es)
  kept-state es h k t =
      ap (last_of p f d) (played-fitted t es)
      ∙ last-without p f (λ e. not (by e)) d (fitted es)
      ∙ last-thinned said f (λ e behind. any (twins e) behind) q behind d (only accepts (heard es)) (all_without q (λ e. not (accepts e)) (heard es) (all-sort earlier q es h))
      ∙ last-unsaid-in said f (λ e. not (accepts e)) d (heard es)
      (all-imply (λ e. not (p e) || accepts e) (λ e. not (said e) || not (not (accepts e))) narrow (heard es) (all-sort earlier (λ e. not (p e) || accepts e) es k))
      ∙ sym (last-without p f (λ e. not (by e)) d (heard es))
    where
      by : Event → Bool
      by e = le_z e.time t

      said : Event → Bool
      said e = p e && not (not (by e))

      behind : (e : Event) (rest : List Event) → q e ≡ true → all q rest ≡ true → said e ≡ true → any (twins e) rest ≡ true → any said rest ≡ true
      behind e rest y z w = any-imply q (twins e) said also rest z
        where
          also : (x : Event) → q x ≡ true → twins e x ≡ true → said x ≡ true
          also x v m =
              let time = (told e x m).time in
              let before : not (not (by x)) ≡ true = ap (λ (u : ℤ). not (not (le_z u t))) (sym time) ∙ right (p e) (not (not (by e))) w in
              rw (alike e x y v (left (p e) (not (not (by e))) w) m) before

      narrow : (e : Event) → (not (p e) || accepts e) ≡ true → (not (said e) || not (not (accepts e))) ≡ true
      narrow e y = rw (not-not (accepts e)) (narrower (said e) (p e) (accepts e) (left (p e) (not (not (by e)))) y)

-- ---- controllers
-- a controller counts, so it is on the list's channel
on-channel : (j : ℤ) (e : Event) → eq_z e.kind control_change ≡ true → is_on j e ≡ true → e.channel ≡ j
unfolding has_data
on-channel j e k h = let m : eq_z e.channel j ≡ true = rw (eq_z-true e.kind control_change k) at h in eq_z-true e.channel j m

heeds : (n : ℕ) → is_heeded (pos n) ≡ true → (e : Event) → eq_z e.kind control_change ≡ true → eq_z e.v1 (pos n) ≡ true → accepts e ≡ true
unfolding accepts
heeds n h e k v = rw (k, eq_z-true e.v1 (pos n) v) h

module _ (listens : ℤ → Bool) (n : ℕ) where
  -- says controller n to the player
  abbrev sets : Event → Bool
  sets e = says control_change listens e && eq_z e.v1 (pos n)

  is_control : (e : Event) → sets e ≡ true → eq_z e.kind control_change ≡ true
  is_control e h = left (eq_z e.kind control_change) (listens e.channel) (left (says control_change listens e) (eq_z e.v1 (pos n)) h)

  is-number : (e : Event) → sets e ≡ true → eq_z e.v1 (pos n) ≡ true
  is-number e h = right (says control_change listens e) (eq_z e.v1 (pos n)) h

  is-heard : (e : Event) → sets e ≡ true → listens e.channel ≡ true
  is-heard e h = right (eq_z e.kind control_change) (listens e.channel) (left (says control_change listens e) (eq_z e.v1 (pos n)) h)

  -- a twin that is listened to sets it too
  twin-sets : (e x : Event) → sets e ≡ true → twins e x ≡ true → listens x.channel ≡ true → sets x ≡ true
  twin-sets e x h m l = let t = told e x m in rw (t.second, l) (ap (λ (v : ℤ). eq_z v (pos n)) (sym t.number) ∙ is-number e h)

  module _ (heeded : is_heeded (pos n) ≡ true) where
    heeded-all : (es : List Event) → all (λ e. not (sets e) || accepts e) es ≡ true
    heeded-all es = all-imply (λ e. true) (λ e. not (sets e) || accepts e) (λ e y. go e (sets e) refl) es (any-event es)
      where
        go : (e : Event) (b : Bool) → sets e ≡ b → (not b || accepts e) ≡ true
        go e true h = heeds n heeded e (is_control e h) (is-number e h)
        go e false h = refl

    pub controller-fitted : (es : List Event) → one_channel es ≡ true → (t : ℤ) → controller_of (played_by t (fitted es)) listens n ≡ controller_of (played_by t es) listens n
    controller-fitted es one t = kept-state sets (λ e. held e.v2) none (is_on (channel_of es)) alike es (on_one es one) (heeded-all es) t
      where
        alike : (e x : Event) → is_on (channel_of es) e ≡ true → is_on (channel_of es) x ≡ true → sets e ≡ true → twins e x ≡ true → sets x ≡ true
        alike e x y z h m =
            let here = on-channel (channel_of es) e (is_control e h) y in
            let there = on-channel (channel_of es) x (told e x m).second z in
            twin-sets e x h m (ap listens (there ∙ sym here) ∙ is-heard e h)

  -- of the others there is none
  pub others-silent : is_heeded (pos n) ≡ false → (es : List Event) (t : ℤ) → controller_of (played_by t (fitted es)) listens n ≡ none
  unfolding accepts
  others-silent h es t =
      last_none sets (λ e. held e.v2) none (played_by t (fitted es))
      (all_without (λ e. not (sets e)) (λ e. not (le_z e.time t)) (heard (fitted es)) (all-sort earlier (λ e. not (sets e)) (fitted es)
      (all-imply accepts (λ e. not (sets e)) (λ e. go e (sets e) refl) (fitted es) (fitted-accepted es))))
    where
      go : (e : Event) (b : Bool) → sets e ≡ b → accepts e ≡ true → not b ≡ true
      go e true k y =
          let m : is_heeded e.v1 ≡ true = rw (is_control e k) at y in
          absurd (true≢false (sym m ∙ ap is_heeded (eq_z-true e.v1 (pos n) (is-number e k)) ∙ h))
      go e false k y = refl

pub controller-anywhere : (n : ℕ) → is_heeded (pos n) ≡ true → (es : List Event) (t : ℤ) → controller_of (played_by t (fitted es)) anywhere n ≡ controller_of (played_by t es) anywhere n
controller-anywhere n heeded es t =
    kept-state (sets anywhere n) (λ e. held e.v2) none (λ e. true) (λ e x y z h m. twin-sets anywhere n e x h m refl) es (any-event es) (heeded-all anywhere n heeded es) t

-- ---- the program and the bend
-- no controller is of another kind
other-kind : (k : ℤ) → eq_z control_change k ≡ false → (listens : ℤ → Bool) (e x : Event) → says k listens e ≡ true → twins e x ≡ true → says k listens x ≡ true
other-kind k apart listens e x h m =
    let kind = eq_z-true e.kind control_change (told e x m).first in
    absurd (true≢false (sym (left (eq_z e.kind k) (listens e.channel) h) ∙ ap (λ (z : ℤ). eq_z z k) kind ∙ apart))

voice-accepted : (e : Event) → eq_z e.kind voice ≡ true → accepts e ≡ true
unfolding accepts
voice-accepted e h = rw (eq_z-true e.kind voice h)

bend-accepted : (e : Event) → eq_z e.kind pitch_bend ≡ true → is_bend e.v1 ≡ true → accepts e ≡ true
unfolding accepts
bend-accepted e h k = rw (eq_z-true e.kind pitch_bend h) k

module _ (listens : ℤ → Bool) (es : List Event) where
  pub program-fitted : (t : ℤ) → program_of (played_by t (fitted es)) listens ≡ program_of (played_by t es) listens
  program-fitted =
      kept-state (says voice listens) (λ e. held e.v1) none (λ e. true) (λ e x y z. other-kind voice refl listens e x) es (any-event es)
      (all-imply (λ e. true) (λ e. not (says voice listens e) || accepts e) (λ e y. go e (says voice listens e) refl) es (any-event es))
    where
      go : (e : Event) (b : Bool) → says voice listens e ≡ b → (not b || accepts e) ≡ true
      go e true h = voice-accepted e (left (eq_z e.kind voice) (listens e.channel) h)
      go e false h = refl

-- a bend, where it is one, is in range
abbrev pub in_range : Event → Bool
in_range e = not (eq_z e.kind pitch_bend) || is_bend e.v1

module _ (listens : ℤ → Bool) (es : List Event) where
  pub bend-fitted : all in_range es ≡ true → (t : ℤ) → bend_of (played_by t (fitted es)) listens ≡ bend_of (played_by t es) listens
  bend-fitted h =
      kept-state (says pitch_bend listens) (λ e. some e.v1) none (λ e. true) (λ e x y z. other-kind pitch_bend refl listens e x) es (any-event es)
      (all-imply in_range (λ e. not (says pitch_bend listens e) || accepts e) (λ e. go e (says pitch_bend listens e) refl) es h)
    where
      go : (e : Event) (b : Bool) → says pitch_bend listens e ≡ b → in_range e ≡ true → (not b || accepts e) ≡ true
      go e true k y =
          let bend = left (eq_z e.kind pitch_bend) (listens e.channel) k in
          let m : is_bend e.v1 ≡ true = rw bend at y in
          bend-accepted e bend m
      go e false k y = refl

-- ---- a passage that was cut out and fitted
-- the five are among the controllers
heeded-low : (n : ℕ) → is_heeded (pos n) ≡ true → n < controllers
unfolding is_heeded
heeded-low n h = go (eqb n 1) refl (eqb n 7) refl (eqb n 10) refl (eqb n 11) refl (eqb n 64) refl h
  where
    low : (k : ℕ) → k < controllers → eqb n k ≡ true → n < controllers
    low k m q = let e = eqb-true n k q in omega arith

    go : (a : Bool) → eqb n 1 ≡ a → (b : Bool) → eqb n 7 ≡ b → (c : Bool) → eqb n 10 ≡ c → (d : Bool) → eqb n 11 ≡ d → (f : Bool) → eqb n 64 ≡ f → (a || b || c || d || f) ≡ true → n < controllers
    go true i b j c k d o f p y = low 1 (omega arith) i
    go false i true j c k d o f p y = low 7 (omega arith) j
    go false i false j true k d o f p y = low 10 (omega arith) k
    go false i false j false k true o f p y = low 11 (omega arith) o
    go false i false j false k false o true p y = low 64 (omega arith) p
    go false i false j false k false o false p y = absurd (true≢false (sym y))

-- what a rehearsal player has at t of the list a, and at u of b: of the five controllers, of the program and, where `bent` says so, of the bend
pub record Rehearsed (listens : ℤ → Bool) (a : List Event) (t : ℤ) (b : List Event) (u : ℤ) (bent : Bool) : Type 0 where
  pub controls : (n : ℕ) → is_heeded (pos n) ≡ true → controller_of (played_by t a) listens n ≡ controller_of (played_by u b) listens n
  pub program : program_of (played_by t a) listens ≡ program_of (played_by u b) listens
  pub bend : bent ≡ true → bend_of (played_by t a) listens ≡ bend_of (played_by u b) listens

-- from what the passage has, of whoever loses no controller by fitting
rehearsed : (listens : ℤ → Bool) (es song : List Event) (t u : ℤ)
    → ((n : ℕ) → is_heeded (pos n) ≡ true → controller_of (played_by t (fitted es)) listens n ≡ controller_of (played_by t es) listens n)
    → state es listens t ≡ state song listens u → Rehearsed listens (fitted es) t song u (all in_range es)
unfolding has
rehearsed listens es song t u same alike =
    record {
      controls = λ n y. same n y ∙ controller-of (played_by t es) (played_by u song) listens alike n (heeded-low n y);
      program = program-fitted listens es t ∙ ap (λ (s : State). s.program) alike;
      bend = λ y. bend-fitted listens es y t ∙ ap (λ (s : State). s.bend) alike;
    }

-- l' is the list l fitted, of which the player has at t what it has of the song at u
module _ {store : ℕ} {l : List ℤ} {n m : ℕ} {l' : List ℤ} (g : FitOut store l n m l') (song : List Event) (t u : ℤ) where
  pub call-rehearsed : (j : ℤ) → state (events_of l n) (on j) t ≡ state song (on j) u → Rehearsed (on j) (events_of l' m) t song u (all in_range (events_of l n))
  call-rehearsed j alike =
      rw (fit-out g) (rehearsed (on j) (events_of l n) song t u (λ i y. controller-fitted (on j) i y (events_of l n) (fits store l n (not-refused g)).single t) alike)

  pub call-rehearsed-anywhere : state (events_of l n) anywhere t ≡ state song anywhere u → Rehearsed anywhere (events_of l' m) t song u (all in_range (events_of l n))
  call-rehearsed-anywhere alike = rw (fit-out g) (rehearsed anywhere (events_of l n) song t u (λ i y. controller-anywhere i y (events_of l n) t) alike)

-- l' is the passage of the song l, and l'' the passage fitted
module _ {store : ℕ} {l : List ℤ} {count : ℕ} {at : ℤ} {n : ℕ} {l' : List ℤ} {m : ℕ} {l'' : List ℤ} (k : CutOut store l count at n l') (g : FitOut store l' n m l'')
    (t : ℤ) (from : le_z (pos 0) t ≡ true) where
  pub passage-fitted : FromOne at (events_of l count) → (j : ℤ) → Rehearsed (on j) (events_of l'' m) t (events_of l count) (at +ℤ t) (all in_range (events_of l' n))
  passage-fitted h j = call-rehearsed g (events_of l count) t (at +ℤ t) j (call-plays-as-in-the-song k h j t from)

  pub passage-anywhere : Rehearsed anywhere (events_of l'' m) t (events_of l count) (at +ℤ t) (all in_range (events_of l' n))
  passage-anywhere = call-rehearsed-anywhere g (events_of l count) t (at +ℤ t) (call-every-list k t from)

-- ---- what is asked is needed
-- on two channels, the one that stood before is lost to a player of its channel
pub channels-matter : controller_of (played_by (pos 0) (fitted (cc_event (pos 0) (pos 0) (pos 7) (pos 1) ∷ cc_event (pos 0) (pos 1) (pos 7) (pos 2) ∷ []))) (on (pos 0)) 7 ≡ none
unfolding any accepts is_heeded twins
channels-matter = refl

-- a bend out of range is lost
pub range-matters : bend_of (played_by (pos 0) (fitted (pitch_bend_event (pos 0) (pos 0) (pos 16384) ∷ []))) anywhere ≡ none
unfolding any accepts is_bend inside twins
range-matters = refl
