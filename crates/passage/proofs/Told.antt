-- What is folded says of controllers, program and bend what the song's events before the cut say, to a player that listens to all
-- controllers and programs before the cut or to none of them, and to all bends before it or to none.
--     Listens            what is asked of the player's channels
--     told-alike         a value that is folded on the channel of the latest, and the values where they stood
--     controls-inside, program-inside, bend-inside   what is folded, read as a player reads it
use mathlib.Core.Bool.{Bool, true, false, cond, not, ◌&&◌, ◌||◌, true≢false}
use mathlib.Core.Path.{◌≡◌, refl, sym, ap, ◌∙◌}
use mathlib.Core.List.{List, [], ◌∷◌, ◌++◌}
use mathlib.Core.Logic.{◌⊎◌, ⊎_elim, inl, inr}
use mathlib.Core.Option.{Option, none, some}
use Prim.Native.Nat.{ℕ, ◌<◌}
use lib.IntN.{ℤ, pos}
use lib.Signed.{lt_z}
use Rattle.laws.specs.Integers.{eq_z}
use Rattle.laws.specs.Lists.{all, unless}
use Rattle.laws.proofs.Bits.{eq_z-refl}
use Rattle.laws.proofs.Bools.{and-on, and-off, or-on, contra, narrower}
use Rattle.laws.proofs.Every.{all-imply}
use Rattle.laws.proofs.Parts.{all-last}
use Rattle.laws.proofs.Ranges.{left}
use Rattle.events.specs.declared.Event.{Event}
use Rattle.events.specs.Events.{cc_event, voice_event}
use Rattle.events.specs.Kinds.{control_change, pitch_bend, voice}
use Rattle.sorting.specs.Sorting.{earlier}
use Rattle.sorting.proofs.Sound.{all-sort}
use Rattle.cutting.specs.Choice.{last_of}
use Rattle.cutting.specs.Counting.{Counts}
use Rattle.cutting.specs.Cuts.{controllers, unset, with_time, folds, controls, tells, control_at, program_at, channel_at, bend_at, controls_from, program_on, folded, whole}
use Rattle.cutting.proofs.ByTime.{last-map}
use Rattle.cutting.proofs.Counting.{last-counts, some-counts}
use Rattle.cutting.proofs.Folding.{folds-kind}
use Rattle.cutting.proofs.Lasts.{last-append, last_none, last-same, last-unsaid, last-alike}
use Rattle.cutting.proofs.Promises.{one-controller}
use Rattle.passage.specs.Player.{heard, held, says, controller_of, program_of, bend_of}
use Rattle.passage.proofs.Folded.{all-controls, all-program, bend-by-kind}

abbrev pub agrees : Bool → Bool → Bool
agrees true b = b
agrees false b = not b

-- all events of which m holds are on channels that are listened to, or none is
abbrev pub Alike : (ℤ → Bool) → (Event → Bool) → Bool → List Event → Type 0
Alike listens m b es = all (λ e. not (m e) || agrees b (listens e.channel)) es ≡ true

pub record Listens (listens : ℤ → Bool) (at : ℤ) (es : List Event) : Type 0 where
  pub told : Bool
  pub bent : Bool
  pub all_told : Alike listens (tells at) told es
  pub all-bent : Alike listens (folds pitch_bend at) bent es

agreed : (b x : Bool) → agrees b x ≡ true → x ≡ b
agreed true x h = h
agreed false true h = sym h
agreed false false h = refl

nothing : (b : Bool) → cond {A = Option ℤ} b none none ≡ none
nothing true = refl
nothing false = refl

module _ (listens : ℤ → Bool) (m : Event → Bool) (b : Bool) where
  heard-is : (e : Event) → (not (m e) || agrees b (listens e.channel)) ≡ true → m e ≡ true → listens e.channel ≡ b
  heard-is e h k = agreed b (listens e.channel) (rw k at h)

  -- where all are listened to, the channel need not be asked; where none is, nothing is heard
  pub all-or-none : {A : Type 0} (f : Event → A) (d : A) (es : List Event) → Alike listens m b es
      → last_of (λ e. m e && listens e.channel) f d es ≡ cond b (last_of m f d es) d
  all-or-none {A} f d es h = go b refl
    where
      said : (t : Bool) → b ≡ t → (e : Event) → (not (m e) || agrees b (listens e.channel)) ≡ true → (m e && listens e.channel) ≡ (m e && t)
      said t q e k = here (m e) refl
        where
          here : (x : Bool) → m e ≡ x → (x && listens e.channel) ≡ (x && t)
          here true y = heard-is e k y ∙ q
          here false y = refl

      go : (t : Bool) → b ≡ t → last_of (λ e. m e && listens e.channel) f d es ≡ cond t (last_of m f d es) d
      go true q =
          last-alike (λ e. m e && listens e.channel) f (λ e. not (m e) || agrees b (listens e.channel)) m f (λ e k. said true q e k ∙ and-on (m e)) (λ e k y. refl) d es h
      go false q =
          last_none (λ e. m e && listens e.channel) f d es
          (all-imply (λ e. not (m e) || agrees b (listens e.channel)) (λ e. not (m e && listens e.channel)) (λ e k. ap not (said false q e k ∙ and-off (m e))) es h)

-- ---- a value that is folded on the channel of the latest
module _ (listens : ℤ → Bool) (at : ℤ) (es : List Event) (b : Bool) (h : Alike listens (tells at) b es) where
  abbrev os : List Event
  os = heard es

  -- the channel of the latest is one of those that are told, if there is one
  pub channel-told : (all (λ e. not (tells at e)) es ≡ true) ⊎ (listens (channel_at at (heard es)) ≡ b)
  unfolding all
  channel-told = ⊎_elim (λ none_told. inl none_told) (λ k. inr (go k)) (some-counts (tells at) es)
    where
      go : Counts (tells at) es → listens (channel_at at os) ≡ b
      go k =
          let behind = all-last (λ e. not (tells at e) || agrees b (listens e.channel)) k.front (k.event ∷ k.behind) (rw k.splits at h) in
          let here = left (not (tells at k.event) || agrees b (listens k.event.channel)) (all (λ e. not (tells at e) || agrees b (listens e.channel)) k.behind) behind in
          ap listens (last-counts (tells at) (λ e. e.channel) (pos 0) es k) ∙ heard-is listens (tells at) b k.event here k.holds

  module _ (m : Event → Bool) (also : (e : Event) → m e ≡ true → tells at e ≡ true) (f : Event → ℤ) where
    alike : Alike listens m b os
    alike =
        all-imply (λ e. not (tells at e) || agrees b (listens e.channel)) (λ e. not (m e) || agrees b (listens e.channel)) (λ e. narrower (m e) (tells at e) (agrees b (listens e.channel)) (also e)) os
        (all-sort earlier (λ e. not (tells at e) || agrees b (listens e.channel)) es h)

    pub told-alike : cond (listens (channel_at at os)) (held (last_of m f unset os)) none ≡ last_of (λ e. m e && listens e.channel) (λ e. held (f e)) none os
    told-alike = ⊎_elim none_told (λ (q : listens (channel_at at os) ≡ b). rw q (sym shown)) channel-told
      where
        shown : last_of (λ e. m e && listens e.channel) (λ e. held (f e)) none os ≡ cond b (held (last_of m f unset os)) none
        shown = all-or-none listens m b (λ e. held (f e)) none os alike ∙ ap (λ (x : Option ℤ). cond b x none) (sym (last-map held m f unset os))

        none_told : all (λ e. not (tells at e)) es ≡ true → cond (listens (channel_at at os)) (held (last_of m f unset os)) none ≡ last_of (λ e. m e && listens e.channel) (λ e. held (f e)) none os
        none_told n =
            let gone = all-imply (λ e. not (tells at e)) (λ e. not (m e)) (λ e. contra (m e) (tells at e) (also e)) os (all-sort earlier (λ e. not (tells at e)) es n) in
            let unsaid : last_of m f unset os ≡ unset = last_none m f unset os gone in
            ap (λ (x : ℤ). cond (listens (channel_at at os)) (held x) none) unsaid ∙ nothing (listens (channel_at at os))
            ∙ sym (shown ∙ ap (λ (x : ℤ). cond b (held x) none) unsaid ∙ nothing b)

-- ---- what is folded, read as a player reads it
module _ (listens : ℤ → Bool) (at : ℤ) where
  -- one event on a channel, unless its value is unset
  one-read : (p : Event → Bool) (f : Event → Option ℤ) (e : Event) (v : ℤ) → p e ≡ listens e.channel → f e ≡ held v
      → last_of p f none (unless (lt_z v (pos 0)) e []) ≡ cond (listens e.channel) (held v) none
  one-read p f e v h k = go (lt_z v (pos 0)) refl
    where
      go : (b : Bool) → lt_z v (pos 0) ≡ b → last_of p f none (unless b e []) ≡ cond (listens e.channel) (held v) none
      go true q = rw q (sym (nothing (listens e.channel)))
      go false q = rw (h, k)

  -- the tests of a controller, in another order
  swap₄ : (k l n u : Bool) → (((k && u) && n) && l) ≡ (((k && l) && n) && u)
  swap₄ true true true u = and-on (u && true) ∙ and-on u
  swap₄ true true false u = and-on (u && false) ∙ and-off u
  swap₄ true false n u = and-off (u && n)
  swap₄ false l n u = refl

  swap₃ : (k l u : Bool) → ((k && u) && l) ≡ ((k && l) && u)
  swap₃ true true u = and-on u
  swap₃ true false u = and-off u
  swap₃ false l u = refl

  -- what is folded in its three parts, of which the controllers say nothing
  past-controls : (p : Event → Bool) (f : Event → Option ℤ) (os : List Event) → ((n : ℕ) (v : ℤ) → p (cc_event (pos 0) (channel_at at os) (pos n) v) ≡ false)
      → last_of p f none (folded (whole at) os) ≡ last_of p f (last_of p f none (program_on (program_at at os) (channel_at at os))) (bend_at at os)
  unfolding folded
  past-controls p f os h =
      let channel = channel_at at os in
      let C = controls_from (control_at at os) channel controllers 0 in
      let P = program_on (program_at at os) channel in
      last-append p f none C (P ++ bend_at at os)
      ∙ last-append p f (last_of p f none C) P (bend_at at os)
      ∙ ap (λ (d : Option ℤ). last_of p f (last_of p f d P) (bend_at at os))
      (last_none p f none C (all-controls (λ e. not (p e)) (control_at at os) channel (λ n k. ap not (h n (control_at at os n))) controllers 0))

  module _ (es : List Event) (b : Bool) where
    abbrev s : List Event
    s = heard es

    module _ (h : Alike listens (tells at) b es) where
      pub controls-inside : (n : ℕ) → n < controllers
          → controller_of (folded (whole at) (heard es)) listens n ≡ last_of (λ e. (says control_change listens e && eq_z e.v1 (pos n)) && lt_z e.time at) (λ e. held e.v2) none (heard es)
      unfolding folds
      controls-inside n m =
          let v = control_at at s n in
          let channel = channel_at at s in
          let p : Event → Bool = λ e. says control_change listens e && eq_z e.v1 (pos n) in
          let others : Event → Bool = λ e. not (eq_z e.kind control_change && eq_z e.v1 (pos n)) in
          let f : Event → Option ℤ = λ e. held e.v2 in
          sym (last-unsaid p f others (λ e k. asked (eq_z e.kind control_change) (listens e.channel) (eq_z e.v1 (pos n)) k) none (folded (whole at) s))
          ∙ ap (last_of p f none) (one-controller (whole at) s n m)
          ∙ one-read p f (cc_event (pos 0) channel (pos n) v) v (rw (eq_z-refl (pos n)) (and-on (listens channel))) refl
          ∙ told-alike listens at es b h (controls at n) (λ e k. rw (left (folds control_change at e) (eq_z e.v1 (pos n)) k) (or-on (folds voice at e))) (λ e. e.v2)
          ∙ last-same (λ e. controls at n e && listens e.channel) f (λ e. (says control_change listens e && eq_z e.v1 (pos n)) && lt_z e.time at)
          (λ e. swap₄ (eq_z e.kind control_change) (listens e.channel) (eq_z e.v1 (pos n)) (lt_z e.time at)) none s
        where
          asked : (k l x : Bool) → ((k && l) && x) ≡ true → not (k && x) ≡ false
          asked true true x q = ap not q
          asked true false x q = absurd (true≢false (sym q))
          asked false l x q = absurd (true≢false (sym q))

      pub program-inside : program_of (folded (whole at) (heard es)) listens ≡ last_of (λ e. says voice listens e && lt_z e.time at) (λ e. held e.v1) none (heard es)
      unfolding folds
      program-inside =
          let channel = channel_at at s in
          let p = says voice listens in
          let f : Event → Option ℤ = λ e. held e.v1 in
          past-controls p f s (λ n v. refl)
          ∙ last_none p f (last_of p f none (program_on (program_at at s) channel)) (bend_at at s) (bend-by-kind (λ e. not (says voice listens e)) at s (λ e k. rw k))
          ∙ one-read p f (voice_event (pos 0) channel (program_at at s)) (program_at at s) refl refl
          ∙ told-alike listens at es b h (folds voice at) (λ e k. rw k) (λ e. e.v1)
          ∙ last-same (λ e. folds voice at e && listens e.channel) f (λ e. says voice listens e && lt_z e.time at)
          (λ e. swap₃ (eq_z e.kind voice) (listens e.channel) (lt_z e.time at)) none s

    pub bend-inside : Alike listens (folds pitch_bend at) b es
        → bend_of (folded (whole at) (heard es)) listens ≡ last_of (λ e. says pitch_bend listens e && lt_z e.time at) (λ e. some e.v1) none (heard es)
    unfolding folds
    bend-inside h =
        let channel = channel_at at s in
        let p = says pitch_bend listens in
        let f : Event → Option ℤ = λ e. some e.v1 in
        past-controls p f s (λ n v. refl)
        ∙ ap (λ (d : Option ℤ). last_of p f d (bend_at at s))
        (last_none p f none (program_on (program_at at s) channel) (all-program (λ e. not (says pitch_bend listens e)) (program_at at s) channel (λ k. refl)))
        ∙ last-map (last_of p f none) (folds pitch_bend at) (λ e. with_time (pos 0) e ∷ []) [] s
        ∙ read_alike
      where
        alike : Alike listens (folds pitch_bend at) b s
        alike = all-sort earlier (λ e. not (folds pitch_bend at e) || agrees b (listens e.channel)) es h

        -- the bend at time 0, as it is read
        reads : Event → Option ℤ
        reads e = last_of (says pitch_bend listens) (λ x. some x.v1) none (with_time (pos 0) e ∷ [])

        read_is : (e : Event) → folds pitch_bend at e ≡ true → reads e ≡ cond (listens e.channel) (some e.v1) none
        read_is e k = rw (folds-kind pitch_bend at e k)

        read_alike : last_of (folds pitch_bend at) reads none s ≡ last_of (λ e. says pitch_bend listens e && lt_z e.time at) (λ e. some e.v1) none s
        read_alike =
            let f : Event → Option ℤ = λ e. some e.v1 in
            let chosen : Event → Option ℤ = λ e. cond b (some e.v1) none in
            last-alike (folds pitch_bend at) reads (λ e. not (folds pitch_bend at e) || agrees b (listens e.channel)) (folds pitch_bend at) chosen (λ e k. refl)
            (λ e k y. read_is e y ∙ ap (λ (x : Bool). cond x (some e.v1) none) (heard-is listens (folds pitch_bend at) b e k y)) none s alike
            ∙ sym (ap (λ (d : Option ℤ). last_of (folds pitch_bend at) chosen d s) (nothing b))
            ∙ sym (last-map (λ (x : Option ℤ). cond b x none) (folds pitch_bend at) f none s)
            ∙ sym (all-or-none listens (folds pitch_bend at) b f none s alike)
            ∙ last-same (λ e. folds pitch_bend at e && listens e.channel) f (λ e. says pitch_bend listens e && lt_z e.time at)
            (λ e. swap₃ (eq_z e.kind pitch_bend) (listens e.channel) (lt_z e.time at)) none s
