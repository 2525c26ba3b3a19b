-- The theorem of the trade: a passage that is cut out plays as it plays in the song. The cut is the full one, `full_cut`.
--     plays-as-in-the-song   what a player of one channel has at t in the passage it has at the cut's time and t in the song, where what is
--                            folded comes of one channel; a list of one channel is such a one (`one-channel`)
--     every-list             what a player of all channels has, of every list
--     comes-as-in-the-song, comes-in-every-list   when the passage comes to an event, the player has what it had when the song came to it,
--                            which tells events of one time apart
-- In proofs/Calls.antt they stand of the call.
use mathlib.Core.Bool.{Bool, true, false, not, ◌&&◌, ◌||◌}
use mathlib.Core.Path.{◌≡◌, refl, sym, ap, ap₂, ◌∙◌}
use mathlib.Core.List.{List, [], ◌∷◌, ◌++◌, map}
use mathlib.Core.Logic.{⊎_elim}
use mathlib.Core.Option.{Option, none, some}
use Prim.Native.Nat.{ℕ, zero, suc, ◌+◌, ◌<◌}
use native.Mathlib.Omega.{arith}
use borrow.Author.Tests.{not-true}
use lib.IntN.{ℤ, pos, ◌+ℤ◌}
use lib.Signed.{lt_z, le_z}
use Rattle.laws.specs.Integers.{eq_z}
use Rattle.laws.specs.Lists.{all, without}
use Rattle.laws.proofs.Bits.{eq_z-true}
use Rattle.laws.proofs.Bools.{which, or-on, narrower}
use Rattle.laws.proofs.Every.{all-imply}
use Rattle.laws.proofs.Order.{lt_z-asym, le_is, le_not_lt, nle-lt, nlt-le, le_lt_trans, nlt_z-trans, not-less}
use Rattle.laws.proofs.Parts.{all_left}
use Rattle.laws.proofs.Ranges.{left}
use Rattle.events.specs.declared.Event.{Event}
use Rattle.events.specs.Kinds.{control_change, pitch_bend, voice}
use Rattle.sorting.specs.Stable.{Least}
use Rattle.sorting.specs.Sorting.{earlier}
use Rattle.sorting.proofs.Promises.{never-falls}
use Rattle.sorting.proofs.Thinning.{sorted-last, low_first, all-high}
use Rattle.cutting.specs.Cuts.{controllers, folds, tells, folded, whole, cut_of}
use Rattle.cutting.proofs.Folding.{folds-kind}
use Rattle.cutting.proofs.Lasts.{last-unsaid}
use Rattle.passage.specs.Player.{heard, played_by, held, on, anywhere, says, controller_of, program_of, bend_of, up_from, State, has, state}
use Rattle.passage.specs.Passage.{sounds, from_cut, FromOne}
use Rattle.passage.proofs.Beyond.{beyond}
use Rattle.passage.proofs.Played.{played-by}
use Rattle.passage.proofs.Told.{agrees, Alike, Listens, controls-inside, program-inside, bend-inside}

-- ---- what a player has, by what it is made of
each-alike : (f g : ℕ → Option ℤ) (k n : ℕ) → ((i : ℕ) → i < n + k → f i ≡ g i) → map f (up_from k n) ≡ map g (up_from k n)
each-alike f g zero n q = refl
each-alike f g (suc k) n q =
    ap₂ (λ (x : Option ℤ) (l : List (Option ℤ)). x ∷ l) (q n (omega arith)) (each-alike f g k (suc n) (λ i m. q i (omega arith)))

pub has-alike : (a b : List Event) (listens : ℤ → Bool) → ((n : ℕ) → n < controllers → controller_of a listens n ≡ controller_of b listens n)
    → program_of a listens ≡ program_of b listens → bend_of a listens ≡ bend_of b listens → has a listens ≡ has b listens
unfolding has
has-alike a b listens c p d = rw (each-alike (controller_of a listens) (controller_of b listens) controllers 0 (λ i m. c i (omega arith)), p, d)

-- and back: one controller of it
pub controller-of : (a b : List Event) (listens : ℤ → Bool) → has a listens ≡ has b listens → (n : ℕ) → n < controllers → controller_of a listens n ≡ controller_of b listens n
unfolding has
controller-of a b listens h n m =
    let z : 0 + n ≡ n = omega arith in
    rw z at (read controllers 0 n (controller_of a listens) (controller_of b listens) m (ap (λ (s : State). s.controls) h))
  where
    first : Option ℤ → List (Option ℤ) → Option ℤ
    first d [] = d
    first d (x ∷ l) = x

    rest : List (Option ℤ) → List (Option ℤ)
    rest [] = []
    rest (x ∷ l) = l

    read : (k i j : ℕ) (f g : ℕ → Option ℤ) → j < k → map f (up_from k i) ≡ map g (up_from k i) → f (i + j) ≡ g (i + j)
    read zero i j f g m q = absurd (omega arith)
    read (suc k) i zero f g m q = let z : i + 0 ≡ i = omega arith in rw z (ap (first none) q)
    read (suc k) i (suc j) f g m q = let z : i + suc j ≡ suc i + j = omega arith in rw z (read k (suc i) j f g (omega arith) (ap rest q))

-- an event that says something to a player sounds
of-kind : (listens : ℤ → Bool) (k : ℤ) → ((e : Event) → e.kind ≡ k → sounds e ≡ true) → (e : Event) → says k listens e ≡ true → sounds e ≡ true
of-kind listens k y e q = y e (eq_z-true e.kind k (left (eq_z e.kind k) (listens e.channel) q))

controls-sound : (e : Event) → e.kind ≡ control_change → sounds e ≡ true
unfolding sounds
controls-sound e q = rw q

programs-sound : (e : Event) → e.kind ≡ voice → sounds e ≡ true
unfolding sounds
programs-sound e q = rw q

bends-sound : (e : Event) → e.kind ≡ pitch_bend → sounds e ≡ true
unfolding sounds
bends-sound e q = rw q

module _ (listens : ℤ → Bool) where
  control-sounds : (n : ℕ) (e : Event) → (says control_change listens e && eq_z e.v1 (pos n)) ≡ true → sounds e ≡ true
  control-sounds n e q = of-kind listens control_change controls-sound e (left (says control_change listens e) (eq_z e.v1 (pos n)) q)

  -- what is left out and does not sound is not missed
  pub has-without : (out : Event → Bool) → ((e : Event) → sounds e ≡ true → out e ≡ false) → (es : List Event) → has (without out es) listens ≡ has es listens
  has-without out h es =
      has-alike (without out es) es listens
      (λ n m. last-unsaid (λ e. says control_change listens e && eq_z e.v1 (pos n)) (λ e. held e.v2) out (λ e q. h e (control-sounds n e q)) none es)
      (last-unsaid (says voice listens) (λ e. held e.v1) out (λ e q. h e (of-kind listens voice programs-sound e q)) none es)
      (last-unsaid (says pitch_bend listens) (λ e. some e.v1) out (λ e q. h e (of-kind listens pitch_bend bends-sound e q)) none es)

  -- ---- song and passage
  module _ (at : ℤ) (es : List Event) (h : Listens listens at es) where
    -- after what was folded, and what the song played from the cut on
    pub goes_on : (a b : List Event) → heard es ≡ a ++ b → all (λ e. le_z at e.time) b ≡ true → has (folded (whole at) (heard es) ++ from_cut at a) listens ≡ has a listens
    goes_on a b split late =
        has-alike (folded (whole at) (heard es) ++ from_cut at a) a listens
        (λ n m. beyond (λ e. says control_change listens e && eq_z e.v1 (pos n)) (λ e. held e.v2) at (control-sounds n) (λ u e. refl) (λ u e. refl) none es
        (controls-inside listens at es h.told h.all_told n m) a b split late)
        (beyond (says voice listens) (λ e. held e.v1) at (of-kind listens voice programs-sound) (λ u e. refl) (λ u e. refl) none es
        (program-inside listens at es h.told h.all_told) a b split late)
        (beyond (says pitch_bend listens) (λ e. some e.v1) at (of-kind listens pitch_bend bends-sound) (λ u e. refl) (λ u e. refl) none es
        (bend-inside listens at es h.bent h.all-bent) a b split late)

    -- at t
    pub alike : (t : ℤ) → le_z (pos 0) t ≡ true → state (cut_of (whole at) es) listens t ≡ state es listens (at +ℤ t)
    alike t from =
        sym (has-without (λ e. not (sounds e)) (λ e q. ap not q) (played_by t (cut_of (whole at) es)))
        ∙ ap (λ (l : List Event). has l listens) (played-by at t from es)
        ∙ goes_on (played_by (at +ℤ t) es) later split late
      where
        -- what the song plays after that
        later : List Event
        later = without (λ e. le_z e.time (at +ℤ t)) (heard es)

        down : (x y : Event) → earlier y x ≡ false → le_z y.time (at +ℤ t) ≡ true → le_z x.time (at +ℤ t) ≡ true
        down x y q k = nlt-le (at +ℤ t) x.time (nlt_z-trans x.time y.time (at +ℤ t) q (le_not_lt y.time (at +ℤ t) k))

        split : heard es ≡ played_by (at +ℤ t) es ++ later
        split = low_first earlier (λ e. le_z e.time (at +ℤ t)) down (heard es) (never-falls es)

        behind : (e : Event) → not (le_z e.time (at +ℤ t)) ≡ true → le_z at e.time ≡ true
        behind e q =
            let k = nle-lt e.time (at +ℤ t) (not-true (le_z e.time (at +ℤ t)) q) in
            nlt-le e.time at (nlt_z-trans at (at +ℤ t) e.time (le_not_lt at (at +ℤ t) (not-less at t from)) (lt_z-asym (at +ℤ t) e.time k))

        late : all (λ e. le_z at e.time) later ≡ true
        late = all-imply (λ e. not (le_z e.time (at +ℤ t))) (λ e. le_z at e.time) behind later (all_left (λ e. le_z e.time (at +ℤ t)) (heard es))

    -- at an event that the song plays at or after the cut
    pub comes : (a b : List Event) (e : Event) → heard es ≡ a ++ (e ∷ b) → le_z at e.time ≡ true → has (folded (whole at) (heard es) ++ from_cut at a) listens ≡ has a listens
    unfolding all
    comes a b e split late = goes_on a (e ∷ b) split (rw late (behind (sorted-last earlier a (e ∷ b) (rw split at (never-falls es))).0))
      where
        behind : Least earlier e b → all (λ x. le_z at x.time) b ≡ true
        behind k =
            all-imply (λ (x : Event). not (lt_z x.time at)) (λ x. le_z at x.time) (λ x q. le_is at x.time ∙ q) b
            (all-high earlier (λ x. lt_z x.time at) (λ x y m q. le_lt_trans x.time y.time at (nlt-le y.time x.time m) q) e b (le_not_lt at e.time late) k)

-- ---- what is folded comes of one channel
module _ (at : ℤ) (es : List Event) where
  on_alike : (j : ℤ) (m : Event → Bool) (channel : ℤ) → all (λ e. not (m e) || eq_z e.channel channel) es ≡ true → Alike (on j) m (eq_z channel j) es
  on_alike j m channel h =
      all-imply (λ e. not (m e) || eq_z e.channel channel) (λ e. not (m e) || agrees (eq_z channel j) (eq_z e.channel j)) (λ e. go e (m e)) es h
    where
      itself : (b : Bool) → agrees b b ≡ true
      itself true = refl
      itself false = refl

      go : (e : Event) (b : Bool) → (not b || eq_z e.channel channel) ≡ true → (not b || agrees (eq_z channel j) (eq_z e.channel j)) ≡ true
      go e true q = rw (eq_z-true e.channel channel q) (itself (eq_z channel j))
      go e false q = refl

  pub from_one : FromOne at es → (j : ℤ) → Listens (on j) at es
  from_one h j =
      record {
        told = eq_z h.told j;
        bent = eq_z h.bent j;
        all_told = on_alike j (tells at) h.told h.all_told;
        all-bent = on_alike j (folds pitch_bend at) h.bent h.all-bent;
      }

  -- notes, controllers, programs and bends are all on channel j
  pub one-channel : (j : ℤ) → all (λ e. not (sounds e) || eq_z e.channel j) es ≡ true → FromOne at es
  one-channel j h =
      record {
        told = j;
        bent = j;
        all_told = all-imply (λ e. not (sounds e) || eq_z e.channel j) (λ e. not (tells at e) || eq_z e.channel j)
            (λ e. narrower (tells at e) (sounds e) (eq_z e.channel j) (told-sounds e)) es h;
        all-bent = all-imply (λ e. not (sounds e) || eq_z e.channel j) (λ e. not (folds pitch_bend at e) || eq_z e.channel j)
            (λ e. narrower (folds pitch_bend at e) (sounds e) (eq_z e.channel j) (λ q. bends-sound e (folds-kind pitch_bend at e q))) es h;
      }
    where
      told-sounds : (e : Event) → tells at e ≡ true → sounds e ≡ true
      told-sounds e q =
          ⊎_elim
          (λ (k : folds voice at e ≡ true). programs-sound e (folds-kind voice at e k))
          (λ (k : folds voice at e ≡ false). controls-sound e (folds-kind control_change at e (rw k at q)))
          (which (folds voice at e))

  any-alike : (m : Event → Bool) (l : List Event) → Alike anywhere m true l
  unfolding all
  any-alike m [] = refl
  any-alike m (e ∷ l) = rw (or-on (not (m e))) (any-alike m l)

  from-any : Listens anywhere at es
  from-any = record { told = true; bent = true; all_told = any-alike (tells at) es; all-bent = any-alike (folds pitch_bend at) es }

  -- ---- the theorem
  pub plays-as-in-the-song : FromOne at es → (j t : ℤ) → le_z (pos 0) t ≡ true → state (cut_of (whole at) es) (on j) t ≡ state es (on j) (at +ℤ t)
  plays-as-in-the-song h j t from = alike (on j) at es (from_one h j) t from

  pub every-list : (t : ℤ) → le_z (pos 0) t ≡ true → state (cut_of (whole at) es) anywhere t ≡ state es anywhere (at +ℤ t)
  every-list t from = alike anywhere at es from-any t from

  -- the song has played a when it comes to e, the passage what was folded and what sounds of a from the cut on (`played-around`)
  module _ (a b : List Event) (e : Event) (split : heard es ≡ a ++ (e ∷ b)) (late : le_z at e.time ≡ true) where
    pub comes-as-in-the-song : FromOne at es → (j : ℤ) → has (folded (whole at) (heard es) ++ from_cut at a) (on j) ≡ has a (on j)
    comes-as-in-the-song h j = comes (on j) at es (from_one h j) a b e split late

    pub comes-in-every-list : has (folded (whole at) (heard es) ++ from_cut at a) anywhere ≡ has a anywhere
    comes-in-every-list = comes anywhere at es from-any a b e split late
