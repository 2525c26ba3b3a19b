-- What a customer leans on in a cut, plain or full.
--     controller-folded, program-folded   what stood at a value before the cut is there at time 0 with it, in both cuts
--     one-controller      and no second event of that controller is folded
--     controller-latest, program-latest, bend-latest   in the full cut what stood is what the latest event before the cut says
--     controller-tells, program-tells   and its channel is that of an event that counts
--     nothing-folded      a cut with no event before it keeps what it keeps, shifted, and adds nothing
--     as-formerly, falling-differs   the full cut of a list that never falls in time is the one that goes by list order (01, before 02, a); of one that falls it may differ
--     sort-first          what is folded is the same of the sorted list
use mathlib.Core.Path.{◌≡◌, refl, ap, ap₂, ◌∙◌, subst}
use mathlib.Core.Bool.{Bool, true, false, cond, not, ◌&&◌}
use mathlib.Core.List.Memᴰ
use mathlib.Core.List.{List, [], ◌∷◌, ◌++◌, append-nil, Memᴰ}
use Prim.Native.Nat.{ℕ, zero, suc, ◌+◌, ◌<◌}
use native.Mathlib.Omega.{arith}
use borrow.Author.Tests.{eq-eqb, ne_eqb}
use lib.Dec.{eqb}
use lib.IntN.{ℤ, pos}
use lib.ListN.{length}
use lib.Signed.{lt_z, le_z}
use Rattle.laws.specs.Integers.{eq_z}
use Rattle.laws.specs.Lists.{all, unless, without, put_first}
use Rattle.laws.specs.Rows.{flat}
use Rattle.laws.proofs.Bools.{and-off, or-on}
use Rattle.laws.proofs.Every.{all-imply}
use Rattle.laws.proofs.Order.{le_not_lt}
use Rattle.laws.proofs.Parts.{without-append}
use Rattle.laws.proofs.Ranges.{left}
use Rattle.events.specs.declared.Event.{Event}
use Rattle.events.specs.Events.{zero_event, cc_event, voice_event}
use Rattle.events.specs.Kinds.{control_change, pitch_bend, voice}
use Rattle.eventlist.specs.declared.Taken.{Taken}
use Rattle.eventlist.specs.Rows.{numbers_of, rows_of, events_of}
use Rattle.sorting.specs.Stable.{stable_sort, rising}
use Rattle.sorting.specs.Sorting.{earlier}
use Rattle.sorting.proofs.Promises.{never-falls, stays, in_order_lem}
use Rattle.sorting.proofs.Sound.{all-sort}
use Rattle.cutting.specs.declared.Cut.{Cut}
use Rattle.cutting.specs.Choice.{last_of}
use Rattle.cutting.specs.Counting.{Counts, former_cut}
use Rattle.cutting.specs.Cuts.{controllers, unset, with_time, folds, controls, tells, control_at, program_at, channel_at, bend_at, controls_from, program_on, in_order, folded, keeps, shifted, kept_of, whole, cut_of, cut_refusal, cut_taken, cut_left}
use Rattle.cutting.proofs.Counting.{last-counts, counts-also}
use Rattle.cutting.proofs.Folding.{folds-kind}
use Rattle.cutting.proofs.Lasts.{last_none}
use Rattle.cutting.proofs.Putting.{controls-same}

-- what is folded is in the cut
folded-in : (c : Cut) (es : List Event) {e : Event} → Memᴰ e (folded c (in_order c es)) → Memᴰ e (cut_of c es)
unfolding cut_of
folded-in c es {e} m = go c.full
  where
    go : (t : Bool) → Memᴰ e (cond t (folded c (in_order c es) ++ kept_of c es) (kept_of c es ++ folded c (in_order c es)))
    go true = Memᴰ.append_left (kept_of c es) m
    go false = Memᴰ.append_right (kept_of c es) m

later : {e : Event} (t : Bool) (x : Event) (l : List Event) → Memᴰ e l → Memᴰ e (unless t x l)
later true x l m = m
later false x l m = Memᴰ.tail m

-- controller n + j of those from n on
set-in : (value : ℕ → ℤ) (channel : ℤ) (k n j : ℕ) → j < k → lt_z (value (n + j)) (pos 0) ≡ false
    → Memᴰ (cc_event (pos 0) channel (pos (n + j)) (value (n + j))) (controls_from value channel k n)
unfolding controls_from
set-in value channel zero n j h y = absurd (omega arith)
set-in value channel (suc k) n zero h y =
    let q : n + 0 ≡ n = omega arith in
    let y' : lt_z (value n) (pos 0) ≡ false = rw q at y in
    rw (q, y') (Memᴰ.head refl)
set-in value channel (suc k) n (suc j) h y =
    let q : n + suc j ≡ suc n + j = omega arith in
    let y' : lt_z (value (suc n + j)) (pos 0) ≡ false = rw q at y in
    rw q (later (lt_z (value n) (pos 0)) (cc_event (pos 0) channel (pos n) (value n)) (controls_from value channel k (suc n)) (set-in value channel k (suc n) j (omega arith) y'))

-- ---- what is folded, of events in the order in which they count
module _ (c : Cut) (es : List Event) where
  abbrev os : List Event
  os = in_order c es

  pub controller-folded : (n : ℕ) → n < controllers → lt_z (control_at c.at (in_order c es) n) (pos 0) ≡ false
      → Memᴰ (cc_event (pos 0) (channel_at c.at (in_order c es)) (pos n) (control_at c.at (in_order c es) n)) (cut_of c es)
  unfolding folded
  controller-folded n h y =
      let q : 0 + n ≡ n = omega arith in
      folded-in c es
      (Memᴰ.append_left (program_on (program_at c.at os) (channel_at c.at os) ++ cond c.full (bend_at c.at os) [])
      (subst (λ (m : ℕ). Memᴰ (cc_event (pos 0) (channel_at c.at os) (pos m) (control_at c.at os m)) (controls_from (control_at c.at os) (channel_at c.at os) controllers 0)) q
      (set-in (control_at c.at os) (channel_at c.at os) controllers 0 n h (rw q y))))

  pub program-folded : lt_z (program_at c.at (in_order c es)) (pos 0) ≡ false
      → Memᴰ (voice_event (pos 0) (channel_at c.at (in_order c es)) (program_at c.at (in_order c es))) (cut_of c es)
  unfolding folded
  program-folded y =
      folded-in c es
      (Memᴰ.append_right (controls_from (control_at c.at os) (channel_at c.at os) controllers 0)
      (Memᴰ.append_left {s = program_on (program_at c.at os) (channel_at c.at os)} (cond c.full (bend_at c.at os) []) (rw y (Memᴰ.head refl))))

-- ---- one event of each controller
-- what is left of a list is what says something of controller n
abbrev others : ℕ → Event → Bool
others n e = not (eq_z e.kind control_change && eq_z e.v1 (pos n))

module _ (value : ℕ → ℤ) (channel : ℤ) (n : ℕ) where
  other-gone : (m : ℕ) (l : List Event) → eqb m n ≡ false → without (others n) (unless (lt_z (value m) (pos 0)) (cc_event (pos 0) channel (pos m) (value m)) l) ≡ without (others n) l
  other-gone m l e = go (lt_z (value m) (pos 0))
    where
      go : (t : Bool) → without (others n) (unless t (cc_event (pos 0) channel (pos m) (value m)) l) ≡ without (others n) l
      go true = refl
      go false = rw e

  none-past : (k m : ℕ) → n < m → without (others n) (controls_from value channel k m) ≡ []
  unfolding controls_from
  none-past zero m h = refl
  none-past (suc k) m h = other-gone m (controls_from value channel k (suc m)) (ne_eqb m n (λ (w : m ≡ n). omega arith)) ∙ none-past k (suc m) (omega arith)

  one_from : (k j m : ℕ) → m + j ≡ n → j < k → without (others n) (controls_from value channel k m) ≡ unless (lt_z (value n) (pos 0)) (cc_event (pos 0) channel (pos n) (value n)) []
  unfolding controls_from
  one_from zero j m q h = absurd (omega arith)
  one_from (suc k) zero m q h =
      let here : m ≡ n = omega arith in
      rw here (go (lt_z (value n) (pos 0)))
    where
      go : (t : Bool) → without (others n) (unless t (cc_event (pos 0) channel (pos n) (value n)) (controls_from value channel k (suc n))) ≡ unless t (cc_event (pos 0) channel (pos n) (value n)) []
      go true = none-past k (suc n) (omega arith)
      go false = rw (eq-eqb n n refl, none-past k (suc n) (omega arith))
  one_from (suc k) (suc j) m q h =
      other-gone m (controls_from value channel k (suc m)) (ne_eqb m n (λ (w : m ≡ n). omega arith)) ∙ one_from k j (suc m) (omega arith) (omega arith)

no_program_lem : (n : ℕ) (program channel : ℤ) → without (others n) (program_on program channel) ≡ []
no_program_lem n program channel = go (lt_z program (pos 0))
  where
    go : (t : Bool) → without (others n) (unless t (voice_event (pos 0) channel program) []) ≡ []
    go true = refl
    go false = refl

no-bend : (n : ℕ) (at : ℤ) (es d : List Event) → without (others n) d ≡ [] → without (others n) (last_of (folds pitch_bend at) (λ e. with_time (pos 0) e ∷ []) d es) ≡ []
no-bend n at [] d h = h
no-bend n at (e ∷ es) d h = no-bend n at es (cond (folds pitch_bend at e) (with_time (pos 0) e ∷ []) d) (go (folds pitch_bend at e) refl)
  where
    go : (t : Bool) → folds pitch_bend at e ≡ t → without (others n) (cond t (with_time (pos 0) e ∷ []) d) ≡ []
    go true f = rw (folds-kind pitch_bend at e f)
    go false f = h

pub one-controller : (c : Cut) (es : List Event) (n : ℕ) → n < controllers
    → without (others n) (folded c es) ≡ unless (lt_z (control_at c.at es n) (pos 0)) (cc_event (pos 0) (channel_at c.at es) (pos n) (control_at c.at es n)) []
unfolding folded
one-controller c es n h =
    let C = controls_from (control_at c.at es) (channel_at c.at es) controllers 0 in
    let P = program_on (program_at c.at es) (channel_at c.at es) in
    let B = cond c.full (bend_at c.at es) [] in
    without-append (others n) C (P ++ B)
    ∙ ap₂ (λ (x y : List Event). x ++ y) (one_from (control_at c.at es) (channel_at c.at es) n controllers n 0 (omega arith) h)
    (without-append (others n) P B ∙ ap₂ (λ (x y : List Event). x ++ y) (no_program_lem n (program_at c.at es) (channel_at c.at es)) (go c.full))
    ∙ append-nil (unless (lt_z (control_at c.at es n) (pos 0)) (cc_event (pos 0) (channel_at c.at es) (pos n) (control_at c.at es n)) [])
  where
    go : (t : Bool) → without (others n) (cond t (bend_at c.at es) []) ≡ []
    go true = no-bend n c.at es [] refl
    go false = refl

-- ---- by time: what counts in the full cut (02, a)
module _ (at : ℤ) (es : List Event) where
  -- where a controller or a program counts, so does an event that gives the channel
  pub controller-tells : (n : ℕ) → Counts (controls at n) es → Counts (tells at) es
  controller-tells n =
      counts-also (controls at n) (tells at) (λ e h. rw (left (folds control_change at e) (eq_z e.v1 (pos n)) h, or-on)) es

  pub program-tells : Counts (folds voice at) es → Counts (tells at) es
  program-tells = counts-also (folds voice at) (tells at) (λ e h. rw h) es

  channel-is : (j : Counts (tells at) es) → channel_at at (stable_sort earlier es) ≡ j.event.channel
  channel-is j = last-counts (tells at) (λ e. e.channel) (pos 0) es j

  -- a controller's latest value, where it is not negative, on the channel of the latest controller or program
  pub controller-latest : (n : ℕ) → n < controllers → (k : Counts (controls at n) es) (j : Counts (tells at) es) → lt_z k.event.v2 (pos 0) ≡ false
      → Memᴰ (cc_event (pos 0) j.event.channel (pos n) k.event.v2) (cut_of (whole at) es)
  controller-latest n h k j y =
      let v = last-counts (controls at n) (λ e. e.v2) unset es k in
      subst (λ (x : ℤ). Memᴰ (cc_event (pos 0) x (pos n) k.event.v2) (cut_of (whole at) es)) (channel-is j)
      (subst (λ (x : ℤ). Memᴰ (cc_event (pos 0) (channel_at at (stable_sort earlier es)) (pos n) x) (cut_of (whole at) es)) v
      (controller-folded (whole at) es n h (rw v y)))

  -- a negative one unsets: no event of the controller is folded
  pub controller-unset : (n : ℕ) → n < controllers → (k : Counts (controls at n) es) → lt_z k.event.v2 (pos 0) ≡ true → without (others n) (folded (whole at) (stable_sort earlier es)) ≡ []
  controller-unset n h k y = one-controller (whole at) (stable_sort earlier es) n h ∙ rw (last-counts (controls at n) (λ e. e.v2) unset es k, y)

  pub program-latest : (k : Counts (folds voice at) es) (j : Counts (tells at) es) → lt_z k.event.v1 (pos 0) ≡ false
      → Memᴰ (voice_event (pos 0) j.event.channel k.event.v1) (cut_of (whole at) es)
  program-latest k j y =
      let v = last-counts (folds voice at) (λ e. e.v1) unset es k in
      subst (λ (x : ℤ). Memᴰ (voice_event (pos 0) x k.event.v1) (cut_of (whole at) es)) (channel-is j)
      (subst (λ (x : ℤ). Memᴰ (voice_event (pos 0) (channel_at at (stable_sort earlier es)) x) (cut_of (whole at) es)) v
      (program-folded (whole at) es (rw v y)))

  -- the latest bend, whatever its value, on its own channel
  pub bend-latest : (k : Counts (folds pitch_bend at) es) → Memᴰ (with_time (pos 0) k.event) (cut_of (whole at) es)
  unfolding folded
  bend-latest k =
      let s = stable_sort earlier es in
      folded-in (whole at) es
      (Memᴰ.append_right (controls_from (control_at at s) (channel_at at s) controllers 0)
      (Memᴰ.append_right (program_on (program_at at s) (channel_at at s))
      (rw (last-counts (folds pitch_bend at) (λ x. with_time (pos 0) x ∷ []) [] es k) (Memᴰ.head refl))))

-- ---- what did not change
-- a list that never falls in time
pub as-formerly : (at : ℤ) (es : List Event) → rising earlier es ≡ true → cut_of (whole at) es ≡ former_cut at es
unfolding cut_of
as-formerly at es h = ap (λ (l : List Event). folded (whole at) l ++ kept_of (whole at) es) (in_order_lem es h)

-- of the call: its answer and every number of the list
module _ (store : ℕ) (l : List ℤ) (count : ℕ) (at : ℤ) (y : cut_refusal store l count (whole at) ≡ 0) (h : rising earlier (events_of l count) ≡ true) where
  pub call-as-formerly : (◌≡◌ {A = Taken} (cut_taken store l count (whole at)) (record { code = 0; count = length (former_cut at (events_of l count)) }))
      × (cut_left store l count (whole at) ≡ flat numbers_of (put_first zero_event count (former_cut at (events_of l count)) (rows_of l)))
  call-as-formerly = let q = as-formerly at (events_of l count) h in (rw (y, q), rw (y, q))

-- of one that falls the two may differ: CC7=100 at 5, then CC7=90 at 0, cut at 10
abbrev volume : ℕ → ℕ → Event
volume time value = cc_event (pos time) (pos 0) (pos 7) (pos value)

pub falling-differs : (cut_of (whole (pos 10)) (volume 5 100 ∷ volume 0 90 ∷ []) ≡ volume 0 100 ∷ []) × (former_cut (pos 10) (volume 5 100 ∷ volume 0 90 ∷ []) ≡ volume 0 90 ∷ [])
unfolding cut_of folded controls_from keeps shifted folds
falling-differs = (refl, refl)

-- what is folded before a list is sorted is what is folded after it
pub sort-first : (at : ℤ) (es : List Event) → folded (whole at) (in_order (whole at) (stable_sort earlier es)) ≡ folded (whole at) (in_order (whole at) es)
sort-first at es = ap (folded (whole at)) (stays (stable_sort earlier es) (never-falls es))

neither : (t : Bool) → cond {A = List Event} t [] [] ≡ []
neither true = refl
neither false = refl

-- ---- no event stands before the cut
module _ (c : Cut) (es : List Event) (from : all (λ e. le_z c.at e.time) es ≡ true) where
  never : (kind : ℤ) (e : Event) → le_z c.at e.time ≡ true → folds kind c.at e ≡ false
  unfolding folds
  never kind e h = rw (le_not_lt c.at e.time h, and-off)

  none : {A : Type 0} (p : Event → Bool) (f : Event → A) (d : A) → ((e : Event) → le_z c.at e.time ≡ true → p e ≡ false) → last_of p f d es ≡ d
  none p f d q = last_none p f d es (all-imply (λ e. le_z c.at e.time) (λ e. not (p e)) (λ e h. ap not (q e h)) es from)

  no-controls : (channel : ℤ) (k n : ℕ) → controls_from (λ m. unset) channel k n ≡ []
  unfolding controls_from
  no-controls channel zero n = refl
  no-controls channel (suc k) n = no-controls channel k (suc n)

  none-folded : folded c es ≡ []
  unfolding folded
  none-folded =
      let channel = channel_at c.at es in
      let controls : controls_from (control_at c.at es) channel controllers 0 ≡ [] =
      controls-same (control_at c.at es) (λ n. unset) channel controllers 0
      (λ n h. none (λ e. folds control_change c.at e && eq_z e.v1 (pos n)) (λ e. e.v2) unset (λ e q. rw (never control_change e q)))
      ∙ no-controls channel controllers 0 in
      let program : program_on (program_at c.at es) channel ≡ [] = ap (λ (z : ℤ). program_on z channel) (none (folds voice c.at) (λ e. e.v1) unset (never voice)) in
      let bend : cond c.full (bend_at c.at es) [] ≡ [] =
      ap (λ (l : List Event). cond c.full l []) (none (folds pitch_bend c.at) (λ e. with_time (pos 0) e ∷ []) [] (never pitch_bend)) ∙ neither c.full in
      ap₂ (λ (x y : List Event). x ++ y) controls (ap₂ (λ (x y : List Event). x ++ y) program bend)

pub nothing-folded : (c : Cut) (es : List Event) → all (λ e. le_z c.at e.time) es ≡ true → cut_of c es ≡ kept_of c es
unfolding cut_of
nothing-folded c es from = rw (none-folded c (in_order c es) (ordered c.full)) (go c.full)
  where
    ordered : (t : Bool) → all (λ e. le_z c.at e.time) (cond t (stable_sort earlier es) es) ≡ true
    ordered true = all-sort earlier (λ e. le_z c.at e.time) es from
    ordered false = from

    go : (t : Bool) → cond t ([] ++ kept_of c es) (kept_of c es ++ []) ≡ kept_of c es
    go true = refl
    go false = append-nil (kept_of c es)
