-- What a customer leans on, of every write over pieces, whatever the budget and the seed.
--     in_window   each event that is added is one that the write's own window would take out
--     in-clamp    and its value lies in its target's clamp
--     in-time     and, where the numbers are in their ranges, its time in that of events
--     others      what is left of other targets' events is what there was, in order
--     bytes       the bytes used rise by 8 for each event that is added
--     still       with random off the seed does not move
--     as_said     a call that stops, as the document says it, leaves the same
use mathlib.Core.Path.{◌≡◌, refl, sym, ap, ap₂, ◌∙◌}
use mathlib.Core.Bool.{Bool, true, false, cond, not, ◌&&◌, ◌||◌}
use mathlib.Core.List.{List, [], ◌∷◌, ◌++◌, append-nil}
use Prim.Native.Nat.{ℕ, zero, suc, ◌+◌, ◌-◌, ◌*◌, ◌≤◌, ◌<◌, ◌^◌, min}
use native.Mathlib.Omega.{arith}
use lib.IntN.{ℤ, pos, ◌+ℤ◌}
use lib.Signed.{le_z, lt_z}
use lib.ListN.{length, take}
use Rattle.laws.specs.Integers.{eq_z, inside}
use Rattle.laws.specs.Lists.{all, without}
use Rattle.laws.proofs.Bits.{eq_z-refl}
use Rattle.laws.proofs.Signed.{mag-add}
use Rattle.laws.proofs.Ranges.{sized-mag, sized-small}
use Rattle.numbers.specs.Ranges.{is_controller, is_time, is_length, is_event_time}
use Rattle.numbers.specs.Random.{next_rand}
use Rattle.budget.specs.declared.Budget.{Budget}
use Rattle.budget.specs.Budgets.{room, step_budget}
use Rattle.events.specs.declared.Event.{Event}
use Rattle.events.specs.Kinds.{control_change, pitch_bend}
use Rattle.eventlist.specs.Windows.{taken_by}
use Rattle.values.specs.declared.Write.{Write}
use Rattle.values.specs.declared.Offer.{Offer}
use Rattle.values.specs.Options.{moved}
use Rattle.values.specs.Clamp.{top_of, clamped}
use Rattle.values.specs.Value.{kind_of, controller_event, bend_event, event_for, start_of, time_of, event_of_offer, next_seed}
use Rattle.values.proofs.Clamping.{clamped-in}
use Rattle.values.proofs.Stored.{offer-time}
use Rattle.offers.specs.declared.Piece.{Piece}
use Rattle.offers.specs.Rules.{rule_of, same, fresh, joined, become, seeds_after, spent, flagged}
use Rattle.offers.specs.Runs.{offered, new_events, budget_after}
use Rattle.offers.specs.Stop.{stop_offers, outlasts, stop_budget, stop_events}
use Rattle.offers.specs.Pieces.{steps, points, points_of, offers, total}
use Rattle.offers.proofs.Stepping.{steps-suc}
use Rattle.offers.proofs.Stopping.{few-offered, stop-budget, stop-events, stop-offers, stop-flag}
use Rattle.writing.specs.Calls.{window_of, kept_events, left_by}
use Rattle.writing.specs.Targets.{belongs, in_clamp}
use Rattle.writing.proofs.Shifting.{le_up, lt_up}
use Rattle.writing.proofs.Every.{Each, each_append, each-weaker, all_of, without-append, without-every, without-twice}
use Rattle.writing.proofs.Calling.{length-new}

-- ---- offers stand before the end
Before : ℕ → Offer → Type 0
Before n o = o.step < n

points-before : (f at : ℕ) (t : Piece) (k n j : ℕ) → 0 < f → n ≡ steps (k - j) f → Each (Before (at + k)) (points f at t n j)
unfolding points Before
points-before f at t k zero j p e = tt
points-before f at t k (suc n) j p e =
    let s = steps-suc (k - j) f n p e in
    let d : (k - j) - f ≡ k - (j + f) = omega arith in
    let g = s.0 in
    (omega arith, points-before f at t k n (j + f) p (s.1 ∙ ap (λ (m : ℕ). steps m f) d))

offers-before : (f : ℕ) (ts : List Piece) (s at : ℕ) → 0 < f → Each (Before (at + total ts)) (offers f ts s at)
unfolding offers total Before
offers-before f [] s at p = tt
offers-before f (t ∷ ts) s at p =
    let m = min t.len s in
    let z : m - 0 ≡ m = omega arith in
    let end = at + (t.len + total ts) in
    let a : Each (Before (at + m)) (points_of f at t m) = points-before f at t m (steps m f) 0 p (ap (λ (n : ℕ). steps n f) (sym z)) in
    let b : Each (Before ((at + t.len) + total ts)) (offers f ts (s - t.len) (at + t.len)) = offers-before f ts (s - t.len) (at + t.len) p in
    each_append (Before end) (points_of f at t m) (offers f ts (s - t.len) (at + t.len))
    (each-weaker (Before (at + m)) (Before end) (λ (o : Offer) (h : o.step < at + m). omega arith) (points_of f at t m) a)
    (each-weaker (Before ((at + t.len) + total ts)) (Before end) (λ (o : Offer) (h : o.step < (at + t.len) + total ts). omega arith) (offers f ts (s - t.len) (at + t.len)) b)

fresh-each : (P : Offer → Type 0) (every any : Bool) (last : ℤ) (os : List Offer) → Each P os → Each P (fresh every any last os)
unfolding fresh
fresh-each P every any last [] h = tt
fresh-each P every any last (o ∷ os) h = go (same every any last o.value) (fresh-each P every any last os h.1) (fresh-each P every true o.value os h.1)
  where
    go : (t : Bool) → Each P (fresh every any last os) → Each P (fresh every true o.value os) → Each P (cond t (fresh every any last os) (o ∷ fresh every true o.value os))
    go true a b = a
    go false a b = (h.0, b)

-- nothing is asked of an offer
pub every : (os : List Offer) → Each (λ (o : Offer). Unit {0}) os
every [] = tt
every (o ∷ os) = (tt, every os)

-- ---- what holds of the event of each offer holds of each event that is added
module _ (w : Write) (P : Event → Type 0) (Q : Offer → Type 0) (f : (o : Offer) (y : ℕ) → Q o → P (event_of_offer w o y)) where
  become-each : (n : ℕ) (os : List Offer) (y : ℕ) → Each Q os → Each P (joined (take n (become (rule_of w) os y)))
  unfolding become rule_of
  become-each zero os y h = tt
  become-each (suc n) [] y h = tt
  become-each (suc n) (o ∷ os) y h = (f o (next_seed w y) h.0, become-each n os (next_seed w y) h.1)

  pub new-each : (b : Budget) (os : List Offer) → Each Q os → Each P (new_events (rule_of w) b os)
  unfolding new_events offered
  new-each b os h =
      become-each (room (rule_of w).size b) (fresh (rule_of w).all false (pos 0) os) b.seed (fresh-each Q (rule_of w).all false (pos 0) os h)

-- ---- the event of an offer
module _ (w : Write) where
  own : (o : Offer) (y : ℕ) → belongs w.target (event_of_offer w o y) ≡ true
  unfolding event_of_offer event_for belongs kind_of
  own o y = go (is_controller w.target) refl
    where
      v : ℤ
      v = clamped w.target (moved w.option o.value y)

      e : Bool → Event
      e t = cond t (controller_event (time_of w o.step) w.channel w.target v) (bend_event (time_of w o.step) w.channel v)

      go : (t : Bool) → is_controller w.target ≡ t → (eq_z (e t).kind (cond t control_change pitch_bend) && (not (eq_z (cond t control_change pitch_bend) control_change) || eq_z (e t).v1 w.target)) ≡ true
      go true q = eq_z-refl w.target
      go false q = refl

  clamps : (o : Offer) (y : ℕ) → in_clamp w.target (event_of_offer w o y) ≡ true
  unfolding event_of_offer event_for in_clamp
  clamps o y = go (is_controller w.target)
    where
      v : ℤ
      v = clamped w.target (moved w.option o.value y)

      e : Bool → Event
      e t = cond t (controller_event (time_of w o.step) w.channel w.target v) (bend_event (time_of w o.step) w.channel v)

      go : (t : Bool) → inside (pos 0) (pos (top_of w.target)) (cond t (e t).v2 (e t).v1) ≡ true
      go true = clamped-in w.target (moved w.option o.value y)
      go false = clamped-in w.target (moved w.option o.value y)

  taken : (long : ℕ) (o : Offer) (y : ℕ) → o.step < long → taken_by (window_of w long) (event_of_offer w o y) ≡ true
  unfolding taken_by window_of belongs
  taken long o y h =
      let t = offer-time w o y in
      ap (λ (x : Bool). x && le_z (start_of w) (event_of_offer w o y).time && lt_z (event_of_offer w o y).time (start_of w +ℤ pos long)) (own o y)
      ∙ ap (λ (z : ℤ). le_z (start_of w) z && lt_z z (start_of w +ℤ pos long)) t
      ∙ ap₂ (λ (x y : Bool). x && y) (le_up (start_of w) o.step) (lt_up (start_of w) o.step long h)

first : (x y : Bool) → (x && y) ≡ true → x ≡ true
first true y q = refl
first false y q = q

-- what the window takes out is the target's own
mine : (w : Write) (long : ℕ) (e : Event) → taken_by (window_of w long) e ≡ true → belongs w.target e ≡ true
unfolding taken_by window_of belongs
mine w long e h = first _ (le_z (start_of w) e.time) (first _ (lt_z e.time (start_of w +ℤ pos long)) h)

-- ---- a write over pieces
module _ (w : Write) (b : Budget) (ts : List Piece) (s : ℕ) where
  abbrev news : List Event
  news = new_events (rule_of w) b (offers w.freq ts s 0)

  before : 0 < w.freq → Each (Before (total ts)) (offers w.freq ts s 0)
  unfolding Before
  before p = let z : 0 + total ts ≡ total ts = omega arith in rw z at (offers-before w.freq ts s 0 p)

  pub in_window : 0 < w.freq → all (taken_by (window_of w (total ts))) news ≡ true
  unfolding Before
  in_window p =
      all_of (taken_by (window_of w (total ts))) news
      (new-each w (λ (e : Event). taken_by (window_of w (total ts)) e ≡ true) (Before (total ts)) (λ o y h. taken w (total ts) o y h) b (offers w.freq ts s 0) (before p))

  pub in-clamp : all (in_clamp w.target) news ≡ true
  in-clamp =
      all_of (in_clamp w.target) news
      (new-each w (λ (e : Event). in_clamp w.target e ≡ true) (λ (o : Offer). Unit {0}) (λ o y h. clamps w o y) b (offers w.freq ts s 0) (every (offers w.freq ts s 0)))

  pub in-time : 0 < w.freq → is_time w.time ≡ true → is_length w.option.delay ≡ true → total ts ≤ 2 ^ 40 → all (λ (e : Event). is_event_time e.time) news ≡ true
  unfolding Before is_time is_length is_event_time start_of
  in-time p t d l =
      all_of (λ (e : Event). is_event_time e.time) news
      (new-each w (λ (e : Event). is_event_time e.time ≡ true) (Before (total ts)) time b (offers w.freq ts s 0) (before p))
    where
      time : (o : Offer) (y : ℕ) → Before (total ts) o → is_event_time (event_of_offer w o y).time ≡ true
      time o y h =
          let e = offer-time w o y in
          let a = sized-mag (2 ^ 40) w.time t in
          let c = sized-mag (2 ^ 20) w.option.delay d in
          let m = mag-add w.time w.option.delay in
          let n = mag-add (w.time +ℤ w.option.delay) (pos o.step) in
          ap is_event_time e ∙ sized-small (2 ^ 42) (start_of w +ℤ pos o.step) (omega arith)

  pub others : (long : ℕ) (es : List Event) → without (belongs w.target) (left_by w b (offers w.freq ts s 0) long es) ≡ without (belongs w.target) es
  unfolding kept_events
  others long es =
      without-append (belongs w.target) (kept_events w long es) news
      ∙ ap₂ (λ (x y : List Event). x ++ y)
      (without-twice (belongs w.target) (taken_by (window_of w long)) (λ e h. mine w long e h) es)
      (without-every (belongs w.target) news
      (new-each w (λ (e : Event). belongs w.target e ≡ true) (λ (o : Offer). Unit {0}) (λ o y h. own w o y) b (offers w.freq ts s 0) (every (offers w.freq ts s 0))))
      ∙ append-nil (without (belongs w.target) es)

-- ---- the budget
seed-still : (w : Write) → le_z w.option.random (pos 0) ≡ true → (fs : List Offer) (y : ℕ) → seeds_after (rule_of w) fs y ≡ y
unfolding seeds_after rule_of
seed-still w off [] y = refl
seed-still w off (o ∷ fs) y = ap (seeds_after (rule_of w) fs) (ap (λ (t : Bool). cond t y (next_rand y)) off) ∙ seed-still w off fs y

module _ (w : Write) (b : Budget) (os : List Offer) (long : ℕ) where
  pub bytes : (budget_after (rule_of w) b os long).used ≡ b.used + 8 * length (new_events (rule_of w) b os)
  unfolding budget_after spent rule_of
  bytes = ap (λ (n : ℕ). b.used + 8 * n) (sym (length-new w b os))

  pub still : le_z w.option.random (pos 0) ≡ true → (budget_after (rule_of w) b os long).seed ≡ b.seed
  unfolding budget_after spent
  still off = seed-still w off (offered (rule_of w) os) b.seed

-- ---- "the first write that doesn't fit stops the call and sets the flag. If a triple outlasts the steps left, the flag is set and the
-- call stops": such a call leaves the same
module _ (w : Write) (b : Budget) (ts : List Piece) where
  abbrev within : List Offer
  within = offers w.freq ts (step_budget b) 0

  abbrev stopped : List Offer
  stopped = offered (rule_of w) (stop_offers w.freq ts (step_budget b) 0)

  some : 0 < (rule_of w).size
  unfolding rule_of
  some = omega arith

  enough : length (offered (rule_of w) within) ≤ room (rule_of w).size b + 1
  unfolding rule_of
  enough = few-offered (rule_of w) b w.freq ts

  same-offered : offered (rule_of w) within ≡ stopped
  same-offered = ap (offered (rule_of w)) (stop-offers w.freq ts (step_budget b) 0)

  pub as_said : (new_events (rule_of w) b within ≡ stop_events (rule_of w) b stopped) × (budget_after (rule_of w) b within (total ts) ≡ flagged (stop_budget (rule_of w) b stopped) (outlasts ts (step_budget b)))
  unfolding new_events budget_after rule_of
  as_said = (
    sym (stop-events (rule_of w) some (offered (rule_of w) within) b) ∙ ap (stop_events (rule_of w) b) same-offered,
    ap₂ flagged (sym (stop-budget (rule_of w) some (offered (rule_of w) within) b enough) ∙ ap (stop_budget (rule_of w) b) same-offered) (sym (stop-flag ts (step_budget b))),
  )
