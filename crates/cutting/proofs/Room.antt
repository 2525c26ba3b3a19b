-- The folded events find room: a value that is remembered comes from an event that is dropped, so that what is kept and what
-- is folded are together no more than there were.
--     set-length     the controllers that are folded are those that are set
--     count-step     storing one value sets at most one more
--     at_most_one    an event is kept, or folded once, or neither
--     room           kept and folded events fit where the events stood, in whatever order they count
use mathlib.Core.Path.{◌≡◌, refl, sym, ap, ◌∙◌}
use mathlib.Core.Bool.{Bool, true, false, cond, not, ◌&&◌}
use mathlib.Core.List.{List, [], ◌∷◌, ◌++◌}
use mathlib.Core.Logic.{⊎_elim}
use Prim.Native.Nat.{ℕ, zero, suc, ◌+◌, ◌≤◌, ◌<◌}
use native.Mathlib.Omega.{arith}
use borrow.Author.Tests.{ne_eqb}
use lib.IntN.{ℤ, pos}
use lib.ListN.{length, length-append, length-map}
use lib.Signed.{lt_z}
use Rattle.laws.specs.Integers.{eq_z}
use Rattle.laws.specs.Lists.{unless, without}
use Rattle.laws.proofs.Bits.{eq_z-true}
use Rattle.laws.proofs.Bools.{which}
use Rattle.events.specs.declared.Event.{Event}
use Rattle.events.specs.Events.{cc_event, voice_event}
use Rattle.events.specs.Kinds.{control_change, pitch_bend, voice}
use Rattle.sorting.specs.Stable.{stable_sort}
use Rattle.sorting.specs.Sorting.{earlier}
use Rattle.sorting.proofs.Placing.{length-among, many-sort}
use Rattle.cutting.specs.declared.Cut.{Cut}
use Rattle.cutting.specs.Choice.{last_of}
use Rattle.cutting.specs.Cuts.{controllers, unset, with_time, folds, control_at, program_at, channel_at, bend_at, controls_from, program_on, in_order, folded, keeps, shifted, kept_of}
use Rattle.cutting.proofs.Folding.{folds-alone, control-kept, program-kept, bend-kept}

-- a Bool as a count
abbrev one : Bool → ℕ
one true = 1
one false = 0

length-unless : {A : Type 0} (t : Bool) (x : A) (l : List A) → length (unless t x l) ≡ one (not t) + length l
length-unless true x l = omega arith
length-unless false x l = omega arith

-- how many of k values from n on are set
abbrev set_from : (ℕ → ℤ) → ℕ → ℕ → ℕ
set_from value zero n = 0
set_from value (suc k) n = one (not (lt_z (value n) (pos 0))) + set_from value k (suc n)

set-length : (value : ℕ → ℤ) (channel : ℤ) (k n : ℕ) → length (controls_from value channel k n) ≡ set_from value k n
unfolding controls_from
set-length value channel zero n = refl
set-length value channel (suc k) n =
    length-unless (lt_z (value n) (pos 0)) (cc_event (pos 0) channel (pos n) (value n)) (controls_from value channel k (suc n))
    ∙ ap (λ (m : ℕ). one (not (lt_z (value n) (pos 0))) + m) (set-length value channel k (suc n))

at_most : (t : Bool) → one t ≤ 1
at_most true = omega arith
at_most false = omega arith

module _ (v x : ℤ) (value : ℕ → ℤ) where
  abbrev after : ℕ → ℤ
  after n = cond (eq_z v (pos n)) x (value n)

  -- past the number that is stored nothing changes
  count_past : (k n m : ℕ) → v ≡ pos m → m < n → set_from after k n ≡ set_from value k n
  count_past zero n m q h = refl
  count_past (suc k) n m q h =
      let other : eq_z v (pos n) ≡ false = rw q (ne_eqb m n (λ (w : m ≡ n). omega arith)) in
      rw other (ap (λ (j : ℕ). one (not (lt_z (value n) (pos 0))) + j) (count_past k (suc n) m q (omega arith)))

  count-one : (k n : ℕ) → set_from after k n ≤ set_from value k n + 1
  count-one zero n = omega arith
  count-one (suc k) n =
      let less = count-one k (suc n) in
      ⊎_elim
      (λ (e : eq_z v (pos n) ≡ true).
      let rest = count_past k (suc n) n (eq_z-true v (pos n) e) (omega arith) in
      let most = at_most (not (lt_z (after n) (pos 0))) in
      omega arith)
      (λ (e : eq_z v (pos n) ≡ false). rw e (omega arith))
      (which (eq_z v (pos n)))

count-step : (t : Bool) (v x : ℤ) (value : ℕ → ℤ) (k n : ℕ) → set_from (λ m. cond (t && eq_z v (pos m)) x (value m)) k n ≤ set_from value k n + one t
count-step true v x value k n = count-one v x value k n
count-step false v x value k n = omega arith

-- a program, and a bend, is set or is not
abbrev is_set : ℤ → ℕ
is_set z = one (not (lt_z z (pos 0)))

program-step : (t : Bool) (x z : ℤ) → is_set (cond t x z) ≤ is_set z + one t
program-step true x z = let a = at_most (not (lt_z x (pos 0))) in omega arith
program-step false x z = omega arith

bend-step : (t : Bool) (x : Event) (b : List Event) → length (cond t (x ∷ []) b) ≤ length b + one t
bend-step true x b = omega arith
bend-step false x b = omega arith

kept_step : (t : Bool) (e : Event) (l : List Event) → length (unless (not t) e l) ≡ one t + length l
kept_step true e l = omega arith
kept_step false e l = omega arith

set-none : (k n : ℕ) → set_from (λ m. unset) k n ≡ 0
set-none zero n = refl
set-none (suc k) n = let r = set-none k (suc n) in omega arith

shorter : (t : Bool) (l : List Event) → length (cond t l []) ≤ length l
shorter true l = omega arith
shorter false l = omega arith

total : (a b c d : List Event) (n : ℕ) → length a + (length b + (length c + length d)) ≤ n → length (a ++ (b ++ (c ++ d))) ≤ n
total a b c d n h = rw (length-append a (b ++ (c ++ d)), length-append b (c ++ d), length-append c d) h

module _ (c : Cut) where
  at_most_one : (e : Event) → one (keeps c e) + (one (folds control_change c.at e) + (one (folds voice c.at e) + one (folds pitch_bend c.at e))) ≤ 1
  at_most_one e =
      let m₀ = at_most (keeps c e) in
      let m₁ = at_most (folds control_change c.at e) in
      let m₂ = at_most (folds voice c.at e) in
      let m₃ = at_most (folds pitch_bend c.at e) in
      ⊎_elim
      (λ (f : folds control_change c.at e ≡ true).
      let a = ap one (folds-alone control_change c.at e f voice refl) in
      let b = ap one (folds-alone control_change c.at e f pitch_bend refl) in
      let k = ap one (control-kept c e f) in
      omega arith)
      (λ (f : folds control_change c.at e ≡ false).
      let n = ap one f in
      ⊎_elim
      (λ (g : folds voice c.at e ≡ true).
      let b = ap one (folds-alone voice c.at e g pitch_bend refl) in
      let k = ap one (program-kept c e g) in
      omega arith)
      (λ (g : folds voice c.at e ≡ false).
      let o = ap one g in
      ⊎_elim
      (λ (h : folds pitch_bend c.at e ≡ true). let k = ap one (bend-kept c e h) in omega arith)
      (λ (h : folds pitch_bend c.at e ≡ false). let q = ap one h in omega arith)
      (which (folds pitch_bend c.at e)))
      (which (folds voice c.at e)))
      (which (folds control_change c.at e))

  -- kept events, k controllers, program and bend, from any that are remembered already
  room-from : (k : ℕ) (es : List Event) (value : ℕ → ℤ) (program : ℤ) (bend : List Event)
      → length (without (λ e. not (keeps c e)) es)
      + (set_from (λ n. last_of (λ e. folds control_change c.at e && eq_z e.v1 (pos n)) (λ e. e.v2) (value n) es) k 0
      + (is_set (last_of (folds voice c.at) (λ e. e.v1) program es)
      + length (last_of (folds pitch_bend c.at) (λ e. with_time (pos 0) e ∷ []) bend es)))
      ≤ length es + (set_from value k 0 + (is_set program + length bend))
  room-from k [] value program bend = omega arith
  room-from k (e ∷ es) value program bend =
      let t = folds control_change c.at e in
      let u = folds voice c.at e in
      let w = folds pitch_bend c.at e in
      let rest = room-from k es (λ n. cond (t && eq_z e.v1 (pos n)) e.v2 (value n)) (cond u e.v1 program) (cond w (with_time (pos 0) e ∷ []) bend) in
      let a = count-step t e.v1 e.v2 value k 0 in
      let b = program-step u e.v1 program in
      let d = bend-step w (with_time (pos 0) e) bend in
      let l = kept_step (keeps c e) e (without (λ x. not (keeps c x)) es) in
      let m = at_most_one e in
      omega arith

  room_of : (k : ℕ) (es : List Event)
      → length (kept_of c es)
      + (length (controls_from (control_at c.at es) (channel_at c.at es) k 0)
      + (length (program_on (program_at c.at es) (channel_at c.at es)) + length (cond c.full (bend_at c.at es) [])))
      ≤ length es
  room_of k es =
      let all = room-from k es (λ n. unset) unset [] in
      let a = length-map (without (λ e. not (keeps c e)) es) (shifted c) in
      let b = set-length (control_at c.at es) (channel_at c.at es) k 0 in
      let d = length-unless (lt_z (program_at c.at es) (pos 0)) (voice_event (pos 0) (channel_at c.at es) (program_at c.at es)) [] in
      let f = shorter c.full (bend_at c.at es) in
      let n = set-none k 0 in
      omega arith

  room_in : (es : List Event) → length (kept_of c es ++ folded c es) ≤ length es
  unfolding folded
  room_in es =
      total (kept_of c es) (controls_from (control_at c.at es) (channel_at c.at es) controllers 0) (program_on (program_at c.at es) (channel_at c.at es)) (cond c.full (bend_at c.at es) []) (length es)
      (room_of controllers es)

  -- sorted there are as many events, and as many of them are kept
  kept-sorted : (es : List Event) → length (kept_of c (stable_sort earlier es)) ≡ length (kept_of c es)
  kept-sorted es =
      let out : Event → Bool = λ e. not (keeps c e) in
      length-map (without out (stable_sort earlier es)) (shifted c) ∙ many-sort earlier out es ∙ sym (length-map (without out es) (shifted c))

  pub room : (es : List Event) → length (kept_of c es ++ folded c (in_order c es)) ≤ length es
  room es = go c.full
    where
      go : (t : Bool) → length (kept_of c es ++ folded c (cond t (stable_sort earlier es) es)) ≤ length es
      go true =
          let s = stable_sort earlier es in
          let r = room_in s in
          let a = length-append (kept_of c s) (folded c s) in
          let b = length-append (kept_of c es) (folded c s) in
          let k = kept-sorted es in
          let n = length-among earlier es [] in
          omega arith
      go false = room_in es
