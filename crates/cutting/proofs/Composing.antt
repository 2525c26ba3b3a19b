-- The passes of a cut together: what is remembered is what the definition folds, it finds room, and put after the kept events
-- it makes the list that the definition has.
use mathlib.Core.Path.{◌≡◌, refl, sym, ap, ap₂, ◌∙◌}
use mathlib.Core.Bool.{Bool, true, false, cond, ◌&&◌}
use mathlib.Core.List.{List, [], ◌∷◌, ◌++◌}
use Prim.Native.Nat.{ℕ, ◌+◌, ◌-◌, ◌≤◌, max}
use native.Mathlib.Omega.{arith}
use lib.IntN.{ℤ, pos}
use lib.ListN.{length, get_or, drop, replicate, length-append}
use lib.Seq.{length-take-le, take-append_seam}
use Rattle.laws.specs.Lists.{put_first}
use Rattle.laws.proofs.Compact.{put-again}
use Rattle.laws.proofs.Following.{more-then}
use Rattle.events.specs.declared.Event.{Event}
use Rattle.events.specs.Events.{zero_event}
use Rattle.events.specs.Kinds.{pitch_bend}
use Rattle.eventlist.specs.Rows.{rows_of, events_of}
use Rattle.cutting.specs.declared.Cut.{Cut}
use Rattle.cutting.specs.declared.Last.{Last}
use Rattle.cutting.specs.Choice.{last_of}
use Rattle.cutting.specs.Cuts.{controllers, with_time, folds, control_at, channel_at, bend_at, controls_from, in_order, folded, kept_of}
use Rattle.cutting.specs.Passes.{Holds, controls_in, program_in, bend_in, with_more, lasts_of}
use Rattle.cutting.proofs.Putting.{controls-same}
use Rattle.cutting.proofs.Room.{room}

-- the bend as it is remembered, and as it is folded
one-bend : (t b : Bool) (x e : Event) → cond t (with_time (pos 0) e ∷ []) (cond b (with_time (pos 0) x ∷ []) []) ≡ cond (cond t true b) (with_time (pos 0) (cond t e x) ∷ []) []
one-bend true b x e = refl
one-bend false b x e = refl

bend-of : (p : Event → Bool) (b : Bool) (x : Event) (es : List Event)
    → cond (last_of p (λ e. true) b es) (with_time (pos 0) (last_of p (λ e. e) x es) ∷ []) [] ≡ last_of p (λ e. with_time (pos 0) e ∷ []) (cond b (with_time (pos 0) x ∷ []) []) es
bend-of p b x [] = refl
bend-of p b x (e ∷ es) =
    bend-of p (cond (p e) true b) (cond (p e) e x) es
    ∙ ap (λ (d : List Event). last_of p (λ e'. with_time (pos 0) e' ∷ []) d es) (sym (one-bend (p e) b x e))

split : (t b : Bool) (y z : List Event) → cond b y [] ≡ z → cond (t && b) y [] ≡ cond t z []
split true b y z e = e
split false b y z e = refl

module _ (c : Cut) (l : List ℤ) (count : ℕ) (fit : count ≤ length (rows_of l)) (table : List ℤ) (last : Last)
    (e₀ : last ≡ lasts_of c.at (in_order c (events_of l count))) (h₀ : Holds (control_at c.at (in_order c (events_of l count))) table) where
  abbrev es : List Event
  es = events_of l count

  -- the events in the order in which they count
  abbrev os : List Event
  os = in_order c es

  controls : controls_in table last ≡ controls_from (control_at c.at os) (channel_at c.at os) controllers 0
  controls =
      controls-same (λ n. get_or table n (pos 0)) (control_at c.at os) last.channel controllers 0 (λ n q. h₀.each n q)
      ∙ ap (λ (x : Last). controls_from (control_at c.at os) x.channel controllers 0) e₀

  bend : bend_in c last ≡ cond c.full (bend_at c.at os) []
  bend =
      ap (bend_in c) e₀
      ∙ split c.full (last_of (folds pitch_bend c.at) (λ e. true) false os) _ _ (bend-of (folds pitch_bend c.at) false zero_event os)

  pub same : controls_in table last ++ (program_in last ++ bend_in c last) ≡ folded c os
  unfolding folded
  same = ap₂ (λ (x y : List Event). x ++ y) controls (ap₂ (λ (x y : List Event). x ++ y) (ap program_in e₀) bend)

  pub room_for : length (kept_of c es) + (length (controls_in table last) + (length (program_in last) + length (bend_in c last))) ≤ count
  room_for =
      let r = room c es in
      let n = length-take-le count (rows_of l) fit in
      let a = length-append (kept_of c es) (folded c os) in
      let b = ap length same in
      let d = length-append (controls_in table last) (program_in last ++ bend_in c last) in
      let f = length-append (program_in last) (bend_in c last) in
      omega arith

  -- the lists after each pass
  module _ (l₁ l₂ l₃ l₄ : List ℤ) (k n m : ℕ) (ek : k ≡ length (kept_of c es)) (en : n ≡ k + length (controls_in table last)) (em : m ≡ n + length (program_in last))
      (w₁ : length (rows_of l₁) ≡ length (rows_of l)) (w₂ : length (rows_of l₂) ≡ length (rows_of l))
      (r₁ : rows_of l₁ ≡ put_first zero_event count (kept_of c es) (rows_of l))
      (r₂ : rows_of l₂ ≡ with_more l₁ k (controls_in table last)) (r₃ : rows_of l₃ ≡ with_more l₂ n (program_in last)) (r₄ : rows_of l₄ ≡ with_more l₃ m (bend_in c last)) where
    pub whole : rows_of l₄ ≡ put_first zero_event count (kept_of c es ++ folded c os) (rows_of l)
    whole =
        let r = room_for in
        let K = kept_of c es in
        let C = controls_in table last in
        let P = program_in last in
        let B = bend_in c last in
        let a : with_more l₃ m B ≡ with_more l₂ n (P ++ B) = rw em (more-then zero_event (rows_of l₂) (rows_of l₃) P B n (omega arith) r₃) in
        let b : with_more l₂ n (P ++ B) ≡ with_more l₁ k (C ++ (P ++ B)) = rw en (more-then zero_event (rows_of l₁) (rows_of l₂) C (P ++ B) k (omega arith) r₂) in
        let d : with_more l₁ k (C ++ (P ++ B)) ≡ with_more l₁ k (folded c os) = ap (λ (x : List Event). with_more l₁ k x) same in
        let f : with_more l₁ k (folded c os) ≡ put_first zero_event count (K ++ folded c os) (rows_of l) =
        rw (r₁, ek)
        (ap (λ (x : List Event). put_first zero_event (length K) (x ++ folded c os) (put_first zero_event count K (rows_of l))) (take-append_seam K (replicate (count - length K) zero_event ++ drop (max count (length K)) (rows_of l)))
        ∙ put-again zero_event count K (folded c os) (rows_of l)) in
        r₄ ∙ a ∙ b ∙ d ∙ f
