-- With random off and a budget for every step, what a write adds does not depend on the budget.
--     ample   neither bytes, nor seed, nor steps enter into it
use mathlib.Core.Path.{◌≡◌, refl, ap, ap₂, ◌∙◌}
use mathlib.Core.Bool.{Bool, true, false, not, cond}
use mathlib.Core.List.{List, [], ◌∷◌, ◌++◌}
use Prim.Native.Nat.{ℕ, suc, ◌+◌, ◌-◌, ◌≤◌, min}
use native.Mathlib.Omega.{arith}
use lib.IntN.{pos}
use lib.Signed.{le_z}
use lib.ListN.{length, take}
use lib.Seq.{take_all}
use Rattle.numbers.specs.Limits.{value_bytes}
use Rattle.numbers.specs.Random.{next_rand, spread}
use Rattle.budget.specs.declared.Budget.{Budget}
use Rattle.budget.specs.Budgets.{room, step_budget}
use Rattle.events.specs.declared.Event.{Event}
use Rattle.values.specs.declared.Write.{Write}
use Rattle.values.specs.declared.Offer.{Offer}
use Rattle.values.specs.Options.{moved}
use Rattle.values.specs.Value.{event_of_offer, next_seed}
use Rattle.offers.specs.declared.Piece.{Piece}
use Rattle.offers.specs.Rules.{rule_of, fresh, joined, become}
use Rattle.offers.specs.Runs.{offered, new_events}
use Rattle.offers.specs.Pieces.{points_of, offers, total}
use Rattle.offers.proofs.Stopping.{few, fresh-le}
use Rattle.writing.specs.Calls.{new_events_for}
use Rattle.writing.specs.Free.{freely}

offers-enough : (f : ℕ) (ts : List Piece) (s at : ℕ) → total ts ≤ s → offers f ts s at ≡ offers f ts (total ts) at
unfolding offers total
offers-enough f [] s at h = refl
offers-enough f (t ∷ ts) s at h =
    let a : min t.len s ≡ t.len = omega arith in
    let b : min t.len (t.len + total ts) ≡ t.len = omega arith in
    let c : (t.len + total ts) - t.len ≡ total ts = omega arith in
    rw (a, b, c) (ap (λ (l : List Offer). points_of f at t t.len ++ l) (offers-enough f ts (s - t.len) (at + t.len) (omega arith)))

length-become : (w : Write) (os : List Offer) (y : ℕ) → length (become (rule_of w) os y) ≡ length os
unfolding become
length-become w [] y = refl
length-become w (o ∷ os) y = ap (λ (n : ℕ). suc n) (length-become w os ((rule_of w).next y))

module _ (w : Write) (off : le_z w.option.random (pos 0) ≡ true) where
  same-event : (o : Offer) (y z : ℕ) → event_of_offer w o y ≡ event_of_offer w o z
  unfolding event_of_offer moved spread
  same-event o y z = rw off

  same-seed : (y : ℕ) → next_seed w y ≡ y
  same-seed y = ap (λ (t : Bool). cond t y (next_rand y)) off

  same-become : (os : List Offer) (y z : ℕ) → become (rule_of w) os y ≡ become (rule_of w) os z
  unfolding become rule_of
  same-become [] y z = refl
  same-become (o ∷ os) y z =
      ap₂ (λ (e : Event) (l : List (List Event)). (e ∷ []) ∷ l) (same-event o (next_seed w y) (next_seed w z)) (same-become os (next_seed w y) (next_seed w z))

  every-off : (rule_of w).all ≡ false
  unfolding rule_of
  every-off = ap not off

  size_is : (rule_of w).size ≡ value_bytes
  unfolding rule_of
  size_is = refl

  pub ample : (b : Budget) (ts : List Piece) → total ts ≤ room value_bytes b → new_events_for w b ts ≡ freely w ts
  unfolding new_events offered freely
  ample b ts h =
      let os = offers w.freq ts (total ts) 0 in
      let fs = fresh false false (pos 0) os in
      let e : offers w.freq ts (step_budget b) 0 ≡ os = offers-enough w.freq ts (step_budget b) 0 (omega arith) in
      let n : length (become (rule_of w) fs b.seed) ≤ room value_bytes b = rw (length-become w fs b.seed) (omega (arith, fresh-le false false (pos 0) os, few w.freq ts (total ts) 0)) in
      ap₂ (λ (x : List Offer) (t : Bool). joined (take (room (rule_of w).size b) (become (rule_of w) (fresh t false (pos 0) x) b.seed))) e every-off
      ∙ ap (λ (k : ℕ). joined (take (room k b) (become (rule_of w) fs b.seed))) size_is
      ∙ ap joined (take_all (room value_bytes b) (become (rule_of w) fs b.seed) n)
      ∙ ap joined (same-become fs b.seed 0)
