-- A run offers at most one value more than there is room for. So a write that doesn't fit is the last one offered, and whether a
-- run stops there, as the rule says it (specs/Stop), or goes on is the same.
--     few            at most s offers in s steps
--     stop-budget, stop-events   stopping is the same
--     stop-offers, stop-flag     and so is stopping at a piece that outlasts the steps
use mathlib.Core.Path.{◌≡◌, refl, sym, ap, ap₂, ◌∙◌}
use mathlib.Core.Bool.{Bool, true, false, cond}
use mathlib.Core.List.{List, [], ◌∷◌, ◌++◌, append-nil}
use Prim.Native.Nat.{ℕ, zero, suc, ◌+◌, ◌-◌, ◌≤◌, ◌<◌, min}
use native.Mathlib.Nat.{div-le_self}
use native.Mathlib.Omega.{arith}
use lib.IntN.{ℤ, pos}
use borrow.Author.Tests.{ltb-true, ltb-false, lt-ltb, le-ltb}
use lib.Dec.{ltb}
use lib.ListN.{length, take, length-append}
use Rattle.budget.specs.declared.Budget.{Budget}
use Rattle.budget.specs.Budgets.{room, fits}
use Rattle.events.specs.declared.Event.{Event}
use Rattle.values.specs.declared.Offer.{Offer}
use Rattle.values.specs.Value.{paid}
use Rattle.offers.specs.declared.Piece.{Piece}
use Rattle.offers.specs.Pieces.{steps, points, points_of, offers, total}
use Rattle.offers.specs.Rules.{Rule, same, fresh, joined, become, written, spent}
use Rattle.offers.specs.Runs.{steps_of, offered}
use Rattle.offers.specs.Stop.{stop_offers, outlasts, stop_budget, stop_events}
use Rattle.offers.proofs.Closed.{pay, gives, fits_more, fits-none, spent-none, joined-none}

-- ---- how many are offered
length-points : (f at : ℕ) (t : Piece) (n j : ℕ) → length (points f at t n j) ≡ n
unfolding points
length-points f at t zero j = refl
length-points f at t (suc n) j = ap suc (length-points f at t n (j + f))

steps-le : (k f : ℕ) → steps k f ≤ k
unfolding steps
steps-le zero f = omega arith
steps-le (suc k) f = omega (arith, div-le_self k f)

pub few : (f : ℕ) (ts : List Piece) (s at : ℕ) → length (offers f ts s at) ≤ s
unfolding offers
few f [] s at = omega arith
few f (t ∷ ts) s at =
    let m = min t.len s in
    let a = length-append (points_of f at t m) (offers f ts (s - t.len) (at + t.len)) in
    omega (arith, length-points f at t (steps m f) 0, steps-le m f, few f ts (s - t.len) (at + t.len))

-- and at most as many as there are steps in the pieces
pub few-long : (f : ℕ) (ts : List Piece) (s at : ℕ) → length (offers f ts s at) ≤ total ts
unfolding offers total
few-long f [] s at = omega arith
few-long f (t ∷ ts) s at =
    let m = min t.len s in
    let a = length-append (points_of f at t m) (offers f ts (s - t.len) (at + t.len)) in
    omega (arith, length-points f at t (steps m f) 0, steps-le m f, few-long f ts (s - t.len) (at + t.len))

pub fresh-le : (all any : Bool) (last : ℤ) (os : List Offer) → length (fresh all any last os) ≤ length os
unfolding fresh
fresh-le all any last [] = omega arith
fresh-le all any last (o ∷ os) = go (same all any last o.value) (fresh-le all any last os) (fresh-le all true o.value os)
  where
    go : (t : Bool) → length (fresh all any last os) ≤ length os → length (fresh all true o.value os) ≤ length os
        → length (cond t (fresh all any last os) (o ∷ fresh all true o.value os)) ≤ suc (length os)
    go true p q = omega arith
    go false p q = omega arith

pub few-offered : (r : Rule) (b : Budget) (f : ℕ) (ts : List Piece) → length (offered r (offers f ts (steps_of r b) 0)) ≤ room r.size b + 1
unfolding offered
few-offered r b f ts =
    let os = offers f ts (steps_of r b) 0 in
    omega (arith, fresh-le r.all false (pos 0) os, few f ts (steps_of r b) 0)

-- ---- stopping is the same
module _ (r : Rule) (some : 0 < r.size) where
  pub stop-budget : (os : List Offer) (b : Budget) → length os ≤ room r.size b + 1 → stop_budget r b os ≡ spent r b os
  unfolding stop_budget
  stop-budget [] b h = sym (spent-none r b)
  stop-budget (o ∷ os) b h = go (fits r.size b) refl (stop-budget os (paid r.size r.next b))
    where
      after : Budget
      after = paid r.size r.next b

      go : (t : Bool) → fits r.size b ≡ t → (length os ≤ room r.size after + 1 → stop_budget r after os ≡ spent r after os)
          → cond t (stop_budget r after os) after ≡ spent r b (o ∷ os)
      go true e ih = ih (rw e (let f = fits_more r.size b.maximum b.used some e in omega arith)) ∙ pay r some b o os
      go false e ih =
          let f = fits-none r.size b.maximum b.used e in
          sym (spent-none r after) ∙ pay r some b o [] ∙ ap (λ (l : List Offer). spent r b (o ∷ l)) (sym (only os (omega arith)))
        where
          only : (l : List Offer) → length l ≤ 0 → l ≡ []
          only [] h = refl
          only (x ∷ l) h = absurd (omega arith)

  pub stop-events : (os : List Offer) (b : Budget) → stop_events r b os ≡ written r (room r.size b) os b.seed
  unfolding stop_events become
  stop-events [] b = sym (joined-none (room r.size b))
  stop-events (o ∷ os) b = go (fits r.size b) refl (stop-events os (paid r.size r.next b))
    where
      after : Budget
      after = paid r.size r.next b

      es : List Event
      es = r.events o (r.next b.seed)

      rest : List (List Event)
      rest = become r os (r.next b.seed)

      go : (t : Bool) → fits r.size b ≡ t → stop_events r after os ≡ joined (take (room r.size after) rest)
          → cond t (es ++ stop_events r after os) [] ≡ joined (take (room r.size b) (es ∷ rest))
      go true e ih =
          ap (λ (l : List Event). es ++ l) ih ∙ sym (ap (λ (t : Bool). cond t es [] ++ joined (take (room r.size after) rest)) e) ∙ gives r some b es rest
      go false e ih = let f = fits-none r.size b.maximum b.used e in rw f

-- ---- where a piece outlasts the steps, those after it offer nothing
no_steps : (f : ℕ) (ts : List Piece) (at : ℕ) → offers f ts 0 at ≡ []
unfolding offers points steps
no_steps f [] at = refl
no_steps f (t ∷ ts) at =
    let m : min t.len 0 ≡ 0 = omega arith in
    let d : 0 - t.len ≡ 0 = omega arith in
    ap₂ (λ (k s : ℕ). points_of f at t k ++ offers f ts s (at + t.len)) m d ∙ no_steps f ts (at + t.len)

pub stop-offers : (f : ℕ) (ts : List Piece) (s at : ℕ) → offers f ts s at ≡ stop_offers f ts s at
unfolding offers stop_offers
stop-offers f [] s at = refl
stop-offers f (t ∷ ts) s at = go (ltb s t.len) refl (stop-offers f ts (s - t.len) (at + t.len))
  where
    rest : List Offer
    rest = stop_offers f ts (s - t.len) (at + t.len)

    go : (b : Bool) → ltb s t.len ≡ b → offers f ts (s - t.len) (at + t.len) ≡ rest
        → points_of f at t (min t.len s) ++ offers f ts (s - t.len) (at + t.len) ≡ cond b (points_of f at t s) (points_of f at t t.len ++ rest)
    go true e ih =
        let h = ltb-true s t.len e in
        let m : min t.len s ≡ s = omega arith in
        let d : s - t.len ≡ 0 = omega arith in
        ap₂ (λ (k n : ℕ). points_of f at t k ++ offers f ts n (at + t.len)) m d
        ∙ ap (λ (l : List Offer). points_of f at t s ++ l) (no_steps f ts (at + t.len)) ∙ append-nil (points_of f at t s)
    go false e ih =
        let h = ltb-false s t.len e in
        let m : min t.len s ≡ t.len = omega arith in
        ap₂ (λ (k : ℕ) (l : List Offer). points_of f at t k ++ l) m ih

pub stop-flag : (ts : List Piece) (s : ℕ) → outlasts ts s ≡ ltb s (total ts)
unfolding outlasts total
stop-flag [] s = sym (le-ltb s 0 (omega arith))
stop-flag (t ∷ ts) s = go (ltb s t.len) refl (ltb (s - t.len) (total ts)) refl (stop-flag ts (s - t.len))
  where
    go : (b : Bool) → ltb s t.len ≡ b → (c : Bool) → ltb (s - t.len) (total ts) ≡ c → outlasts ts (s - t.len) ≡ ltb (s - t.len) (total ts)
        → cond b true (outlasts ts (s - t.len)) ≡ ltb s (t.len + total ts)
    go true e c k ih = let h = ltb-true s t.len e in sym (lt-ltb s (t.len + total ts) (omega arith))
    go false e true k ih =
        let h = ltb-false s t.len e in
        let l = ltb-true (s - t.len) (total ts) k in
        ih ∙ k ∙ sym (lt-ltb s (t.len + total ts) (omega arith))
    go false e false k ih =
        let h = ltb-false s t.len e in
        let l = ltb-false (s - t.len) (total ts) k in
        ih ∙ k ∙ sym (le-ltb s (t.len + total ts) (omega arith))
