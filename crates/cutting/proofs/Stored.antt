-- What the cuts lean on in an event that may be stored.
--     fits-sound              its time is an event's, its number a controller's where the kind is one: it is sound
--     sound-time, sound-number
--     controller-up           a controller's number is an index of 128
use mathlib.Core.Path.{◌≡◌, refl, sym}
use mathlib.Core.Bool.{true, not, ◌||◌, true≢false}
use Prim.Native.Nat.{ℕ, ◌<◌}
use native.Mathlib.Omega.{arith}
use borrow.Author.Tests.{leb-true}
use lib.Dec.{T, leb}
use lib.IntN.{ℤ, pos, negsuc, nat_abs}
use lib.Signed.{non_neg}
use Rattle.laws.specs.Integers.{inside, cut}
use Rattle.laws.proofs.Ranges.{left, right}
use Rattle.numbers.specs.Ranges.{is_event_time, is_controller}
use Rattle.events.specs.declared.Event.{Event}
use Rattle.events.specs.Events.{ok_numbered, ok_event}
use Rattle.events.specs.Kinds.{control_change}
use Rattle.events.proofs.Stored.{storable}
use Rattle.cutting.specs.declared.Cut.{Cut}
use Rattle.cutting.specs.Cuts.{folds, keeps, shifted, fits_cut}
use Rattle.cutting.specs.Passes.{sound}
use Rattle.cutting.proofs.Folding.{folds-kind}

pub fits-sound : (store : ℕ) (c : Cut) (e : Event) → fits_cut store c e ≡ true → sound e ≡ true
unfolding fits_cut sound
fits-sound store c e y =
    let ok = left (ok_event store e) (not (keeps c e) || is_event_time (shifted c e).time) y in
    let s = storable store e ok in
    rw (s.time, s.numbered)

module _ (e : Event) (y : sound e ≡ true) where
  pub sound-time : is_event_time e.time ≡ true
  unfolding sound
  sound-time = left (is_event_time e.time) (ok_numbered e) y

  pub sound-number : ok_numbered e ≡ true
  unfolding sound
  sound-number = right (is_event_time e.time) (ok_numbered e) y

pub numbered : (at : ℤ) (e : Event) → ok_numbered e ≡ true → folds control_change at e ≡ true → is_controller e.v1 ≡ true
unfolding ok_numbered
numbered at e y f = rw (folds-kind control_change at e f) at y

pub controller-up : (z : ℤ) → is_controller z ≡ true → T (non_neg z) × (nat_abs z < 128)
unfolding is_controller inside
controller-up (pos n) y = let h = leb-true n 127 (right (leb 0 n) (leb n 127) y) in (tt, omega arith)
controller-up (negsuc n) y = absurd (true≢false (sym y))

pub controller-cut : (z : ℤ) → is_controller z ≡ true → nat_abs z ≡ cut z
unfolding is_controller inside
controller-cut (pos n) y = refl
controller-cut (negsuc n) y = absurd (true≢false (sym y))
