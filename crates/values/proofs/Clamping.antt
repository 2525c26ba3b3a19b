-- What is limited stays small, and what is clamped lies from 0 to its target's top.
--     mag-range    a limited number is no greater than what it is made of
--     event-bytes  its event's size
--     clamped-in   01, "One value": a written value, whatever was offered
use mathlib.Core.Path.{◌≡◌, refl}
use mathlib.Core.Bool.{Bool, true, false, cond}
use Prim.Native.Nat.{ℕ, ◌≤◌}
use native.Mathlib.Omega.{arith}
use borrow.Author.Tests.{ltb-false, le-leb, le-ltb}
use lib.Dec.{ltb}
use lib.IntN.{ℤ, pos, negsuc}
use lib.Signed.{mag, lt_z}
use Rattle.laws.specs.Integers.{inside, range_of}
use Rattle.numbers.specs.Limits.{value_bytes}
use Rattle.numbers.specs.Ranges.{is_controller}
use Rattle.events.specs.Kinds.{bytes_of}
use Rattle.values.specs.Clamp.{top_of, scaled_for, clamped}
use Rattle.values.specs.Value.{controller_event, bend_event, event_for}

mag-cond : (t : Bool) (a b : ℤ) (n : ℕ) → mag a ≤ n → mag b ≤ n → mag (cond t a b) ≤ n
mag-cond true a b n p q = p
mag-cond false a b n p q = q

pub mag-range : (low v high : ℤ) (n : ℕ) → mag low ≤ n → mag v ≤ n → mag high ≤ n → mag (range_of low v high) ≤ n
mag-range low v high n p q r = mag-cond (lt_z v low) low _ n p (mag-cond (lt_z high v) high v n r q)

range-in : (v : ℤ) (top : ℕ) → inside (pos 0) (pos top) (range_of (pos 0) v (pos top)) ≡ true
unfolding inside
range-in (negsuc n) top = le-leb 0 top (omega arith)
range-in (pos n) top = go (ltb top n) refl
  where
    go : (t : Bool) → ltb top n ≡ t → inside (pos 0) (pos top) (cond (ltb n 0) (pos 0) (cond (ltb top n) (pos top) (pos n))) ≡ true
    go true e = rw (le-ltb n 0 (omega arith), e, le-leb 0 top (omega arith), le-leb top top (omega arith))
    go false e = let h = ltb-false top n e in rw (le-ltb n 0 (omega arith), e, le-leb 0 n (omega arith), le-leb n top (omega arith))

pub clamped-in : (target v : ℤ) → inside (pos 0) (pos (top_of target)) (clamped target v) ≡ true
unfolding clamped
clamped-in target v = range-in (scaled_for target v) (top_of target)

-- what is written for a target counts 8 bytes, whatever its value
pub event-bytes : (target time channel v : ℤ) → bytes_of (event_for target time channel v).kind (event_for target time channel v).len ≡ value_bytes
unfolding event_for bytes_of
event-bytes target time channel v = go (is_controller target)
  where
    go : (t : Bool) → bytes_of (cond t (controller_event time channel target v) (bend_event time channel v)).kind (cond t (controller_event time channel target v) (bend_event time channel v)).len ≡ value_bytes
    go true = refl
    go false = refl
