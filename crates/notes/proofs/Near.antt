-- An event that may be stored: its time and length are small enough that their sum fits a number.
use mathlib.Core.Path.{◌≡◌}
use mathlib.Core.Bool.{true}
use Prim.Native.Nat.{ℕ, ◌-◌, ◌<◌, ◌^◌}
use native.Mathlib.Omega.{arith}
use borrow.Author.Tests.{leb-true}
use lib.IntN.{ℤ, pos, negsuc}
use lib.Signed.{mag, le_z}
use Rattle.laws.specs.Integers.{inside}
use Rattle.laws.proofs.Ranges.{left, sized-mag}
use Rattle.numbers.specs.Ranges.{is_event_time, is_word}
use Rattle.events.specs.declared.Event.{Event}
use Rattle.events.specs.Events.{ok_event}
use Rattle.events.proofs.Stored.{storable}

word-mag : (z : ℤ) → is_word z ≡ true → mag z < 2 ^ 60
unfolding is_word inside
word-mag (pos n) e = let h = leb-true n (2 ^ 31 - 1) e in omega arith
word-mag (negsuc n) e = let h = leb-true n (2 ^ 31 - 1) (left (le_z (negsuc (2 ^ 31 - 1)) (negsuc n)) true e) in omega arith

pub near : (store : ℕ) (e : Event) → ok_event store e ≡ true → (mag e.time < 2 ^ 60) × (mag e.v2 < 2 ^ 60)
unfolding is_event_time
near store e h =
    let s = storable store e h in
    let t = sized-mag (2 ^ 42) e.time s.time in
    (omega arith, word-mag e.v2 s.v2)
