-- What the test of a sine says of its numbers, as a write asks it.
--     sine-aimed, sine-shape        it has a target, and one of three shapes
--     sine-low .. sine-times        its ends and its lengths
use mathlib.Core.Path.{◌≡◌}
use mathlib.Core.Bool.{Bool, true, ◌&&◌}
use Prim.Native.Nat.{◌≤◌, ◌^◌}
use borrow.Author.Tests.{leb-true}
use lib.Dec.{leb}
use lib.Signed.{mag}
use Rattle.laws.proofs.Ranges.{left, right, sized-mag}
use Rattle.numbers.specs.Ranges.{is_target, is_sine_end, is_length}
use Rattle.tables.specs.declared.OnNoteSine.{OnNoteSine}
use Rattle.tables.specs.Reservations.{ok_sine}

module _ (s : OnNoteSine) (e : ok_sine s ≡ true) where
  abbrev two : Bool
  two = is_target s.target && leb s.shape 2

  abbrev three : Bool
  three = two && is_sine_end s.low

  abbrev four : Bool
  four = three && is_sine_end s.high

  abbrev five : Bool
  five = four && is_length s.length

  to-five : five ≡ true
  unfolding ok_sine
  to-five = left five (is_length s.times) e

  to-four : four ≡ true
  to-four = left four (is_length s.length) to-five

  to-three : three ≡ true
  to-three = left three (is_sine_end s.high) to-four

  to-two : two ≡ true
  to-two = left two (is_sine_end s.low) to-three

  pub sine-aimed : is_target s.target ≡ true
  sine-aimed = left (is_target s.target) (leb s.shape 2) to-two

  pub sine-shape : s.shape ≤ 2
  sine-shape = leb-true s.shape 2 (right (is_target s.target) (leb s.shape 2) to-two)

  pub sine-low : mag s.low ≤ 16383
  unfolding is_sine_end
  sine-low = sized-mag 16383 s.low (right two (is_sine_end s.low) to-three)

  pub sine-high : mag s.high ≤ 16383
  unfolding is_sine_end
  sine-high = sized-mag 16383 s.high (right three (is_sine_end s.high) to-four)

  pub sine-length : mag s.length ≤ 2 ^ 20
  unfolding is_length
  sine-length = sized-mag (2 ^ 20) s.length (right four (is_length s.length) to-five)

  pub sine-times : mag s.times ≤ 2 ^ 20
  unfolding ok_sine is_length
  sine-times = sized-mag (2 ^ 20) s.times (right five (is_length s.times) e)
