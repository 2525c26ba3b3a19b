-- What a range test says of a number's magnitude, which is what the sums and casts ask.
use mathlib.Core.Path.{◌≡◌}
use mathlib.Core.Bool.{true}
use Prim.Native.Nat.{◌≤◌, ◌^◌}
use lib.IntN.{ℤ}
use lib.Signed.{mag}
use Rattle.laws.proofs.Ranges.{sized-mag}
use Rattle.numbers.specs.Ranges.{is_time, is_stored_time, is_number, is_length}

module _ (z : ℤ) where
  pub time-mag : is_time z ≡ true → mag z ≤ 2 ^ 40
  unfolding is_time
  time-mag e = sized-mag (2 ^ 40) z e

  pub stored-mag : is_stored_time z ≡ true → mag z ≤ 2 ^ 41
  unfolding is_stored_time
  stored-mag e = sized-mag (2 ^ 41) z e

  pub number-mag : is_number z ≡ true → mag z ≤ 2 ^ 22
  unfolding is_number
  number-mag e = sized-mag (2 ^ 22) z e

  pub length-mag : is_length z ≡ true → mag z ≤ 2 ^ 20
  unfolding is_length
  length-mag e = sized-mag (2 ^ 20) z e
