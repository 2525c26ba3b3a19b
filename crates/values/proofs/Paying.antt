-- The random step, as the definition of one value says it: the seed after the step moves the value.
use mathlib.Core.Path.{◌≡◌, refl}
use mathlib.Core.Bool.{Bool, true, false}
use Prim.Native.Nat.{ℕ}
use lib.IntN.{ℤ, pos}
use lib.Signed.{le_z}
use Rattle.numbers.specs.Random.{next_rand, spread, seed_after}

pub spread-seed : (v n : ℤ) (y : ℕ) → spread v n (next_rand y) ≡ spread v n (seed_after n y)
unfolding spread
spread-seed v n y = go (le_z n (pos 0)) refl
  where
    go : (t : Bool) → le_z n (pos 0) ≡ t → spread v n (next_rand y) ≡ spread v n (seed_after n y)
    go true e = rw e
    go false e = rw e
