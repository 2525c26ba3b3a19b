-- A signed number whose size is known: that it fits the width, and what its bits say.
use mathlib.Core.Path.{◌≡◌}
use Prim.Native.Nat.{◌<◌, ◌^◌}
use lib.IntN.{ℤ}
use lib.Signed.{mag}
use mir.Syntax.{Width}
use mir.Val.{SFits, to_z, of_z, hbits}
use mir.Facts.{to_z-of_z}

pub fit : (w : Width) (z : ℤ) → mag z < 2 ^ hbits w → SFits w z
fit w z h = record { sfits = h }

pub back : (w : Width) (z : ℤ) → mag z < 2 ^ hbits w → to_z w (of_z w z) ≡ z
back w z h = to_z-of_z (fit w z h)
