-- A signed number that one call answers and the next is handed: both read it back as it is.
use mathlib.Core.Path.{◌≡◌, ap, ◌∙◌}
use Prim.Native.Nat.{◌<◌, ◌^◌}
use lib.IntN.{ℤ}
use lib.Signed.{mag}
use mir.Syntax.{Width}
use mir.Val.{SFits, to_z, of_z, hbits}
use mir.Facts.{to_z-of_z}

pub handed : (w : Width) (f : ℤ → ℤ) {r n : ℤ} → mag r < 2 ^ hbits w → SFits w n → r ≡ f (to_z w (of_z w n)) → to_z w (of_z w r) ≡ f n
handed w f h k e = to_z-of_z (record { sfits = h }) ∙ e ∙ ap f (to_z-of_z k)
