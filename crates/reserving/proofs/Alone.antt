-- An older call that is handed the track alone and is not refused was handed a track that may be used (`usable`).
use mathlib.Core.Path.{◌≡◌, refl}
use mathlib.Core.Bool.{Bool, true, false, cond}
use Prim.Native.Nat.{ℕ}
use native.Mathlib.Omega.{arith}
use lib.IntN.{ℤ}
use Rattle.numbers.specs.Ranges.{is_target}
use Rattle.state.specs.declared.Track.{Track}
use Rattle.state.specs.Tests.{ok_track}
use Rattle.reserving.specs.Old.{alone_refusal}

pub usable : (a : Track) (target : ℤ) → alone_refusal a target ≡ 0 → ok_track a ≡ true
unfolding alone_refusal
usable a target e = go (is_target target) (ok_track a) e
  where
    go : (p q : Bool) → ◌≡◌ {A = ℕ} (cond p (cond q 0 4) 2) 0 → q ≡ true
    go false q e = absurd (omega arith)
    go true false e = absurd (omega arith)
    go true true e = refl
