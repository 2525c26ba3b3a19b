-- The refusals of a call on a target, read off its tests in their order.
use mathlib.Core.Path.{◌≡◌, refl}
use mathlib.Core.Bool.{Bool, true, false, cond, ◌&&◌}
use Prim.Native.Nat.{ℕ}
use native.Mathlib.Omega.{arith}
use borrow.Author.Tests.{ne_eqb}
use lib.IntN.{ℤ}
use Rattle.numbers.specs.Ranges.{is_target}
use Rattle.state.specs.declared.Track.{Track}
use Rattle.state.specs.Tests.{ok_track}
use Rattle.state.specs.Calls.{answer, answered}
use Rattle.drawing.specs.Options.{target_refusal}

-- where nothing else is asked
pub with-true : {b r : Bool} → b ≡ r → (b && true) ≡ r
with-true {b = true} e = e
with-true {b = false} e = e

-- what the number of an answer says
module _ (a b : Track) where
  pub unmoved : (b' : Track) (n : ℕ) → (n ≡ 0 → ⊥) → answered n a b ≡ answered n a b'
  unfolding answered
  unmoved b' n h = rw (ne_eqb n 0 h)

  pub settled : (n : ℕ) → n ≡ 0 → answered n a b ≡ answer 0 b
  unfolding answered
  settled n e = rw e

opened : (p q r : Bool) → ◌≡◌ {A = ℕ} (cond p (cond (q && r) 0 4) 2) 0 → q ≡ true
opened false q r e = absurd (omega arith)
opened true true r e = refl
opened true false r e = absurd (omega arith)

-- a call that is not refused was handed a track that may be used
pub usable : (a : Track) (target : ℤ) (ok : Bool) → target_refusal a target ok ≡ 0 → ok_track a ≡ true
unfolding target_refusal
usable a target ok e = opened (is_target target) (ok_track a) ok e
