-- What every test said of a call on a reservation that is not refused (`aimed`, `usable`, `allowed`, `roomy`).
use mathlib.Core.Path.{◌≡◌, refl}
use mathlib.Core.Bool.{Bool, true, false, cond, ◌&&◌}
use mathlib.Core.List.{List}
use Prim.Native.Nat.{ℕ}
use native.Mathlib.Omega.{arith}
use lib.Dec.{eqb}
use lib.IntN.{ℤ}
use Rattle.numbers.specs.Limits.{places}
use Rattle.numbers.specs.Ranges.{is_target}
use Rattle.cycles.specs.declared.Cycle.{Cycle}
use Rattle.state.specs.declared.Track.{Track}
use Rattle.state.specs.Tests.{ok_lent}
use Rattle.reserving.specs.Clearing.{refusal}

passed : (s t l o k r : Bool) → ◌≡◌ {A = ℕ} (cond s (cond t (cond l (cond (o && k) (cond r 0 6) 4) 3) 2) 1) 0 → (t ≡ true) × (o ≡ true) × (k ≡ true) × (r ≡ true)
passed false t l o k r e = absurd (omega arith)
passed true false l o k r e = absurd (omega arith)
passed true true false o k r e = absurd (omega arith)
passed true true true false k r e = absurd (omega arith)
passed true true true true false r e = absurd (omega arith)
passed true true true true true false e = absurd (omega arith)
passed true true true true true true e = (refl, refl, refl, refl)

module _ (a : Track) (size : ℕ) (cs : List Cycle) (target : ℤ) (short ok room : Bool) (e : refusal a size cs target short ok room ≡ 0) where
  through : (is_target target ≡ true) × (ok_lent a cs ≡ true) × (ok ≡ true) × (room ≡ true)
  unfolding refusal
  through = passed (eqb size places) (is_target target) short (ok_lent a cs) ok room e

  pub aimed : is_target target ≡ true
  aimed = through.0

  pub usable : ok_lent a cs ≡ true
  usable = through.1

  pub allowed : ok ≡ true
  allowed = through.2

  pub roomy : room ≡ true
  roomy = through.3
