-- A curve gives its low at its start.
use mathlib.Core.Path.{◌≡◌, refl, ap, ◌∙◌}
use mathlib.Core.Bool.{false}
use mathlib.Core.List.{List, ◌∷◌}
use Prim.Native.Nat.{ℕ, zero, suc, ◌^◌, ◌≤◌, ◌<◌}
use native.Mathlib.Nat.{le_refl}
use native.Mathlib.Omega.{arith}
use borrow.Author.Tests.{lt-ltb, le-ltb, eq-eqb}
use lib.Dec.{eqb}
use lib.IntN.{ℤ, pos, negsuc, sub_ℕ, ◌-ℤ◌}
use lib.Signed.{mag}
use Rattle.laws.specs.Integers.{cut}
use Rattle.laws.proofs.Order.{lt_z-irrefl}
use Rattle.shapes.proofs.Start.{curve-start}
use Rattle.counted.specs.Numbers.{shown}
use Rattle.counted.specs.Curves.{Triple, triples}
use Rattle.std.proofs.Common.{Some}
use Rattle.reserved.specs.declared.Reserve.{Reserve}
use Rattle.reserved.specs.Cycle.{since_of}
use Rattle.reserved.specs.Curve.{curve_at}
use Rattle.reserved.specs.Reserve.{on_time, on_cycle, taken, timed}

none_left : (n : ℕ) → cut (sub_ℕ n n) ≡ 0
none_left n = simp (le-ltb n n (le_refl n)) (omega arith)

no-time : (z : ℤ) → cut (z -ℤ z) ≡ 0
no-time (pos zero) = refl
no-time (pos (suc n)) = none_left (suc n)
no-time (negsuc n) = none_left (suc n)

at_once : (z : ℤ) → since_of z z ≡ Some 0
at_once z = simp (lt_z-irrefl z, no-time z)

module _ (r : Reserve) (k : r.kind ≡ on_time) (x : Triple) (rest : List Triple) (e : triples (shown r.values) ≡ x ∷ rest) (low : mag x.low ≤ 2 ^ 22) (high : mag x.high ≤ 2 ^ 22) (p : 0 < cut x.length) (l : cut x.length ≤ 2 ^ 24) where
  first : curve_at (triples (shown r.values)) 0 ≡ Some x.low
  unfolding curve_at
  first = ap (λ (t : List Triple). curve_at t 0) e ∙ simp (lt-ltb 0 (cut x.length) p) (ap Some (curve-start x.low x.high (cut x.length) low high p l))

  pub starts-low : (def : ℤ) → timed r r.start def ≡ taken x.low r
  unfolding timed
  starts-low def =
      let n : eqb r.kind on_cycle ≡ false = rw k in
      rw (n, eq-eqb r.kind on_time k, at_once r.start, first)
