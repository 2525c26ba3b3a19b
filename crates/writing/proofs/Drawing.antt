-- A sine's piece is in range.
use Prim.Native.Nat.{◌*◌, ◌≤◌, ◌^◌, max}
use native.Mathlib.Nat.{mul-le-mul}
use native.Mathlib.Omega.{arith}
use lib.IntN.{ℤ}
use lib.Signed.{mag}
use Rattle.laws.specs.Integers.{cut}
use Rattle.laws.proofs.Signed.{cut-mag}
use Rattle.sines.specs.declared.SineType.{SineType}
use Rattle.offers.specs.Pieces.{Mild}
use Rattle.writing.specs.Sines.{sine_piece}

-- turns times their length
pub long-le : (len times : ℤ) → mag len ≤ 2 ^ 20 → mag times ≤ 2 ^ 20 → cut len * max (cut times) 1 ≤ 2 ^ 40
long-le len times p q =
    let a = cut-mag len in
    let b = cut-mag times in
    let m = mul-le-mul {n₁ = cut len} {m₁ = max (cut times) 1} {n₂ = 2 ^ 20} {m₂ = 2 ^ 20} (omega arith) (omega arith) in
    omega arith

pub sine-mild : (stype : SineType) (low high len times : ℤ) → mag low ≤ 16383 → mag high ≤ 16383 → mag len ≤ 2 ^ 20 → mag times ≤ 2 ^ 20
    → Mild (sine_piece stype low high len times) 0
unfolding sine_piece
sine-mild stype low high len times p q r s =
    let l = long-le len times r s in
    let c = cut-mag len in
    record { drawn = (p, q, omega arith, omega arith); ends = omega arith }
