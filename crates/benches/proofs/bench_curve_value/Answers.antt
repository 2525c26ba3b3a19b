-- `bench_curve_value` is safe: both ends passed the test of a number.
use Rattle.std.proofs.Common.{◌≡◌, ◌∙◌, sym, arith, ◌≤◌, ◌^◌, ℤ, w64, to_z, of_z, to_z-of_z, true}
use mir.Val.{SFits}
use Rattle.std.specs.Int.Signed.{mag}
use Rattle.numbers.specs.Ranges.{is_number}
use Rattle.counted.proofs.Sizes.{number-mag}
use Rattle.benches.proofs.bench_curve_value.Goals as goal

-- a number that passed the test, widened
small : (r x : ℤ) → r ≡ x → is_number x ≡ true → mag (to_z w64 (of_z w64 r)) ≤ 2 ^ 22
small r x e n =
    let h : mag r ≤ 2 ^ 22 = rw e (number-mag x n) in
    let f : SFits w64 r = record { sfits = omega (arith, h) } in
    rw (to_z-of_z f) h

pub curve_value-requires-clause-low_bound : goal.curve_value-requires-clause-low_bound
curve_value-requires-clause-low_bound c =
    let one = sym c.is_number.ensures ∙ c.if-is_number.true in
    let two = sym c.is_number-then-is_number.ensures ∙ c.if-is_number-2.true in
    (small _ _ c.from.ensures one, small _ _ c.from-then-len-le-LONGEST.ensures two)
