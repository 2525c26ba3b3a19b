-- A curve gives its low at its start. The part gone is a zero there, whatever its sign; a finite number times it is one too; and a zero added to a whole
-- number leaves that number, which the cut gives back.
use Rattle.std.proofs.Common.{◌≡◌, ℕ, zero, suc, ◌^◌, ◌<◌, ◌≤◌, true, false, ℤ, pos, negsuc, ◌-ℤ◌, nat_abs, ap, ◌∙◌, zero-lt-suc, mul-zero, arith, lit≤, le→leb, lt→ltb}
use lib.Signed.{mag}
use lib.Ieee.{Float, binary32, in_float, round, add, mul, of_int, to_signed}
use lib.Ieee.Back.{round_whole, positive_back, negative_back}
use Rattle.laws.proofs.Floats.{Within, of_int-within, mul-within, add-within}
use Rattle.laws.proofs.Zeros.{cut-zero, div-zero, add-zero}
use Rattle.shapes.specs.Curve.{curve_f, curve_of}
use Rattle.shapes.proofs.Size.{whole, part, room}

-- a zero added to a whole number, and the sum cut
back : (x : Float) (z : ℤ) → Within x 0 → nat_abs z ≤ 2 ^ 24 → to_signed 63 (add binary32 x (of_int binary32 z)) ≡ z
unfolding of_int in_float
back x (pos zero) p h = cut-zero 63 (add binary32 x (of_int binary32 (pos 0))) (add-within binary32 x (of_int binary32 (pos 0)) 0 0 p (of_int-within binary32 (pos 0) h) (lit≤ tt))
back x (pos (suc n)) p h =
    ap (to_signed 63) (add-zero binary32 x (round binary32 false (suc n) 1) false (suc n) p (zero-lt-suc n) (round_whole binary32 false (suc n) h))
    ∙ (positive_back binary32 63 (suc n) (le→leb (suc n) (2 ^ 24) h) (omega arith)).1
back x (negsuc n) p h =
    ap (to_signed 63) (add-zero binary32 x (round binary32 true (suc n) 1) true (suc n) p (zero-lt-suc n) (round_whole binary32 true (suc n) h))
    ∙ (negative_back binary32 63 n (lt→ltb n (2 ^ 24) (omega arith)) (omega arith)).1

pub curve-start : (low high : ℤ) (len : ℕ) → mag low ≤ 2 ^ 22 → mag high ≤ 2 ^ 22 → 0 < len → len ≤ 2 ^ 24 → curve_of low high 0 len ≡ low
unfolding curve_of curve_f
curve-start low high len h k p l =
    let d = nat_abs (high -ℤ low) in
    let r = room low high h k in
    let z = div-zero binary32 (of_int binary32 (pos 0)) (of_int binary32 (pos len)) len (whole 0 (lit≤ tt)) (whole len l) p in
    let m = mul-within binary32 (of_int binary32 (high -ℤ low)) (part 0 len) d 0 (of_int-within binary32 (high -ℤ low) (omega arith)) z (omega (arith, mul-zero d)) in
    back (mul binary32 (of_int binary32 (high -ℤ low)) (part 0 len)) low (rw (mul-zero d) at m) (omega arith)
