-- `clamp` is the wider clamp: its casts keep every number, and its result is one of the three.
use mathlib.Core.Path.{◌≡◌, ◌∙◌}
use Prim.Native.Nat.{◌^◌}
use native.Mathlib.Omega.{arith}
use lib.IntN.{ℤ}
use mir.Syntax.{w32, w64}
use mir.Val.{SFits, to_z, of_z}
use Rattle.laws.specs.Integers.{range_of}
use Rattle.laws.proofs.Signed.{narrow_back}
use Rattle.params.proofs.Limits.{range_size}
use Rattle.params.proofs.clamp.Goals as goal

wide : {z : ℤ} → SFits w32 z → SFits w64 z
wide f = omega arith

back : {z : ℤ} → SFits w32 z → to_z w64 (of_z w64 (to_z w32 (of_z w32 z))) ≡ z
back f = narrow_back w32 w64 f (wide f)

is : (c : goal.After-value_range) → c.value_range.result ≡ range_of c.args.low c.args.value c.args.high
is c =
    let f = c.ranges in
    c.value_range.ensures ∙ rw (c.from.ensures, c.from-2.ensures, c.from-3.ensures, back f.low, back f.value, back f.high)

small : (c : goal.After-value_range) → SFits w32 c.value_range.result
small c =
    let f = c.ranges in
    let a = c.args in
    record { sfits = rw (is c) (range_size a.low a.value a.high (2 ^ 31) f.low.sfits f.value.sfits f.high.sfits) }

pub returns : goal.returns
returns c = let f = small c in narrow_back w64 w32 (wide f) f ∙ is c
