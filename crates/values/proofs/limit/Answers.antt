-- Both ends are numbers of 32 bits, and what is limited to them is no greater than what was handed in (`mag-range`).
use mathlib.Core.Path.{◌≡◌, refl, sym, ◌∙◌}
use native.Mathlib.Omega.{arith}
use Prim.Native.Nat.{◌<◌, ◌^◌}
use lib.Signed.{mag}
use mir.Syntax.{w32, w64}
use mir.Facts.{to_z-of_z}
use borrow.Author.Rules.{rules, sfits_of}
use Rattle.laws.specs.Integers.{range_of}
use Rattle.values.proofs.Clamping.{mag-range}
use Rattle.values.proofs.limit.Goals as goal

pub returns-in-Some : goal.returns-in-Some
returns-in-Some c =
    let l = c.in-Some.low in
    let h = c.in-Some.high in
    let lo : mag l < 2 ^ 31 = search rules in
    let hi : mag h < 2 ^ 31 = search rules in
    let low = to_z-of_z {w = w64} (sfits_of c.from.type_inv) ∙ c.from.ensures ∙ to_z-of_z {w = w32} {z = l} (record { sfits = lo }) in
    let high = to_z-of_z {w = w64} (sfits_of c.from-in-Some.type_inv) ∙ c.from-in-Some.ensures ∙ to_z-of_z {w = w32} {z = h} (record { sfits = hi }) in
    let e = sym c.range_of.ensures ∙ c.in-Some.is in
    let q : c.value_range.result ≡ range_of l c.args.v h = c.value_range.ensures ∙ rw (low, high, to_z-of_z c.ranges.v) in
    let m = mag-range l c.args.v h (2 ^ 38) (omega arith) (omega arith) (omega arith) in
    rw (to_z-of_z {w = w64} (sfits_of c.value_range.type_inv), q, e) (refl, omega arith)
