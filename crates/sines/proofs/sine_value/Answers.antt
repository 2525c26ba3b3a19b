-- The three steps of the definition, one after the other; that the value stays between its ends is the law `sine-mag`.
use mathlib.Core.Path.{◌≡◌, ◌∙◌}
use Prim.Native.Nat.{◌*◌}
use native.Mathlib.Omega.{arith}
use borrow.Author.Rules.{sfits_of}
use mir.Syntax.{w64}
use mir.Facts.{to_z-of_z}
use Rattle.laws.proofs.Signed.{nat_abs_le}
use Rattle.sines.specs.Table.{top}
use Rattle.sines.specs.Sine.{share_of, mix_of, sine_of}
use Rattle.sines.proofs.Between.{sine-mag}
use Rattle.sines.proofs.sine_value.Goals as goal

pub mix-requires : goal.mix-requires
mix-requires c =
    rw (to_z-of_z c.ranges.low, to_z-of_z c.ranges.high)
    (omega (arith, nat_abs_le c.args.low), omega (arith, nat_abs_le c.args.high), omega (arith, c.share_at.ensures.1), omega arith)

pub returns : goal.returns
unfolding sine_of
returns c =
    let d : 2097152 * c.args.len ≡ 2 * (top * c.args.len) = omega arith in
    let w = c.share_at.ensures.0 in
    let m : c.mix.result ≡ mix_of c.args.low c.args.high (share_of c.args.stype c.args.p c.args.len) (2097152 * c.args.len) =
    rw (to_z-of_z c.ranges.low, to_z-of_z c.ranges.high, w) at c.mix.ensures.0 in
    let r = rw (to_z-of_z {w = w64} (sfits_of c.mix.type_inv), m, d) at c.round_away.ensures in
    let m = sine-mag c.args.stype c.args.low c.args.high c.args.p c.args.len 16383 c.requires.p_lt_len.0 c.requires.low_bound.0 c.requires.low_bound.1 in
    let b = to_z-of_z {w = w64} (sfits_of c.round_away.type_inv) in
    record { value = b ∙ r; result_bound = rw (b, r) m }
