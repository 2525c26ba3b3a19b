-- `event_fits` meets its contract: every test is made, and each answers its part of the definition.
use Prim.Native.Nat.{ℕ, ◌^◌, ◌<◌}
use lib.Dec.{lit<}
use lib.IntN.{pos}
use mir.Syntax.{w64}
use mir.Val.{SFits}
use Rattle.laws.proofs.Bits.{flag}
use Rattle.laws.proofs.Tests.{is_at, both, one_of}
use Rattle.numbers.specs.Ranges.{is_bend}
use Rattle.chunks.specs.Writing.{is_data, fits}
use Rattle.chunks.proofs.event_fits.Goals as goal

literal : (n : ℕ) → n < 2 ^ 63 → SFits w64 (pos n)
literal n h = record { sfits = h }

pub returns : goal.returns
unfolding fits
returns c =
    let g = c.struct_told-1.given in
    let k : SFits w64 c.args.e.kind = record { sfits = g.0.1 } in
    let first = is_at w64 is_data g.1.1.1.0.1 c.is_data-first.ensures in
    let third = is_at w64 is_data g.1.1.1.1.1.0.1 c.is_data.ensures in
    let second = is_at w64 is_data g.1.1.1.1.0.1 c.is_data-2.ensures in
    let bend = is_at w64 is_bend g.1.1.1.0.1 c.is_bend.ensures in
    one_of
    (one_of
    (one_of
    (one_of (both (both (flag k (literal 0 (lit< tt))) first) third) (both (flag k (literal 1 (lit< tt))) first))
    (both (both (flag k (literal 2 (lit< tt))) first) second))
    (both (flag k (literal 5 (lit< tt))) first))
    (both (flag k (literal 3 (lit< tt))) bend)
