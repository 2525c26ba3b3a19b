-- `off_of` meets its contract: the end's time is a sum of two numbers that are small.
use Rattle.std.proofs.Common.{◌<◌, ◌^◌, ℤ, ◌+ℤ◌, w64, FitsSigned, to_z-of_z, arith}
use Rattle.std.specs.Int.Signed.{mag}
use Rattle.laws.proofs.Signed.{mag-add}
use Rattle.notes.proofs.off_of.Goals as goal

small : (z : ℤ) → mag z < 2 ^ 60 → FitsSigned w64 z
small z h = omega arith

sum_fits : (a b : ℤ) → mag a < 2 ^ 60 → mag b < 2 ^ 60 → FitsSigned w64 (a +ℤ b)
sum_fits a b h k = omega (arith, mag-add a b)

pub overflow_add-result : goal.overflow_add-result
overflow_add-result c =
    rw (to_z-of_z (small c.args.e.time c.requires.0), to_z-of_z (small c.args.e.v2 c.requires.1)) (sum_fits c.args.e.time c.args.e.v2 c.requires.0 c.requires.1)

pub returns : goal.returns
returns c =
    let e = c.args.e in
    let g = c.struct_told-1.given in
    rw (
      to_z-of_z (small e.time c.requires.0),
      to_z-of_z (small e.v2 c.requires.1),
      to_z-of_z (sum_fits e.time e.v2 c.requires.0 c.requires.1),
      to_z-of_z {w = w64} {z = e.channel} (record { sfits = g.1.1.0.1 }),
      to_z-of_z {w = w64} {z = e.v1} (record { sfits = g.1.1.1.0.1 }),
      to_z-of_z {w = w64} {z = e.v3} (record { sfits = g.1.1.1.1.1.0.1 }),
      to_z-of_z {w = w64} {z = e.offset} (record { sfits = g.1.1.1.1.1.1.0.1 }),
      to_z-of_z {w = w64} {z = e.len} (record { sfits = g.1.1.1.1.1.1.1.0.1 }),
    )
