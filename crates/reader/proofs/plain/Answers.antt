-- `plain` meets its contract: no number is near a sign.
use Prim.Native.Nat.{◌%◌}
use native.Mathlib.Omega.{arith}
use mir.Facts.{to_z-of_z, to_z_pos}
use mir.Syntax.{w64}
use Rattle.reader.proofs.plain.Goals as goal

pub returns : goal.returns
returns c =
    rw (to_z-of_z c.ranges.kind, to_z_pos w64 {n = c.args.time} (omega arith), to_z_pos w64 {n = c.args.status % 16} (omega arith), to_z_pos w64 {n = c.args.v1} (omega arith), to_z_pos w64 {n = c.args.v2} (omega arith), to_z_pos w64 {n = c.args.v3} (omega arith))
