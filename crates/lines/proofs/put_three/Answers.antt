-- `put_three`: three numbers, each behind the one before.
use Prim.Native.Nat.{◌≤◌}
use lib.ListN.{length}
use native.Mathlib.Omega.{arith}
use Rattle.lines.proofs.Putting.{puts, behind}
use mir.Facts.{to_z-of_z}
use Rattle.lines.proofs.put_three.Goals as goal

pub returns : goal.returns
returns c =
    let x = to_z-of_z c.ranges.x in
    let y = to_z-of_z c.ranges.y in
    let z = to_z-of_z c.ranges.z in
    let f = c.put_number_then-p.ensures in
    let g = c.put_number_then-q.ensures in
    let d = c.put_number_then.ensures in
    let h : c.args.at ≤ length c.args.out.now = omega (arith, c.requires) in record {
      puts = behind h (behind h (puts (rw x at f.0) (rw x at f.1)) (puts (rw y at g.0) (rw y at g.1))) (puts (rw z at d.0) (rw z at d.1));
      upper_bound = omega (arith, f.2, g.2, d.2);
    }
