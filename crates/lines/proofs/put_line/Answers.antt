-- `put_line`: three numbers and three more.
use native.Mathlib.Omega.{arith}
use Rattle.lines.proofs.Putting.{behind}
use mir.Facts.{to_z-of_z}
use mir.Syntax.{w64}
use borrow.Author.Rules.{sfits_of}
use Rattle.lines.specs.Lines.{line_text}
use Rattle.lines.proofs.put_line.Goals as goal

pub returns : goal.returns
unfolding line_text
returns c =
    let e = c.args.e in
    let t = to_z-of_z {w = w64} {z = e.time} (sfits_of c.struct_told-1.given.1.0.1) in
    let k = to_z-of_z {w = w64} {z = e.kind} (sfits_of c.struct_told-2-1.given.0.1) in
    let h = to_z-of_z {w = w64} {z = e.channel} (sfits_of c.struct_told-3-1.given.1.1.0.1) in
    let x = to_z-of_z {w = w64} {z = e.v1} (sfits_of c.struct_told-4-1.given.1.1.1.0.1) in
    let y = to_z-of_z {w = w64} {z = e.v2} (sfits_of c.struct_told-5-1.given.1.1.1.1.0.1) in
    let z = to_z-of_z {w = w64} {z = e.v3} (sfits_of c.struct_told-6-1.given.1.1.1.1.1.0.1) in
    let f = c.put_three-p.ensures in
    let g = c.put_three.ensures in
    record { puts = behind (omega (arith, c.requires)) (rw (t, k, h) at f.puts) (rw (x, y, z) at g.puts); upper_bound = omega (arith, f.upper_bound, g.upper_bound) }
