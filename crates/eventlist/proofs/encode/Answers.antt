-- `encode` meets its contract: eight stores at literal places store over all of a part of eight (`sets-all`). Each field went
-- through a local, as its bits, and is read back as it was.
use mathlib.Core.Path.{◌∙◌}
use mathlib.Core.List.{[], ◌∷◌}
use native.Mathlib.Omega.{arith}
use lib.IntN.{ℤ}
use lib.ListN.{length-set}
use mir.Syntax.{w64}
use mir.Val.{to_z, of_z}
use mir.Facts.{to_z-of_z}
use Rattle.laws.proofs.Rows.{sets-all}
use Rattle.eventlist.proofs.encode.Goals as goal

-- a number that went through a local
abbrev through : ℤ → ℤ
through z = to_z w64 (of_z w64 z)

pub bounds-s-0 : goal.bounds-s-0
bounds-s-0 c = omega arith

pub bounds-s-1 : goal.bounds-s-1
bounds-s-1 c = simp length-set (omega arith)

pub bounds-s-2 : goal.bounds-s-2
bounds-s-2 c = simp length-set (omega arith)

pub bounds-s-3 : goal.bounds-s-3
bounds-s-3 c = simp length-set (omega arith)

pub bounds-s-4 : goal.bounds-s-4
bounds-s-4 c = simp length-set (omega arith)

pub bounds-s-5 : goal.bounds-s-5
bounds-s-5 c = simp length-set (omega arith)

pub bounds-s-6 : goal.bounds-s-6
bounds-s-6 c = simp length-set (omega arith)

pub bounds-s-7 : goal.bounds-s-7
bounds-s-7 c = simp length-set (omega arith)

pub shape_of-s : goal.shape_of-s
shape_of-s c = simp length-set

pub returns : goal.returns
returns c =
    let e = c.args.e in
    let g = c.struct_told-8-1.given in
    sets-all c.args.s.now (through e.kind ∷ through e.time ∷ through e.channel ∷ through e.v1 ∷ through e.v2 ∷ through e.v3 ∷ through e.offset ∷ through e.len ∷ []) c.requires
    ∙ rw (
      to_z-of_z {w = w64} {z = e.kind} (record { sfits = g.0.1 }),
      to_z-of_z {w = w64} {z = e.time} (record { sfits = g.1.0.1 }),
      to_z-of_z {w = w64} {z = e.channel} (record { sfits = g.1.1.0.1 }),
      to_z-of_z {w = w64} {z = e.v1} (record { sfits = g.1.1.1.0.1 }),
      to_z-of_z {w = w64} {z = e.v2} (record { sfits = g.1.1.1.1.0.1 }),
      to_z-of_z {w = w64} {z = e.v3} (record { sfits = g.1.1.1.1.1.0.1 }),
      to_z-of_z {w = w64} {z = e.offset} (record { sfits = g.1.1.1.1.1.1.0.1 }),
      to_z-of_z {w = w64} {z = e.len} (record { sfits = g.1.1.1.1.1.1.1.0.1 }),
    )
