-- `widen` meets its contract: the earlier start and the later end, each of two numbers that fit.
use Rattle.std.proofs.Common.{w64, to_z-of_z, FitsSigned}
use Rattle.eventlist.proofs.widen.Goals as goal

pub returns : goal.returns
returns c =
    let i = c.args in
    let gs = c.struct_told-1.given in
    let gw = c.struct_told-2-1.given in
    let ws : FitsSigned w64 i.w.start = record { sfits = gw.1.1.0.1 } in
    let we : FitsSigned w64 i.w.end = record { sfits = gw.1.1.1.0.1 } in
    let ss : FitsSigned w64 i.s.start = record { sfits = gs.0.1 } in
    let se : FitsSigned w64 i.s.end = record { sfits = gs.1.0.1 } in
    rw (
      to_z-of_z {w = w64} {z = c.min.result} (record { sfits = c.min.type_inv }),
      to_z-of_z {w = w64} {z = c.max.result} (record { sfits = c.max.type_inv }),
      c.min.ensures.value,
      c.max.ensures.value,
      to_z-of_z ws,
      to_z-of_z ss,
      to_z-of_z we,
      to_z-of_z se,
    )
