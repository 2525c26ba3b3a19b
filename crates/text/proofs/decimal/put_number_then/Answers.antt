-- `put_number_then`: the number, and the byte behind it.
use mathlib.Core.List.{[], ◌∷◌}
use native.Mathlib.Omega.{arith}
use mir.Facts.{to_z-of_z}
use Rattle.text.specs.Decimals.{number_text}
use Rattle.text.proofs.Laying.{put-behind}
use Rattle.text.proofs.decimal.put_number_then.Goals as goal

pub returns : goal.returns
returns c =
    let a = c.args in
    let z = to_z-of_z c.ranges.z in
    let g = c.put_number-p.ensures in
    let p = c.put_byte.ensures in
    let b = put-behind a.at a.out.now (number_text a.z) (a.behind ∷ []) (omega (arith, c.requires)) (rw z at g.0) (rw z at g.1) p.0 p.1 in
    (b.0, b.1, omega (arith, g.2, p.1))
