-- `put_number`: the sign, and the size behind it.
use mathlib.Core.Path.{ap, ◌∙◌}
use native.Mathlib.Omega.{arith}
use lib.IntN.{nat_abs}
use mir.Facts.{to_z-of_z}
use Rattle.text.specs.Decimals.{decimal, sign_of, number_text}
use Rattle.text.proofs.Laying.{put-behind}
use Rattle.text.proofs.decimal.put_number.Goals as goal

pub returns : goal.returns
unfolding number_text
returns c =
    let a = c.args in
    let z = to_z-of_z c.ranges.z in
    let n = c.size_of.ensures ∙ ap nat_abs z in
    let g = c.put_sign-p.ensures in
    let p = c.put_decimal.ensures in
    let b =
    put-behind a.at a.out.now (sign_of a.z) (decimal (nat_abs a.z)) (omega (arith, c.requires)) (rw z at g.0) (rw z at g.1) (rw n at p.0) (rw n at p.1) in
    (b.0, b.1, omega (arith, g.2, p.2))
