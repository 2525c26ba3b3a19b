-- `put_sign`: the sign is the text 45 below 0, and no text otherwise.
use mathlib.Core.Path.{ap, ◌∙◌}
use mathlib.Core.List.{List}
use Prim.Native.Nat.{ℕ, ◌+◌}
use native.Mathlib.Omega.{arith}
use lib.ListN.{length}
use mir.Facts.{to_z-of_z}
use Rattle.text.specs.Laying.{laid}
use Rattle.text.proofs.Laying.{laid_none}
use Rattle.text.proofs.Sizes.{sign_below, sign_above}
use Rattle.text.proofs.decimal.put_sign.Goals as goal

pub returns-then-z-lt0 : goal.returns-then-z-lt0
returns-then-z-lt0 c =
    let a = c.args in
    let e = sign_below a.z (rw (to_z-of_z c.ranges.z) at c.if-z-lt0.true) in
    let p = c.put_byte.ensures in
    (p.0 ∙ ap (λ (t : List ℕ). laid a.at t a.out.now) e, p.1 ∙ ap (λ (t : List ℕ). a.at + length t) e, omega (arith, p.1))

pub returns-else-z-lt0 : goal.returns-else-z-lt0
returns-else-z-lt0 c =
    let a = c.args in
    let e = sign_above a.z (rw (to_z-of_z c.ranges.z) at c.if-z-lt0.false) in
    (rw (← e) (laid_none a.at a.out.now), rw (← e) (omega arith), omega arith)
