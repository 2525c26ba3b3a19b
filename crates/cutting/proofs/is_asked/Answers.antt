-- `is_asked` meets its contract: every test is made on the bits, and each answers its part of the definition.
use mathlib.Core.Path.{ap₂}
use lib.Signed.{le_z}
use mir.Syntax.{w64}
use native.Mathlib.Omega.{arith}
use Rattle.laws.proofs.Fitting.{fit, back}
use Rattle.laws.proofs.Bits.{flag}
use Rattle.laws.proofs.Tests.{both}
use Rattle.cutting.specs.Value.{speaks}
use Rattle.cutting.proofs.KindBits.{control-fits}
use Rattle.cutting.proofs.is_asked.Goals as goal

pub returns : goal.returns
unfolding speaks
returns c =
    let x = c.args.e in
    let y = c.args.a in
    both
    (both
    (both
    (flag (fit w64 x.kind (omega arith)) control-fits)
    (flag (fit w64 x.channel (omega arith)) (fit w64 y.channel (omega arith))))
    (flag (fit w64 x.v1 (omega arith)) (fit w64 y.number (omega arith))))
    (ap₂ le_z (back w64 x.time (omega arith)) (back w64 y.time (omega arith)))
