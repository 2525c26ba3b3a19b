-- `put_byte`: one store.
use mathlib.Core.Path.{refl}
use native.Mathlib.Omega.{arith}
use Rattle.text.proofs.Laying.{laid-byte}
use Rattle.text.proofs.decimal.put_byte.Goals as goal

pub returns : goal.returns
returns c = let a = c.args in (laid-byte a.at a.b a.out.now (omega (arith, c.requires)), refl)
