-- What was asked held, where the call goes on.
use Rattle.std.proofs.Common.{◌≡◌, Bool, true, false}
use mathlib.Core.Path.{refl}
use Rattle.std.specs.Prelude.{Ok}
use Rattle.numbers.specs.declared.refusals.Refusal.{Refusal}
use Rattle.numbers.specs.Refusals.{asked}

pub held : (holds : Bool) (r : Refusal) {u : Unit {0}} → Ok u ≡ asked holds r → holds ≡ true
held true r h = refl
held false r h = absurd (cc)
