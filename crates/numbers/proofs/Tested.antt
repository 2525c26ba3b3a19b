-- That 0 may be handed in; and what `ask` says by its answer.
--     denied, granted   it refuses where what was asked does not hold, and else it holds
use mathlib.Core.Path.{◌≡◌, refl}
use mathlib.Core.Bool.{Bool, true, false}
use lib.IntN.{pos}
use Rattle.std.specs.Prelude.{Ok, Err}
use Rattle.numbers.specs.declared.refusals.Refusal.{Refusal}
use Rattle.numbers.specs.Refusals.{asked}
use Rattle.laws.specs.Integers.{inside, sized}
use Rattle.numbers.specs.Ranges.{is_number}

pub zero_number : is_number (pos 0) ≡ true
unfolding is_number sized inside
zero_number = refl

pub denied : (holds : Bool) (why r : Refusal) → Err why ≡ asked holds r → (holds ≡ false) × (why ≡ r)
denied true why r e = absurd (cc)
denied false why r e = (refl, cc)

pub granted : (holds : Bool) (r : Refusal) → Ok tt ≡ asked holds r → holds ≡ true
granted true r e = refl
granted false r e = absurd (cc)
