-- What a call's number, and what became of a test, say of what was asked.
--     told-asked           of one test: its refusal's number, or 0
--     asked-yes, asked-no  where the call goes on the test held, and where it refuses it did not
--     ask-ok, ask-err      the same by the answer's name
--     some-number          no refusal has the number 0
--     told-well, told-ill  so 0 says that all was well
use Rattle.std.proofs.Common.{◌≡◌, Bool, true, false, cond, refl, sym, ap, ◌∙◌, arith, Result, Ok, Err}
use Rattle.std.specs.Prelude.{is_ok}
use Rattle.numbers.specs.declared.refusals.Refusal.{Refusal}
use Rattle.numbers.specs.declared.refusals.Refusal.TheVariants.{NotAList, NoTarget, TooMany, OutOfRange, NoLayer, NoPlace, NoRoom, TapeFault, OutOfOrder, Unwritable, OutputShort, NoChunk, EventBroken, NoEnd, TwoChannels, BeforeStart}
use Rattle.numbers.specs.Refusals.{number_of, told, asked}

pub told-asked : (ok : Bool) (r : Refusal) → told (asked ok r) ≡ cond ok 0 (number_of r)
told-asked true r = refl
told-asked false r = refl

pub ask-ok : (b : Bool) (r : Refusal) {q : Result Unit Refusal} {x : Unit} → q ≡ asked b r → q ≡ Ok x → b ≡ true
ask-ok true r h e = refl
ask-ok false r h e = absurd (cc)

pub ask-err : (b : Bool) (r : Refusal) {q : Result Unit Refusal} {x : Refusal} → q ≡ asked b r → q ≡ Err x → (b ≡ false) × (number_of x ≡ number_of r)
ask-err true r h e = absurd (cc)
ask-err false r h e = (refl, ap told (sym e ∙ h))

pub some-number : (r : Refusal) → number_of r ≡ 0 → ⊥
some-number NotAList e = omega arith
some-number NoTarget e = omega arith
some-number TooMany e = omega arith
some-number OutOfRange e = omega arith
some-number NoLayer e = omega arith
some-number NoPlace e = omega arith
some-number NoRoom e = omega arith
some-number TapeFault e = omega arith
some-number OutOfOrder e = omega arith
some-number Unwritable e = omega arith
some-number OutputShort e = omega arith
some-number NoChunk e = omega arith
some-number EventBroken e = omega arith
some-number NoEnd e = omega arith
some-number TwoChannels e = omega arith
some-number BeforeStart e = omega arith

pub told-well : (q : Result Unit Refusal) → is_ok q ≡ true → told q ≡ 0
told-well (Ok x) e = refl
told-well (Err r) e = absurd (cc)

pub told-ill : (q : Result Unit Refusal) → is_ok q ≡ false → told q ≡ 0 → ⊥
told-ill (Ok x) e = absurd (cc)
told-ill (Err r) e = some-number r

pub asked-no : (holds : Bool) {r e : Refusal} → Err e ≡ asked holds r → (holds ≡ false) × (e ≡ r)
asked-no true h = absurd (cc)
asked-no false h = (refl, cc)

pub asked-yes : (holds : Bool) (r : Refusal) {u : Unit {0}} → Ok u ≡ asked holds r → holds ≡ true
asked-yes true r h = refl
asked-yes false r h = absurd (cc)
