-- What is said of a cycle's answer (`said`) tells the answer: how many values there are, or the number, tells its case, and the number
-- why it refuses.
--     same_case      two answers of which the same is said are the same
--     calc-refused   `calc` refuses only by number 4
use Rattle.std.proofs.Common.{◌≡◌, refl, sym, ap, ◌∙◌, Bool, true, false, cond, ◌&&◌, ℕ, ◌<◌, ℤ, pos, [], length, eqb, Option, Some, None, Result, Ok, Err, arith}
use Rattle.laws.specs.Answers.{Said}
use Rattle.numbers.specs.Ranges.{is_time}
use Rattle.numbers.specs.Refusals.{number_of}
use Rattle.numbers.specs.declared.refusals.Refusal.{Refusal}
use Rattle.numbers.specs.declared.refusals.Refusal.TheVariants.{NotAList, NoTarget, TooMany, OutOfRange, NoLayer, NoPlace, NoRoom, TapeFault, OutOfOrder, Unwritable, OutputShort, NoChunk, EventBroken, NoEnd, TwoChannels, BeforeStart}
use Rattle.reserved.specs.declared.OnCycleTime.{OnCycleTime}
use Rattle.reserved.specs.Cycle.{ok_cycle, cycle_at, said, calc_of}
use Rattle.reserved.specs.Reserve.{first_or}

-- why a call refuses, back from its number
refusal_of : ℕ → Refusal
refusal_of n =
    cond (eqb n 1) NotAList (cond (eqb n 2) NoTarget (cond (eqb n 3) TooMany (cond (eqb n 4) OutOfRange (cond (eqb n 5) NoLayer
    (cond (eqb n 6) NoPlace (cond (eqb n 7) NoRoom (cond (eqb n 8) TapeFault (cond (eqb n 10) OutOfOrder (cond (eqb n 11) Unwritable
    (cond (eqb n 12) OutputShort (cond (eqb n 13) NoChunk (cond (eqb n 14) EventBroken (cond (eqb n 15) NoEnd
    (cond (eqb n 17) TwoChannels BeforeStart))))))))))))))

number-back : (r : Refusal) → refusal_of (number_of r) ≡ r
unfolding refusal_of
number-back NotAList = refl
number-back NoTarget = refl
number-back TooMany = refl
number-back OutOfRange = refl
number-back NoLayer = refl
number-back NoPlace = refl
number-back NoRoom = refl
number-back TapeFault = refl
number-back OutOfOrder = refl
number-back Unwritable = refl
number-back OutputShort = refl
number-back NoChunk = refl
number-back EventBroken = refl
number-back NoEnd = refl
number-back TwoChannels = refl
number-back BeforeStart = refl

above-zero : (r : Refusal) → 0 < number_of r
above-zero NotAList = omega arith
above-zero NoTarget = omega arith
above-zero TooMany = omega arith
above-zero OutOfRange = omega arith
above-zero NoLayer = omega arith
above-zero NoPlace = omega arith
above-zero NoRoom = omega arith
above-zero TapeFault = omega arith
above-zero OutOfOrder = omega arith
above-zero Unwritable = omega arith
above-zero OutputShort = omega arith
above-zero NoChunk = omega arith
above-zero EventBroken = omega arith
above-zero NoEnd = omega arith
above-zero TwoChannels = omega arith
above-zero BeforeStart = omega arith

told-apart : (s t : Said) → s ≡ t → (length s.values ≡ length t.values) × (s.number ≡ t.number)
told-apart s t e = (ap (λ (x : Said). length x.values) e, ap (λ (x : Said). x.number) e)

pub same_case : (x y : Result (Option ℤ) Refusal) → said x ≡ said y → x ≡ y
same_case (Ok (Some v)) (Ok (Some w)) e = ap (λ (z : ℤ). Ok (Some z)) (ap (λ (s : Said). first_or (pos 0) s.values) e)
same_case (Ok (Some v)) (Ok None) e = absurd (omega (arith, (told-apart _ _ e).0))
same_case (Ok (Some v)) (Err r) e = absurd (omega (arith, (told-apart _ _ e).0))
same_case (Ok None) (Ok (Some w)) e = absurd (omega (arith, (told-apart _ _ e).0))
same_case (Ok None) (Ok None) e = refl
same_case (Ok None) (Err r) e = absurd (omega (arith, above-zero r, (told-apart _ _ e).1))
same_case (Err r) (Ok (Some w)) e = absurd (omega (arith, (told-apart _ _ e).0))
same_case (Err r) (Ok None) e = absurd (omega (arith, above-zero r, (told-apart _ _ e).1))
same_case (Err r) (Err q) e = ap Err (sym (number-back r) ∙ ap refusal_of (told-apart _ _ e).1 ∙ number-back q)

pub calc-refused : (c : OnCycleTime) (t : ℤ) (r : Refusal) → said (Err r) ≡ calc_of c t → r ≡ OutOfRange
unfolding calc_of refusal_of
calc-refused c t r e = go (ok_cycle c && is_time t) e
  where
    go : (b : Bool) → said (Err r) ≡ cond b (record { number = 0; values = cycle_at c t }) (record { number = 4; values = [] }) → r ≡ OutOfRange
    go true e = absurd (omega (arith, above-zero r, (told-apart _ _ e).1))
    go false e = sym (number-back r) ∙ ap refusal_of (told-apart _ _ e).1
