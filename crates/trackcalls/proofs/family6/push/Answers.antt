-- `push` is safe: time and value passed their tests, so that the write is ready and the offer near, and where the list is not
-- full there is a record after its last.
use Rattle.std.proofs.Common.{◌≡◌, ◌∙◌, sym, arith, ◌≤◌, ◌^◌, ℤ, w64, to_z, of_z, to_z-of_z, true}
use mir.Val.{SFits}
use Rattle.std.specs.Int.Signed.{mag}
use Rattle.std.proofs.lemmas.Bool.{ltb-true}
use Rattle.numbers.specs.Ranges.{is_number}
use Rattle.counted.proofs.Sizes.{number-mag, time-mag}
use Rattle.eventlist.proofs.EventRows.{length-rows_of}
use Rattle.script.proofs.Asking.{held}
use Rattle.trackcalls.proofs.family6.push.Goals as goal

-- a number that passed the test, widened
small : (r x : ℤ) → r ≡ x → is_number x ≡ true → mag (to_z w64 (of_z w64 r)) ≤ 2 ^ 22
small r x e n =
    let h : mag r ≤ 2 ^ 22 = rw e (number-mag x n) in
    let f : SFits w64 r = record { sfits = omega (arith, h) } in
    rw (to_z-of_z f) h

pub one_value-r-requires : goal.one_value-r-requires
one_value-r-requires c =
    let one = sym c.is_time.ensures ∙ held c.is_time.result _ c.in_ok-ask-3.ensures in
    let two = sym c.is_number.ensures ∙ held c.is_number.result _ c.in_ok-ask-4.ensures in (
      record { time = omega (arith, time-mag _ one); some = omega arith; slow = omega arith },
      record { step = omega arith; value = omega (arith, small _ _ c.from.ensures two) },
    )

pub append-desk-requires : goal.append-desk-requires
append-desk-requires c =
    let r = length-rows_of c.args.events.now in
    omega (arith, ltb-true _ _ (held _ _ c.in_ok-ask-5.ensures))
