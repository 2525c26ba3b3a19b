-- `step_over` meets its contract: what stands at the place is stepped over, or is too short (Places).
use Rattle.std.proofs.Common.{◌+◌, sym, arith, length-drop}
use Rattle.quantities.proofs.Groups.{quantity-within}
use Rattle.reader.specs.Steps.{tells}
use Rattle.reader.proofs.Places.{answered, over_none, over-short, over-all}
use Rattle.reader.proofs.step_over.Goals as goal

pub returns-in_default : goal.returns-in_default
returns-in_default c = answered c.faulty.result c.faulty.ensures (λ t. over_none _ _ _ c.in_default.ensures.value)

pub overflow_add-bytes : goal.overflow_add-bytes
overflow_add-bytes c =
    let a = c.args in
    let n = c.in-Some.n in
    let w = quantity-within _ n (sym c.in-Some.ensures.value) in
    omega (arith, length-drop (a.from + a.used) a.s.now, w.1, c.in-Some.ensures.value_lt_quantity_top)

pub returns-then-s-at : goal.returns-then-s-at
returns-then-s-at c =
    let a = c.args in
    let left = length-drop (a.from + a.used) a.s.now in
    answered c.faulty-then-s-at.result c.faulty-then-s-at.ensures
    (λ t. over-short _ _ _ c.in-Some.n c.in-Some.ensures.value (omega (arith, left, c.if-s-at.true)))

pub returns : goal.returns
unfolding tells
returns c =
    let a = c.args in
    let left = length-drop (a.from + a.used) a.s.now in
    record { at_each_time = (λ t. over-all _ _ _ c.in-Some.n c.in-Some.ensures.value (omega (arith, left, c.if-s-at.false))); gap_lt_quantity_top = c.requires.1 }
