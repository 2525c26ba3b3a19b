-- `end_at` meets its contract: the length at the place is 0, and the last byte (Places).
use Rattle.std.proofs.Common.{◌+◌, sym, ◌∙◌, length-drop}
use Rattle.reader.specs.Steps.{tells}
use Rattle.reader.proofs.Places.{answered, end_none, end-long, end-behind, end-well}
use Rattle.reader.proofs.end_at.Goals as goal

pub returns-in_default : goal.returns-in_default
returns-in_default c = answered c.faulty.result c.faulty.ensures (λ t. end_none _ _ _ c.in_default.ensures.value)

pub returns-then-n-ne0 : goal.returns-then-n-ne0
returns-then-n-ne0 c =
    answered c.faulty-then-n-ne0.result c.faulty-then-n-ne0.ensures (λ t. end-long _ _ _ c.in-Some.n c.in-Some.ensures.value c.if-n-ne0.true)

pub returns-then-n-s : goal.returns-then-n-s
returns-then-n-s c =
    let a = c.args in
    let left = length-drop (a.from + a.used) a.s.now in
    answered c.faulty-then-n-s.result c.faulty-then-n-s.ensures
    (λ t. end-behind _ _ _ c.in-Some.n c.in-Some.ensures.value c.if-n-ne0.false (λ e. c.if-n-s.true (e ∙ left)))

pub returns : goal.returns
unfolding tells
returns c =
    let a = c.args in
    let left = length-drop (a.from + a.used) a.s.now in
    record { at_each_time = (λ t. end-well _ _ _ c.in-Some.n c.in-Some.ensures.value c.if-n-ne0.false (c.if-n-s.false ∙ sym left)); gap_lt_quantity_top = c.requires.1 }
