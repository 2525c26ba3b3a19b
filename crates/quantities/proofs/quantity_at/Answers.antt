-- What is read of the bytes that are left, behind so many that say `value`, is what is read from the start.
use Rattle.std.proofs.Common.{◌-◌, sym, ◌∙◌, arith}
use Rattle.quantities.proofs.Groups.{grows, nothing_left, at_last, at_more}
use Rattle.quantities.proofs.quantity_at.Goals as goal

pub returns-then-b-lt-TWO-clause-value : goal.returns-then-b-lt-TWO-clause-value
returns-then-b-lt-TWO-clause-value c =
    let l = c.loop-used in
    let x = c.in-Some.ensures.steps in
    rw (c.from-b.ensures, x.1) (sym (at_last l.value l.used-iterator.count c.in-Some.byte.now c.next.new.self.iter.iter.rest.now c.next.new.self.iter.n x.0.1 x.0.0 (rw c.from-b.ensures at c.if-b-lt-TWO.true)) ∙ l.invariant.2)

pub loop-used-preserved : goal.loop-used-preserved
loop-used-preserved c =
    let l = c.loop-used in
    let x = c.in-Some.ensures.steps in
    let g = grows l.used-iterator.count l.value (c.from-b.result - 128) l.invariant.1 (omega arith) in (
      omega arith,
      rw x.2 g,
      rw (c.from-b.ensures, x.2) (sym (at_more l.value l.used-iterator.count c.in-Some.byte.now c.next.new.self.iter.iter.rest.now c.next.new.self.iter.n x.0.1 x.0.0 (rw c.from-b.ensures at c.if-b-lt-TWO.false)) ∙ l.invariant.2),
    )

pub returns-clause-value : goal.returns-clause-value
returns-clause-value c =
    let l = c.loop-used in
    sym (nothing_left l.used-iterator.iter.n l.value l.used-iterator.count l.used-iterator.iter.iter.rest.now (λ h. (c.in-None.ensures.steps.0 h).0)) ∙ l.invariant.2
