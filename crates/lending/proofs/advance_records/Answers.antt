-- `advance_records`: each turn is one of the walk's (Turns).
use mathlib.Core.Path.{ap, ap₂}
use borrow.Author.Rules.{rules}
use Rattle.lending.specs.declared.Went.{Went}
use Rattle.lending.specs.Moving.{past}
use Rattle.lending.specs.Writing.{Pass, pass_of, onward, advanced_by}
use Rattle.lending.proofs.Turns.{next, ends-state, ends-table}
use Rattle.lending.proofs.advance_records.Goals as goal

pub loop-c-preserved : goal.loop-c-preserved
loop-c-preserved c =
    let a = c.args in
    let v = c.loop-c in
    let p = c.step_record-r in
    let e = p.ensures in
    next (onward a.round) (advanced_by a.round) past (pass_of a.going a.events.now) a.cycles.now v.c-index v.cycles (pass_of v.s v.events) v.invariant (search rules)
    p.result.cycle (pass_of p.result.going p.new.events) (ap (λ (w : Went). w.cycle) e.0) (ap₂ pass_of (ap (λ (w : Went). w.going) e.0) e.1)

pub returns : goal.returns
returns c =
    let a = c.args in
    let v = c.loop-c in
    let s = ends-state (onward a.round) (advanced_by a.round) past (pass_of a.going a.events.now) a.cycles.now v.c-index v.cycles (pass_of v.s v.events) v.invariant (search rules) in (
      ap (λ (x : Pass). x.state) s,
      ends-table (onward a.round) (advanced_by a.round) past (pass_of a.going a.events.now) a.cycles.now v.c-index v.cycles (pass_of v.s v.events) v.invariant (search rules),
      ap (λ (x : Pass). x.events) s,
    )
