-- `cycles::owed_by`: the sum so far is what the first i owe, and no record owes more than 2^42.
use mathlib.Core.Path.{◌≡◌, refl, ◌∙◌}
use mathlib.Core.Bool.{true}
use mathlib.Core.List.{[]}
use Prim.Native.Nat.{◌≤◌, ◌^◌}
use native.Mathlib.Omega.{arith}
use borrow.Author.Rules.{rules}
use lib.IntN.{pos}
use lib.ListN.{length, get_or}
use mir.Syntax.{w64}
use mir.Val.{to_z, of_z}
use mir.Facts.{to_z-of_z}
use Rattle.cycles.specs.declared.Cycle.{Cycle}
use Rattle.cycles.specs.Due.{due_count, owed}
use Rattle.cycles.specs.Rules.{ok_cycle}
use Rattle.cycles.proofs.Fitting.{few-due}
use Rattle.cycles.proofs.Placing.{owed_more, well, within}
use Rattle.cycles.proofs.owed_by.Goals as goal
use Rattle.cycles.proofs.owed_by.Goals.{In-loop-i, After-due_count-sum}

-- what a read past the end would give
abbrev past : Cycle
past = record { target = pos 0; length = pos 0; next = pos 0; index = 0; values = record { count = 0; items = [] } }

module _ (c : In-loop-i) where
  long : length c.args.table ≡ 16
  long = search rules

  few : c.args.used ≤ 16
  few = within c.args.used c.args.table c.requires.0

  ok : ok_cycle (get_or c.args.table c.loop-i.i past) ≡ true
  ok = well c.args.used c.args.table c.loop-i.i past c.requires.0 long c.loop-i-test.true

-- what one record owes, its `until` read back
module _ (c : After-due_count-sum) (t : ok_cycle (get_or c.args.table c.loop-i.i past) ≡ true) where
  bound : c.due_count-sum.result ≤ 2 ^ 42
  bound =
      let x = get_or c.args.table c.loop-i.i past in
      let e : c.due_count-sum.result ≡ due_count c.args.until x = rw (to_z-of_z c.ranges.until) at c.due_count-sum.ensures in
      omega (arith, e, few-due x t c.args.until c.requires.1)

pub loop-i-init : goal.loop-i-init
unfolding owed
loop-i-init c = (refl, omega arith)

pub offset_bounds-table-i : goal.offset_bounds-table-i
offset_bounds-table-i c = omega (arith, few (goal.at.offset_bounds-table-i c).In-loop-i)

pub bounds-table-i : goal.bounds-table-i
bounds-table-i c = omega (arith, few (goal.at.bounds-table-i c).In-loop-i)

pub due_count-sum-requires : goal.due_count-sum-requires
due_count-sum-requires c = (ok (goal.at.due_count-sum-requires c).In-loop-i, rw (to_z-of_z c.ranges.until) c.requires.1)

pub overflow_add-sum : goal.overflow_add-sum
overflow_add-sum c =
    let a = goal.at.overflow_add-sum c in
    omega (arith, bound a.After-due_count-sum (ok a.In-loop-i), c.loop-i.invariant.1, few a.In-loop-i)

pub loop-i-preserved : goal.loop-i-preserved
loop-i-preserved c =
    let v = c.loop-i in
    let a = c.args in
    let at = goal.at.loop-i-preserved c in (
      omega (arith, v.invariant.0, c.due_count-sum.ensures, owed_more (to_z w64 (of_z w64 a.until)) a.table v.i past (omega (arith, few at.In-loop-i, long at.In-loop-i))),
      omega (arith, bound at.After-due_count-sum (ok at.In-loop-i), v.invariant.1),
    )

pub returns : goal.returns
returns c =
    let v = c.loop-i in
    let a = c.args in
    let e : v.i ≡ a.used = omega arith in
    v.invariant.0 ∙ rw (e, to_z-of_z c.ranges.until)
