-- The place is reduced by the count, so it is below it.
use Rattle.std.proofs.Common.{rules, arith, ◌<◌}
use mir.Syntax.{w64}
use mir.Val.{SFits}
use mir.Facts.{to_z-of_z}
use native.Mathlib.Nat.{mod-lt}
use Rattle.numbers.specs.Limits.{list_limit}
use Rattle.counted.proofs.Counted.{numbers-count}
use Rattle.reserved.proofs.Cycles.{cycle_start, cycle-values}
use Rattle.reserved.proofs.cycle_at.Goals as goal

pub steps_since-requires-clause-start_value : goal.steps_since-requires-clause-start_value
steps_since-requires-clause-start_value c =
    let f : SFits w64 c.args.cycle.start = search rules in
    rw (to_z-of_z f) (cycle_start c.args.cycle c.requires.cycle_value)

place : (c : goal.In_ok-place) → c.in_ok-place.place < list_limit
place c =
    let h = numbers-count c.args.cycle.values (cycle-values c.args.cycle c.requires.cycle_value) in
    let k = mod-lt c.in_ok-turns.turns c.in_ok-place.ensures.0 in
    omega (arith, c.in_ok-place.ensures)

pub offset_bounds-cycle-place : goal.offset_bounds-cycle-place
offset_bounds-cycle-place c = let h = place c in omega arith

pub bounds-cycle-place : goal.bounds-cycle-place
bounds-cycle-place c = place c
