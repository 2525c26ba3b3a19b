-- Each arm is the quarter that its key names.
use Prim.Native.Nat.{ℕ, ◌%◌, ◌*◌, ◌/◌, ◌≤◌, ◌<◌}
use native.Mathlib.Nat.{mod-lt}
use native.Mathlib.Omega.{arith}
use borrow.Author.Rules.{rules}
use borrow.Author.Tests.{ne_eqb}
use Rattle.sines.specs.Sine.{lift_in}
use Rattle.sines.proofs.lift_at.Goals as goal

rest_le : (p len : ℕ) → p < len → 4 * p % len ≤ len
rest_le p len h = let l : 0 < len = omega arith in omega (arith, mod-lt (4 * p) l)

pub overflow_sub-len : goal.overflow_sub-len
overflow_sub-len c = rest_le c.args.p c.args.len c.requires.1

pub sin_at-requires-in-1 : goal.sin_at-requires-in-1
sin_at-requires-in-1 c = (omega arith, c.requires.0, rest_le c.args.p c.args.len c.requires.1, c.requires.2)

pub overflow_sub-len-in-2 : goal.overflow_sub-len-in-2
overflow_sub-len-in-2 c = rest_le c.args.p c.args.len c.requires.1

pub sin_at-requires-in_default : goal.sin_at-requires-in_default
sin_at-requires-in_default c = (omega arith, c.requires.0, rest_le c.args.p c.args.len c.requires.1, c.requires.2)

pub returns-in-0 : goal.returns-in-0
unfolding lift_in
returns-in-0 c = (simp (c.in-0.is, c.sin_at.ensures.0), omega arith)

pub returns-in-1 : goal.returns-in-1
unfolding lift_in
returns-in-1 c = (simp (c.in-1.is, c.sin_at-in-1.ensures.0), omega arith)

pub returns-in-2 : goal.returns-in-2
unfolding lift_in
returns-in-2 c = (simp (c.in-2.is, c.sin_at-in-2.ensures.0), omega arith)

pub returns-in_default : goal.returns-in_default
unfolding lift_in
returns-in_default c =
    let q = 4 * c.args.p / c.args.len in
    (simp (ne_eqb q 0 (search rules), ne_eqb q 1 (search rules), ne_eqb q 2 (search rules), c.sin_at-in_default.ensures.0), omega arith)
