-- On an entry the line is that entry; between two it is `line-le`'s sum, no higher than the top, so nothing overflows.
use Prim.Native.Nat.{◌+◌, ◌*◌, ◌-◌, ◌%◌, ◌≤◌}
use native.Mathlib.Nat.{le_of_lt, mod-lt, mul-le-mul_right}
use native.Mathlib.Omega.{arith}
use Rattle.sines.specs.Table.{top}
use Rattle.sines.proofs.Line.{place, place-next, on-entry, between, line-le}
use Rattle.sines.proofs.sin_at.Goals as goal

module _ (c : goal.After-entry_at-b) where
  rest_le : let s = c.args in s.q * 1024 % s.len ≤ s.len
  rest_le = le_of_lt (mod-lt (c.args.q * 1024) c.requires.0)

  sum-le : let s = c.args in
      c.entry_at-a.result * (s.len - s.q * 1024 % s.len) + c.entry_at-b.result * (s.q * 1024 % s.len) ≤ top * s.len
  sum-le =
      let s = c.args in
      line-le c.entry_at-a.result c.entry_at-b.result (s.q * 1024 % s.len) s.len c.entry_at-a.ensures.1
      c.entry_at-b.ensures.1 rest_le

pub overflow_mul-x : goal.overflow_mul-x
overflow_mul-x c = omega arith

pub entry_at-a-requires : goal.entry_at-a-requires
entry_at-a-requires c = (omega (arith, place c.args.q c.args.len c.requires.2), c.requires.3)

pub overflow_mul-result : goal.overflow_mul-result
overflow_mul-result c = omega (arith, mul-le-mul_right c.args.len c.entry_at-a.ensures.1)

pub returns-then-rest-eq0 : goal.returns-then-rest-eq0
returns-then-rest-eq0 c =
    (on-entry c.args.q c.args.len c.if-rest-eq0.true c.entry_at-a.ensures.0, mul-le-mul_right c.args.len c.entry_at-a.ensures.1)

pub overflow_add-k : goal.overflow_add-k
overflow_add-k c = omega (arith, place c.args.q c.args.len c.requires.2)

pub entry_at-b-requires : goal.entry_at-b-requires
entry_at-b-requires c = (omega (arith, place-next c.args.q c.args.len c.requires.2 c.if-rest-eq0.false), c.requires.3)

pub returns-else-rest-eq0 : goal.returns-else-rest-eq0
returns-else-rest-eq0 c =
    let s = c.args in
    (between s.q s.len c.entry_at-a.ensures.0 c.entry_at-b.ensures.0, sum-le c)
