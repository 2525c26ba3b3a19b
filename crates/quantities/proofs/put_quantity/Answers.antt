-- `put_quantity`: one group, or all four without those that the shortest form leaves out (`lowest`).
use Rattle.std.proofs.Common.{◌≡◌, ◌%◌, arith}
use Rattle.quantities.proofs.Groups.{has1, quantity-size, lowest}
use Rattle.quantities.proofs.put_quantity.Goals as goal

pub put_byte-requires : goal.put_byte-requires
put_byte-requires c = rw (has1 c.args.q c.if-q-lt-TWO.true) at c.requires

pub overflow_sub-quantity_size : goal.overflow_sub-quantity_size
overflow_sub-quantity_size c = omega (arith, quantity-size c.args.q)

pub returns-then-q-lt-TWO : goal.returns-then-q-lt-TWO
returns-then-q-lt-TWO c =
    let low : c.args.q % 128 ≡ c.args.q = omega arith in
    rw (has1 c.args.q c.if-q-lt-TWO.true, low) c.put_byte.ensures

pub returns-else-q-lt-TWO : goal.returns-else-q-lt-TWO
returns-else-q-lt-TWO c =
    rw (c.quantity_size.ensures, c.group.ensures.value, c.group-else-q-lt-TWO.ensures.value, c.group-else-q-lt-TWO-2.ensures.value, lowest c.args.q) at c.put.ensures
