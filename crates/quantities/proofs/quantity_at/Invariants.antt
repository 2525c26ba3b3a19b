-- What is read of the bytes that are left, behind so many that say `value`, is what is read from the start.
use Rattle.std.proofs.Common.{◌≡◌, ◌+◌, ◌<◌, ◌^◌, drop}
use Rattle.quantities.specs.Quantities.{quantity_bytes, quantity_from, quantity_in}
use Rattle.quantities.proofs.quantity_at.Given as goal

abbrev pub invariant-loop-used : goal.invariant-loop-used
invariant-loop-used l =
    (l.used-iterator.count + l.used-iterator.iter.n ≡ quantity_bytes)
    × (l.value < 128 ^ l.used-iterator.count)
    × (quantity_from l.used-iterator.iter.n l.value l.used-iterator.count l.used-iterator.iter.iter.rest.now ≡ quantity_in (drop l.at l.s))
