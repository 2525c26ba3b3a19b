-- `event_size` meets its contract: the gap is what is read back of the two times, and its bytes and the message's are the event's.
use mathlib.Core.Path.{◌≡◌, ap, sym, ◌∙◌}
use Prim.Native.Nat.{ℕ, ◌+◌}
use native.Mathlib.Omega.{arith}
use lib.ListN.{length}
use Rattle.laws.specs.Integers.{cut}
use Rattle.quantities.specs.Quantities.{quantity_of}
use Rattle.chunks.specs.Chunks.{written_after}
use Rattle.chunks.proofs.Leaves.{gap-fits, gap_back, written-length, written-most}
use Rattle.chunks.proofs.event_size.Goals as goal

-- what the two calls answer
whole : (c : goal.After-message_size) → c.quantity_size.result + c.message_size.result ≡ length (written_after c.args.last c.args.e)
whole c =
    let n = c.as_quantity.ensures ∙ ap cut (gap_back c.args.e.time c.args.last c.requires.1 c.requires.0) in
    let size = c.quantity_size.ensures ∙ ap (λ (k : ℕ). length (quantity_of k)) n in
    rw (size, c.message_size.ensures) (sym (written-length c.args.last c.args.e))

pub overflow_sub-gap : goal.overflow_sub-gap
overflow_sub-gap c = gap-fits c.args.e.time c.args.last c.requires.1 c.requires.0

pub overflow_add-result : goal.overflow_add-result
overflow_add-result c = omega (arith, whole c, written-most c.args.last c.args.e)

pub returns : goal.returns
returns c = record { value = whole c; upper_bound = omega (arith, whole c, written-most c.args.last c.args.e) }
