-- `numbers_of` lays the lent numbers over an array of zeros.
use Rattle.std.proofs.Common.{rules, ◌≤◌, length}
use borrow.Author.Tests.{le-ltb}
use Rattle.numbers.specs.Limits.{list_limit}
use Rattle.counted.specs.Numbers.{zeros}
use Rattle.counted.proofs.numbers_of.Goals as goal

pub returns : goal.returns
unfolding zeros
returns c =
    let h : length c.args.args.now ≤ list_limit = search rules in
    rw (le-ltb _ _ h, c.copy_from_slice.ensures.after)
