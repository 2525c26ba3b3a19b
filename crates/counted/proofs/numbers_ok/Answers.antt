-- `numbers_ok` tests the numbers that count, one place after the other.
use Rattle.std.proofs.Common.{rules, ◌≡◌, ℕ, ◌<◌, length, true, get_or, pos}
use Rattle.std.specs.Prelude.{◌↔◌}
use borrow.Author.Tests.{le-leb, lt-leb}
use Rattle.laws.specs.Lists.{counted}
use Rattle.numbers.specs.Ranges.{is_number}
use Rattle.counted.specs.Numbers.{shown, ok_numbers}
use Rattle.counted.proofs.Chains.{all-told}
use Rattle.counted.proofs.numbers_ok.Goals as goal

pub returns-then-list-le-LIST_LIMIT : goal.returns-then-list-le-LIST_LIMIT
unfolding ok_numbers counted
returns-then-list-le-LIST_LIMIT c =
    let l = shown c.args.list in
    let each : c.all.result ≡ true ↔ ((i : ℕ) → i < length l → is_number (get_or l i (pos 0)) ≡ true) = search rules in
    rw (le-leb _ _ c.if-list-le-LIST_LIMIT.true) (all-told is_number l (pos 0) c.all.result each)

pub returns-else-list-le-LIST_LIMIT : goal.returns-else-list-le-LIST_LIMIT
unfolding ok_numbers counted
returns-else-list-le-LIST_LIMIT c = rw (lt-leb _ _ c.if-list-le-LIST_LIMIT.false)
