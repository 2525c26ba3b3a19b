-- The tests made of the values of a list within its limit are those of the lent ones.
use Rattle.std.proofs.Common.{rules, ◌≡◌, true, false, ◌&&◌, length}
use lib.Dec.{ltb}
use Rattle.laws.specs.Lists.{all}
use Rattle.numbers.specs.Limits.{list_limit}
use Rattle.numbers.specs.Ranges.{is_time, is_length, is_number}
use Rattle.counted.specs.Numbers.{numbers}
use Rattle.reserved.specs.Setting.{cycle_asked, cycle_args, length_of, rest_of}
use Rattle.reserved.proofs.Laid.{laid_rest}
use Rattle.reserved.proofs.cycle_asked.Goals as goal

pub returns-in_err-ask : goal.returns-in_err-ask
unfolding cycle_asked cycle_args
returns-in_err-ask c =
    let v = c.args.args.now in
    let t : c.is_time.result ≡ is_time c.args.timepos = search rules in
    let d : c.is_length.result ≡ is_length c.args.delay = search rules in
    let f : ltb list_limit (length v) ≡ false = search rules in
    let n : c.in_ok-length.length ≡ length_of v = search rules in
    let i : c.is_length-2.result ≡ is_length (length_of v) = search rules in
    let w : c.in_ok-length.values ≡ numbers (rest_of v) = search rules in
    let l : c.numbers_ok.result ≡ all is_number (rest_of v) = search (rules, laid_rest v f) in
    let e : (is_time c.args.timepos && is_length c.args.delay && is_length (length_of v) && all is_number (rest_of v)) ≡ false = search rules in
    rw (f, e) (search rules)

pub returns : goal.returns
unfolding cycle_asked cycle_args
returns c =
    let v = c.args.args.now in
    let t : c.is_time.result ≡ is_time c.args.timepos = search rules in
    let d : c.is_length.result ≡ is_length c.args.delay = search rules in
    let f : ltb list_limit (length v) ≡ false = search rules in
    let n : c.in_ok-length.length ≡ length_of v = search rules in
    let i : c.is_length-2.result ≡ is_length (length_of v) = search rules in
    let w : c.in_ok-length.values ≡ numbers (rest_of v) = search rules in
    let l : c.numbers_ok.result ≡ all is_number (rest_of v) = search (rules, laid_rest v f) in
    let e : (is_time c.args.timepos && is_length c.args.delay && is_length (length_of v) && all is_number (rest_of v)) ≡ true = search rules in
    rw (f, e) (search rules)
