-- The tests made of a list within its limit are those of the lent one.
use Rattle.std.proofs.Common.{rules, ◌≡◌, false, ◌&&◌, length}
use lib.Dec.{ltb}
use Rattle.numbers.specs.Limits.{list_limit}
use Rattle.numbers.specs.Ranges.{is_time, is_length}
use Rattle.counted.specs.Curves.{is_curve}
use Rattle.reserved.specs.Setting.{curve_asked}
use Rattle.reserved.proofs.Laid.{laid_triples}
use Rattle.reserved.proofs.curve_asked.Goals as goal

pub returns-in_err-ask : goal.returns-in_err-ask
unfolding curve_asked
returns-in_err-ask c =
    let v = c.args.values.now in
    let t : c.is_time.result ≡ is_time c.args.timepos = search rules in
    let d : c.is_length.result ≡ is_length c.args.delay = search rules in
    let f : ltb list_limit (length v) ≡ false = search rules in
    let l : c.curve_ok.result ≡ is_curve v = search (rules, laid_triples v f) in
    let n : (is_time c.args.timepos && is_length c.args.delay && is_curve v) ≡ false = search rules in
    rw (f, n) (search rules)
