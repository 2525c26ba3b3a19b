-- `limits_ok` joins the tests of the options.
use mathlib.Core.Path.{◌≡◌}
use borrow.Author.Rules.{rules}
use Rattle.numbers.specs.Ranges.{is_number, is_random}
use Rattle.params.specs.Param.{ok_limits}
use Rattle.params.proofs.limits_ok.Goals as goal

pub returns : goal.returns
unfolding ok_limits
returns c =
    let a = c.args.param in
    let p : c.is_random-a.result ≡ is_random a.random = search rules in
    let q : c.is_number-c.result ≡ is_number a.low = search rules in
    let r : c.is_number-d.result ≡ is_number a.high = search rules in
    let s : c.is_number-f.result ≡ is_number a.max = search rules in
    rw (p, q, r, s)
