-- `param_at` chooses by the number.
use Rattle.std.proofs.Common.{rules, ◌≡◌, arith}
use borrow.Author.Tests.{ne_eqb}
use Rattle.playing.specs.Which.{param_of}
use Rattle.playing.proofs.param_at.Goals as goal

pub returns-in-0 : goal.returns-in-0
unfolding param_of
returns-in-0 c =
    let e : c.args.which ≡ 0 = search rules in
    rw e

pub returns-in-1 : goal.returns-in-1
unfolding param_of
returns-in-1 c =
    let e : c.args.which ≡ 1 = search rules in
    rw e

pub returns-in-2 : goal.returns-in-2
unfolding param_of
returns-in-2 c =
    let e : c.args.which ≡ 2 = search rules in
    rw e

pub returns-in-3 : goal.returns-in-3
unfolding param_of
returns-in-3 c =
    let e : c.args.which ≡ 3 = search rules in
    rw e

pub returns-in_default : goal.returns-in_default
unfolding param_of
returns-in_default c =
    let n = c.args.which in
    rw (ne_eqb n 0 (λ e. omega arith), ne_eqb n 1 (λ e. omega arith), ne_eqb n 2 (λ e. omega arith), ne_eqb n 3 (λ e. omega arith))
